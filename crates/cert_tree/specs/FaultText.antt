-- How a fault of pieces is told: the kind, and then the number.
use Rattle.std.specs.Prelude.{ℕ, List, ◌++◌, codes, decimal}
use Rattle.cert_tree.specs.declared.faults.AssembleFault.{AssembleFault}
use Rattle.cert_tree.specs.declared.faults.AssembleFault.TheVariants as assemblies

abbrev pub assemble_fault_text : AssembleFault → List ℕ
assemble_fault_text (assemblies.Stranger number) = codes "stranger " ++ decimal number
assemble_fault_text (assemblies.Double number) = codes "double " ++ decimal number
assemble_fault_text (assemblies.Missing number) = codes "missing " ++ decimal number
assemble_fault_text assemblies.Memory = codes "out of memory"
