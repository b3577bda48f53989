-- How a fault of a certificate's text is told.
use Rattle.std.specs.Prelude.{ℕ, List, codes}
use Rattle.cert_tree.specs.FaultText.{assemble_fault_text}
use Rattle.text_words.specs.FaultText.{text_fault_text}
use Rattle.cert_text.specs.declared.faults.CertTextFault.{CertTextFault}
use Rattle.cert_text.specs.declared.faults.CertTextFault.TheVariants as cert_text

abbrev pub cert_text_fault_text : CertTextFault → List ℕ
cert_text_fault_text (cert_text.Text fault) = text_fault_text fault
cert_text_fault_text (cert_text.Assemble fault) = assemble_fault_text fault
cert_text_fault_text cert_text.Memory = codes "out of memory"
