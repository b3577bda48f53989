-- How faults of a text are told: the line, and what is wrong in it.
use Rattle.std.specs.Prelude.{ℕ, List, ◌++◌, codes, decimal}
use Rattle.text_words.specs.declared.faults.TextKind.{TextKind}
use Rattle.text_words.specs.declared.faults.TextKind.TheVariants as kinds
use Rattle.text_words.specs.declared.faults.TextFault.{TextFault}
use Rattle.text_words.specs.declared.faults.ReadFault.{ReadFault}
use Rattle.text_words.specs.declared.faults.ReadFault.TheVariants as reads

abbrev pub kind_word : TextKind → List ℕ
kind_word kinds.Version = codes "version"
kind_word kinds.Word = codes "word"
kind_word kinds.Number = codes "number"
kind_word kinds.Limit = codes "limit"
kind_word kinds.Ends = codes "ends"
kind_word kinds.After = codes "after"
kind_word kinds.TooDeep = codes "too-deep"

abbrev pub text_fault_text : TextFault → List ℕ
text_fault_text fault = codes "line " ++ decimal fault.line ++ codes ": " ++ kind_word fault.kind

abbrev pub read_fault_text : ReadFault → List ℕ
read_fault_text (reads.Text fault) = text_fault_text fault
read_fault_text reads.Memory = codes "out of memory"
