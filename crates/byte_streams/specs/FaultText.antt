-- How documents are called.
use Rattle.std.specs.Prelude.{ℕ, List, codes}
use Rattle.byte_streams.specs.declared.faults.Document.{Document}
use Rattle.byte_streams.specs.declared.faults.Document.TheVariants as documents

abbrev pub document_word : Document → List ℕ
document_word documents.Puzzle = codes "puzzle"
document_word documents.List = codes "list"
document_word documents.Certificate = codes "certificate"
document_word documents.Input = codes "input"
document_word documents.Parts = codes "parts"
