-- What three documents spell, and what a check of them prints.
use Rattle.std.specs.Prelude.{◌≡◌, ◌≢◌, List, Result, Ok, Err, length, ℕ}
use Rattle.cert_tree.specs.Assembly.{Assembles, IsAssembly}
use Rattle.cert_tree.specs.declared.faults.AssembleFault.TheVariants as assemblies
use Rattle.match_puzzle.specs.Puzzle.{IsPuzzle, Task}
use Rattle.match_puzzle.specs.declared.placements.Placement.{Placement}
use Rattle.match_text.specs.Puzzles.{PuzzleReads}
use Rattle.match_text.specs.Lists.{list_of}
use Rattle.match_text.specs.declared.faults.PuzzleTextFault.TheVariants as puzzles
use Rattle.text_words.specs.declared.faults.ReadFault.TheVariants as lists
use Rattle.cert_tree.specs.Certificate.{piece_number}
use Rattle.cert_text.specs.CertificateText.{Said, certificate_of}
use Rattle.cert_text.specs.declared.faults.CertTextFault.TheVariants as certificates
use Rattle.cert_check.specs.Setting.{Question}
use Rattle.puzzle_symmetry.specs.Complete.{IsCompleteList}
use Rattle.cert_check.specs.Answer.{IsAnswer, IsSound}
use Rattle.cert_check.specs.declared.faults.Answer.{Answer}
use Rattle.match_report.specs.AnswerText.{answer_line}
use Rattle.byte_streams.specs.Documents.{Texts}
use Rattle.match_report.specs.Statuses.{status_of}
use Rattle.match_report.specs.declared.statuses.Status.{Status}
use Rattle.match_report.specs.declared.statuses.Verdict.{Verdict}
use Rattle.command_runs.specs.declared.faults.RunFault.{RunFault}
use Rattle.command_runs.specs.declared.faults.RunFault.TheVariants as runs

-- The three documents spell the question: the puzzle, the list, and a certificate whose lemmas are assembled so.
pub record Spells (texts : Texts) (question : Question) : Type 0 where
  pub puzzle_read : PuzzleReads texts.puzzle (Ok question.puzzle)
  pub list_read : list_of texts.list ≡ Ok question.listed
  pub said : Said
  pub certificate_read : certificate_of texts.certificate ≡ Ok said
  pub symmetries : question.symmetries ≡ said.symmetries
  pub assembled : IsAssembly piece_number (length said.pieces) said.pieces question.lemmas

-- The documents spell a puzzle and a list; then comes this of the certificate.
abbrev pub ReadsUpTo : Texts → Type 0 → Type 0
ReadsUpTo texts Then =
    (p : Task) × (listed : List (List Placement))
    × PuzzleReads texts.puzzle (Ok p) × (list_of texts.list ≡ Ok listed) × Then

-- What a fault of a check says of the documents: it is the first fault, in their order, or want of memory.
abbrev pub CheckFails : Texts → RunFault → Type 0
CheckFails texts (runs.Puzzle puzzles.Memory) = ⊥
CheckFails texts (runs.Puzzle fault) = PuzzleReads texts.puzzle (Err fault)
CheckFails texts (runs.List (lists.Text fault)) =
    (p : Task) × PuzzleReads texts.puzzle (Ok p) × (list_of texts.list ≡ Err fault)
CheckFails texts (runs.Certificate (certificates.Text fault)) =
    ReadsUpTo texts (certificate_of texts.certificate ≡ Err fault)
CheckFails texts (runs.Certificate (certificates.Assemble fault)) =
    ReadsUpTo texts ((said : Said) × (certificate_of texts.certificate ≡ Ok said)
    × (fault ≢ assemblies.Memory) × Assembles piece_number (length said.pieces) said.pieces (Err fault))
CheckFails texts runs.Memory = Unit {0}
CheckFails texts fault = ⊥

-- What comes of reading three documents: the question that they spell, or why they spell none.
abbrev pub ReadsQuestion : Texts → Result Question RunFault → Type 0
ReadsQuestion texts (Ok question) = Spells texts question × IsPuzzle question.puzzle
ReadsQuestion texts (Err fault) = CheckFails texts fault

-- The documents spell a list that is complete: different arrangements are listed, from which the named symmetries reach
-- all of the puzzle's.
abbrev pub SpellCompleteList : Texts → Type 0
SpellCompleteList texts =
    (question : Question) × Spells texts question × IsCompleteList question.puzzle question.symmetries question.listed

-- It is said of the question what its answer is: the line of that, and its status. Where the answer is that the list is
-- complete, it is: the main theorem.
pub record IsAnswered (question : Question) (verdict : Verdict) : Type 0 where
  pub answer : Answer
  pub answered : IsAnswer question answer
  pub sound : IsSound question answer
  pub line : verdict.line.items ≡ answer_line answer (length question.listed)
  pub status : verdict.status ≡ status_of answer

-- The documents spell a question, of whose answer this is so, and the status is that of the answer. Where the answer is
-- that the list is complete, it is: the main theorem.
pub record Answers (texts : Texts) (Is : Question → Answer → Type 0) (status : Status) : Type 0 where
  pub question : Question
  pub answer : Answer
  pub spelled : Spells texts question
  pub answered : IsAnswer question answer
  pub sound : IsSound question answer
  pub is : Is question answer
  pub ends : status ≡ status_of answer

-- What a check of three documents prints, and its status: the line of the answer.
abbrev pub CheckGives : Texts → (printed : List ℕ) → Status → Type 0
CheckGives texts printed status =
    Answers texts (λ question answer. printed ≡ answer_line answer (length question.listed)) status
