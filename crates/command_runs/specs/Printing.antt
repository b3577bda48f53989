-- What is printed of three documents beside the line of their answer.
use Rattle.std.specs.Prelude.{◌≡◌, ◌≤◌, ◌++◌, ℕ, List, length}
use Rattle.match_limits.specs.declared.TheConstants.{MOST_ARRANGEMENTS}
use Rattle.match_puzzle.specs.declared.placements.Placement.{Placement}
use Rattle.match_text.specs.ListSpelling.{IsListText}
use Rattle.cert_check.specs.Setting.{Question}
use Rattle.cert_check.specs.Answer.{IsAnswer, IsSound}
use Rattle.cert_check.specs.declared.faults.Answer.{Answer}
use Rattle.cert_check.specs.declared.faults.Answer.TheVariants.{Complete, Refused}
use Rattle.match_report.specs.AnswerText.{answer_line}
use Rattle.match_report.specs.CompleteLists.{AreAllInOrder, AreFirstsOf, IsCountOf, count_text}
use Rattle.show_pictures.specs.Listed.{IsPictureFrom}
use Rattle.show_refusals.specs.Explanation.{IsExplanation}
use Rattle.symmetry_orbits.specs.Expansion.{AreMoreReached}
use Rattle.symmetry_orbits.specs.Orbits.{AreMoreListedOrInOrbit}
use Rattle.symmetry_orbits.specs.declared.numbers.Count.{Count}
use Rattle.byte_streams.specs.Documents.{Texts}
use Rattle.command_runs.specs.Checking.{Answers, CheckFails, Spells}
use Rattle.match_report.specs.Statuses.{status_of}
use Rattle.match_report.specs.declared.statuses.Status.{Status}
use Rattle.command_runs.specs.declared.faults.RunFault.{RunFault}
use Rattle.command_runs.specs.declared.faults.RunFault.TheVariants as runs
use Rattle.command_runs.specs.declared.printing_runs.Printing.{Printing}
use Rattle.command_runs.specs.declared.printing_runs.Printing.TheVariants as printings

-- What is printed of what was asked. Where it is complete: the list of all arrangements or of one of each orbit, or how
-- many they are, or a picture of some of all, or the answer. Where it is refused: the answer, and why, where that is to
-- be explained.
abbrev pub Prints : Question → Answer → Printing → List ℕ → Type 0
Prints question Complete printings.All text =
    (all : List (List Placement)) × AreAllInOrder question all × IsListText all text
Prints question Complete printings.Orbits text =
    (firsts : List (List Placement)) × AreFirstsOf question firsts × IsListText firsts text
Prints question Complete printings.Count text =
    (count : Count) × IsCountOf question count × (text ≡ count_text count (length question.symmetries))
Prints question Complete (printings.Picture plan) text =
    (all : List (List Placement)) × AreAllInOrder question all
    × IsPictureFrom plan.number plan.first question.puzzle all text
Prints question Complete printings.Explanation text = text ≡ answer_line Complete (length question.listed)
Prints question (Refused fault) printings.All text = text ≡ answer_line (Refused fault) (length question.listed)
Prints question (Refused fault) printings.Orbits text = text ≡ answer_line (Refused fault) (length question.listed)
Prints question (Refused fault) printings.Count text = text ≡ answer_line (Refused fault) (length question.listed)
Prints question (Refused fault) (printings.Picture plan) text = text ≡ answer_line (Refused fault) (length question.listed)
Prints question (Refused fault) printings.Explanation text =
    (why : List ℕ) × IsExplanation question fault why
    × (text ≡ answer_line (Refused fault) (length question.listed) ++ why)

-- What is printed of three documents, and the status: what was asked of the answer.
abbrev pub PrintingGives : Printing → Texts → (printed : List ℕ) → Status → Type 0
PrintingGives printing texts printed status =
    Answers texts (λ question answer. Prints question answer printing printed) status

-- More arrangements are reached than can be listed; or for one of each orbit, or to be counted, more are listed than can
-- be, or in one orbit.
abbrev pub AreTooMany : Printing → Question → Type 0
AreTooMany printings.All question =
    AreMoreReached MOST_ARRANGEMENTS question.puzzle question.symmetries question.listed
AreTooMany (printings.Picture plan) question =
    AreMoreReached MOST_ARRANGEMENTS question.puzzle question.symmetries question.listed
AreTooMany printings.Orbits question =
    AreMoreListedOrInOrbit MOST_ARRANGEMENTS question.puzzle question.symmetries question.listed
AreTooMany printings.Count question =
    AreMoreListedOrInOrbit MOST_ARRANGEMENTS question.puzzle question.symmetries question.listed
AreTooMany printings.Explanation question = ⊥

-- All arrangements are so few that none has the number of the first that is to be drawn.
abbrev pub AreTooFew : Printing → Question → (number : ℕ) → Type 0
AreTooFew (printings.Picture plan) question number =
    (all : List (List Placement)) × AreAllInOrder question all × (number ≡ plan.number) × (length all ≤ number)
AreTooFew printing question number = ⊥

-- What is printed of a question, and the status: what was asked of its answer.
pub record IsPrinted (printing : Printing) (question : Question) (printed : List ℕ) (status : Status) : Type 0 where
  pub answer : Answer
  pub answered : IsAnswer question answer
  pub sound : IsSound question answer
  pub is : Prints question answer printing printed
  pub ends : status ≡ status_of answer

-- What a fault says of a question: its list is complete, and too much is to be printed so, or there is nothing to draw;
-- or it is want of memory.
abbrev pub QuestionFails : Printing → Question → RunFault → Type 0
QuestionFails printing question runs.Expand = IsAnswer question Complete × AreTooMany printing question
QuestionFails printing question (runs.NoArrangement number) =
    IsAnswer question Complete × AreTooFew printing question number
QuestionFails printing question runs.Memory = Unit {0}
QuestionFails printing question fault = ⊥

-- The list is complete, and what it reaches is too many to be printed so.
abbrev pub SpellTooMany : Printing → Texts → Type 0
SpellTooMany printing texts =
    (question : Question) × Spells texts question × IsAnswer question Complete × AreTooMany printing question

-- The list is complete, and none of all arrangements has this number.
abbrev pub SpellTooFew : Printing → Texts → (number : ℕ) → Type 0
SpellTooFew printing texts number =
    (question : Question) × Spells texts question × IsAnswer question Complete × AreTooFew printing question number

-- What a fault says of the documents: too much is to be printed of them, or there is nothing to draw, or they have it, or
-- it is want of memory.
abbrev pub PrintingFails : Printing → Texts → RunFault → Type 0
PrintingFails printing texts runs.Expand = SpellTooMany printing texts
PrintingFails printing texts (runs.NoArrangement number) = SpellTooFew printing texts number
PrintingFails printing texts fault = CheckFails texts fault
