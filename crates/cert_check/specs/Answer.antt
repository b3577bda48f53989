-- What the checker has to answer.
use Rattle.std.specs.Prelude.{◌≡◌, ◌<◌, ℕ, List, Some, slice_get}
use Rattle.match_limits.specs.First.{Rank, IsFirst, rank_by, rank_by_two}
use Rattle.match_puzzle.specs.Puzzle.{IsPuzzle}
use Rattle.match_puzzle.specs.Arrangement.{AreArrangements, AreDistinct}
use Rattle.match_puzzle.specs.ArrangementFaults.{IsArrangementFault}
use Rattle.match_puzzle.specs.PrefixFaults.{IsPrefixFault}
use Rattle.match_puzzle.specs.declared.placements.Placement.{Placement}
use Rattle.puzzle_symmetry.specs.SymmetryFaults.{IsSymmetryFault}
use Rattle.puzzle_symmetry.specs.Reached.{IsReached}
use Rattle.puzzle_symmetry.specs.Complete.{AreSymmetries, IsCompleteList}
use Rattle.puzzle_symmetry.specs.Motion.{Motion}
use Rattle.match_board.specs.declared.symmetry_lines.SymmetryLine.{SymmetryLine}
use Rattle.cert_check.specs.declared.faults.Fault.{Fault}
use Rattle.cert_check.specs.declared.faults.Fault.TheVariants as faults
use Rattle.cert_check.specs.declared.faults.Answer.{Answer}
use Rattle.cert_check.specs.declared.faults.Answer.TheVariants.{Complete, Refused}
use Rattle.cert_tree.specs.Certificate.{Piece}
use Rattle.cert_check.specs.Setting.{Question, BeginWithPrefixes, motions_of, setting_at}
use Rattle.cert_check.specs.TreeFaults.{FailsAt}
use Rattle.cert_check.specs.Covered.{IsCovered}
use Rattle.cert_check.specs.Derivation.{start_of, HasRoot, TreesHold}

-- The one with this number equals an earlier one.
abbrev pub RepeatsEarlier : List (List Placement) → ℕ → Type 0
RepeatsEarlier listed number =
    (earlier : ℕ) × (a : List Placement) × (earlier < number) × (slice_get listed earlier ≡ Some a)
    × (slice_get listed number ≡ Some a)

-- All is right but perhaps the trees: different arrangements of the puzzle, symmetries of it, and lemmas that begin with
-- prefixes, the last with nothing placed.
pub record IsPrepared (question : Question) : Type 0 where
  pub distinct : AreDistinct question.listed
  pub arrangements : AreArrangements question.puzzle question.listed
  pub symmetries : AreSymmetries question.puzzle question.symmetries
  pub prefixes : BeginWithPrefixes question.puzzle question.lemmas
  pub root : HasRoot question.lemmas

-- All is right, the trees too: so the lemmas derive that the symmetries reach all from the list.
pub record IsShown (question : Question) : Type 0 where
  pub prepared : IsPrepared question
  pub trees : TreesHold question

-- All is right but perhaps the trees, and these are the symmetries of the lines.
pub record IsPreparedWith (question : Question) (motions : List Motion) : Type 0 where
  pub puzzle : IsPuzzle question.puzzle
  pub prepared : IsPrepared question
  pub symmetries : motions ≡ motions_of question

-- Each arrangement that extends a lemma's prefix is reached.
abbrev pub AreCovered : Question → Type 0
AreCovered question =
    (number : ℕ) (lemma : Piece) → slice_get question.lemmas number ≡ Some lemma
    → IsCovered question.puzzle (IsReached question.puzzle question.symmetries question.listed)
    (start_of question.puzzle lemma)

-- When a fault occurs.
abbrev pub Occurs : Question → Fault → Type 0
Occurs question (faults.List number fault) =
    (a : List Placement) × (slice_get question.listed number ≡ Some a) × IsArrangementFault question.puzzle a fault
Occurs question (faults.Repeated number) = RepeatsEarlier question.listed number
Occurs question (faults.Symmetry number fault) =
    (g : SymmetryLine) × (slice_get question.symmetries number ≡ Some g) × IsSymmetryFault question.puzzle g fault
Occurs question (faults.Prefix number fault) =
    (lemma : Piece) × (slice_get question.lemmas number ≡ Some lemma) × IsPrefixFault question.puzzle lemma.prefix fault
Occurs question faults.Root = HasRoot question.lemmas → ⊥
Occurs question (faults.Tree number fault) =
    (lemma : Piece) × (slice_get question.lemmas number ≡ Some lemma)
    × FailsAt (setting_at question number) lemma.tree (start_of question.puzzle lemma) fault.path fault.fault

-- the order of the faults
abbrev pub fault_rank : Fault → Rank
fault_rank (faults.List number fault) = rank_by_two 1 number
fault_rank (faults.Repeated number) = rank_by_two 2 number
fault_rank (faults.Symmetry number fault) = rank_by_two 3 number
fault_rank (faults.Prefix number fault) = rank_by_two 4 number
fault_rank faults.Root = rank_by 5
fault_rank (faults.Tree number fault) = rank_by_two 6 number

-- the answer to a question: that all is right, or the first fault
abbrev pub IsAnswer : Question → Answer → Type 0
IsAnswer question Complete = IsShown question
IsAnswer question (Refused fault) = IsFirst fault_rank (Occurs question) fault

-- Where the list is called complete, it is: the main theorem.
abbrev pub IsSound : Question → Answer → Type 0
IsSound question answer =
    answer ≡ Complete → IsCompleteList question.puzzle question.symmetries question.listed

-- Where it is called complete, the lemmas' prefixes are covered.
abbrev pub IsCovering : Question → Answer → Type 0
IsCovering question answer = answer ≡ Complete → AreCovered question

-- There is no more than one answer.
abbrev pub OneAnswer : Type 0
OneAnswer = (question : Question) (a b : Answer) → IsAnswer question a → IsAnswer question b → a ≡ b
