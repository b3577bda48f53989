-- What follows of reasons.
use Rattle.std.specs.Prelude.{◌≢◌, ℕ, List, []}
use Rattle.match_puzzle.specs.Arrangement.{IsArrangement}
use Rattle.match_puzzle.specs.Puzzle.{Task, IsPuzzle}
use Rattle.match_puzzle.specs.declared.placements.Placement.{Placement}
use Rattle.show_reasons.specs.Reasons.{HoldsOf}
use Rattle.show_reasons.specs.Sentences.{TellsReasons}
use Rattle.show_reasons.specs.declared.reasons.Reason.{Reason}

-- A puzzle of which a reason holds has no arrangement.
abbrev pub ReasonLaw : Type 0
ReasonLaw = (p : Task) (reason : Reason) (a : List Placement) → IsPuzzle p → HoldsOf p reason → IsArrangement p a → ⊥

-- A puzzle of which a reason is told has no arrangement.
abbrev pub ToldLaw : Type 0
ToldLaw =
    (p : Task) (text : List ℕ) (a : List Placement) → IsPuzzle p → TellsReasons p text → text ≢ [] → IsArrangement p a
    → ⊥
