-- What a prefix leaves open. Nothing is said of how that is shown.
use Rattle.std.specs.Prelude.{List}
use Rattle.match_puzzle.specs.Puzzle.{Task}
use Rattle.match_puzzle.specs.Arrangement.{IsArrangement}
use Rattle.match_puzzle.specs.Prefix.{Prefix, Extends}
use Rattle.match_puzzle.specs.declared.placements.Placement.{Placement}

-- Each arrangement that extends the prefix is reached.
abbrev pub IsCovered : Task → (List Placement → Type 0) → Prefix → Type 0
IsCovered p Reached q = (a : List Placement) → IsArrangement p a → Extends a q → Reached a
