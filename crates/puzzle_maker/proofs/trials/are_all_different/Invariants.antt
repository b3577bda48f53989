use Rattle.std.proofs.Common.{◌<◌, ℕ}
use Rattle.match_puzzle.specs.EqualTiles.{AreEqualTiles}
use Rattle.puzzle_maker.proofs.trials.are_all_different.Given as goal

abbrev pub invariant-loop-tile : goal.invariant-loop-tile
invariant-loop-tile l = (tile other : ℕ) → tile < other → other < l.tile → AreEqualTiles l.puzzle tile other → ⊥
