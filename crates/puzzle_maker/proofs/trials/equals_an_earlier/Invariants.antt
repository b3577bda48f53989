use Rattle.std.proofs.Common.{◌<◌, ℕ}
use Rattle.match_puzzle.specs.EqualTiles.{AreEqualTiles}
use Rattle.puzzle_maker.proofs.trials.equals_an_earlier.Given as goal

abbrev pub invariant-loop-earlier : goal.invariant-loop-earlier
invariant-loop-earlier l = (earlier : ℕ) → earlier < l.earlier → AreEqualTiles l.puzzle earlier l.tile → ⊥
