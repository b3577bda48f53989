use Rattle.std.proofs.Common.{◌≡◌, ◌<◌, ℕ, length}
use Rattle.match_limits.specs.declared.TheConstants.{MOST_TILES}
use Rattle.match_puzzle.specs.ArrangementFaults.{RepeatsTileAt}
use Rattle.match_puzzle.proofs.ArrangementLemmas.{AreSeen}
use Rattle.match_puzzle.proofs.puzzles.Puzzle.repeated_tile.Given as goal

abbrev pub invariant-loop-cell : goal.invariant-loop-cell
invariant-loop-cell l = record {
  long : length l.seen ≡ MOST_TILES;
  seen : AreSeen l.placements l.cell l.seen;
  once : (k : ℕ) → k < l.cell → RepeatsTileAt l.self l.placements k → ⊥;
}
