use Rattle.std.proofs.Common.{◌<◌, ℕ, length}
use Rattle.match_puzzle.specs.Arrangement.{Stands}
use Rattle.match_puzzle.specs.declared.placements.Placement.{Placement}
use Rattle.match_puzzle.proofs.puzzles.Puzzle.tile_out_of_range.Given as goal

abbrev pub invariant-loop-cell : goal.invariant-loop-cell
invariant-loop-cell l = (k : ℕ) → k < l.cell → (x : Placement) → Stands l.placements k x → x.tile < length l.self.words
