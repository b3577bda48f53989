use Rattle.std.proofs.Common.{◌≡◌, ◌++◌, length, map}
use Rattle.match_puzzle.specs.declared.placements.Pair.{Pair}
use Rattle.match_puzzle.proofs.puzzles.Puzzle.fits_cell.Given as goal

abbrev pub invariant-loop-pair : goal.invariant-loop-pair
invariant-loop-pair l = l.placements.items ++ map (λ (x : Pair). x.placement) l.pairs ≡ map (λ (x : Pair). x.placement) l.initial.pairs

abbrev pub decreases-loop-pair : goal.decreases-loop-pair
decreases-loop-pair l = length l.pairs
