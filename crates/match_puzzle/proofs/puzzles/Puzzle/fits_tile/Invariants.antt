use Rattle.std.proofs.Common.{◌≡◌, ◌++◌, length}
use Rattle.match_puzzle.proofs.puzzles.Puzzle.fits_tile.Given as goal

abbrev pub invariant-loop-pair : goal.invariant-loop-pair
invariant-loop-pair l = l.found.items ++ l.pairs ≡ l.initial.pairs

abbrev pub decreases-loop-pair : goal.decreases-loop-pair
decreases-loop-pair l = length l.pairs
