use Rattle.std.proofs.Common.{◌≡◌, ◌<◌, ℕ, Some, slice_get, take}
use Rattle.match_puzzle.specs.Prefix.{empty_prefix, with_pairs}
use Rattle.match_puzzle.specs.Fitting.{Fits}
use Rattle.match_puzzle.specs.declared.placements.Pair.{Pair}
use Rattle.fit_counts.specs.Placing.{prefix_of}
use Rattle.solver.proofs.branches.fit_in_turn.Given as goal

abbrev pub invariant-loop-pair : goal.invariant-loop-pair
invariant-loop-pair l = record {
  placed : l.partial ≡ record { puzzle = l.puzzle; placed = with_pairs (take l.pair-index l.pairs) (empty_prefix l.puzzle) };
  fit : (place : ℕ) (x : Pair) → place < l.pair-index → slice_get l.pairs place ≡ Some x → Fits l.puzzle (prefix_of l.puzzle (take place l.pairs)) x.cell x.placement;
}
