use Rattle.std.proofs.Common.{◌≡◌, take}
use Rattle.match_puzzle.specs.Prefix.{empty_prefix, with_pairs}
use Rattle.match_puzzle.proofs.partials.Partial.lift_all.Given as goal

-- The pairs before this place still stand.
abbrev pub invariant-loop-place : goal.invariant-loop-place
invariant-loop-place l = l.self ≡ record { puzzle = l.initial.self.puzzle; placed = with_pairs (take l.place l.pairs) (empty_prefix l.initial.self.puzzle) }
