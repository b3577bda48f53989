use Rattle.std.proofs.Common.{◌≡◌, ◌<◌, ◌≤◌, ℕ, Some, slice_get}
use Rattle.match_board.proofs.borders.colour_count_of.Given as goal

abbrev pub invariant-loop-rule : goal.invariant-loop-rule
invariant-loop-rule l = record {
  above : (k colour : ℕ) → k < l.rule-index → slice_get l.rules k ≡ Some (Some colour) → colour < l.count;
  least : (other : ℕ) → ((place colour : ℕ) → slice_get l.rules place ≡ Some (Some colour) → colour < other) → l.count ≤ other;
}
