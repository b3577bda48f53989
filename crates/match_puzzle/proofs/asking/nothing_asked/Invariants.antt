use Rattle.std.proofs.Common.{◌≡◌, ◌<◌, ◌≤◌, ◌+◌, ◌*◌, ℕ, length, slice_index}
use Rattle.match_limits.specs.declared.TheConstants.{MOST_COLOURS}
use Rattle.match_puzzle.specs.declared.tables.TheConstants.{FIRST_PLACE}
use Rattle.match_puzzle.proofs.asking.nothing_asked.Given as goal

abbrev pub invariant-loop-colour : goal.invariant-loop-colour
invariant-loop-colour l = record {
  long : length l.asks.items ≡ FIRST_PLACE + 4 * l.cells;
  colours : (k : ℕ) → k < l.colour → slice_index l.asks.items k ≡ k;
  any : (place : ℕ) → MOST_COLOURS ≤ place → place < FIRST_PLACE + 4 * l.cells → slice_index l.asks.items place ≡ MOST_COLOURS;
}
