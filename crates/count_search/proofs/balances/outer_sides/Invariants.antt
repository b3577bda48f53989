use Rattle.std.proofs.Common.{◌≡◌, ◌<◌, ℕ, MatchBool, length}
use Rattle.count_search.specs.Balance.{is_outer}
use Rattle.count_search.proofs.BalanceLemmas.{MeetsNone, MeetsSome}
use Rattle.count_search.proofs.balances.outer_sides.Given as goal

abbrev pub invariant-loop-cell : goal.invariant-loop-cell
invariant-loop-cell l = record {
  long : length l.outer.items ≡ l.cell;
  each : (cell side : ℕ) → cell < l.cell → side < 4 → MatchBool (is_outer l.outer.items cell side) (MeetsNone l.puzzle.board cell side) (MeetsSome l.puzzle.board cell side);
}
