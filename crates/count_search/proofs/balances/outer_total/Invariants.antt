use Rattle.std.proofs.Common.{◌≡◌, ◌≤◌, ◌+◌, false, count_by, drop, get_or}
use Rattle.count_search.proofs.balances.outer_total.Given as goal

abbrev pub invariant-loop-row : goal.invariant-loop-row
invariant-loop-row l = record {
  counted : l.total + count_by (λ row. get_or row l.side false) (drop l.row-index l.outer) ≡ count_by (λ row. get_or row l.side false) l.outer;
  few : l.total ≤ l.row-index;
}
