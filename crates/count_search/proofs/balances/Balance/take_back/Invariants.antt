use Rattle.std.proofs.Common.{◌≡◌}
use Rattle.count_search.specs.Balance.{is_outer, opposite, pair_gives}
use Rattle.count_search.proofs.BalanceStepLemmas.{Adds, Fills}
use Rattle.count_search.proofs.balances.Balance.take_back.Given as goal

abbrev pub invariant-loop-side : goal.invariant-loop-side
invariant-loop-side l = record {
  outer : l.self.outer ≡ l.initial.self.outer;
  colours : l.self.colours ≡ l.initial.self.colours;
  sides : Adds opposite (λ side colour. pair_gives l.puzzle l.initial.self.outer.items side colour l.pair) l.side l.self.sides l.initial.self.sides;
  free : Fills (is_outer l.initial.self.outer.items l.pair.cell) l.side l.self.free l.initial.self.free;
}
