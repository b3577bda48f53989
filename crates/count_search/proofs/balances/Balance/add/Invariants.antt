use Rattle.std.proofs.Common.{◌≡◌}
use Rattle.count_search.specs.Balance.{is_outer, opposite, pair_gives}
use Rattle.count_search.proofs.BalanceStepLemmas.{Adds, Fills}
use Rattle.count_search.proofs.balances.Balance.add.Given as goal

abbrev pub invariant-loop-side : goal.invariant-loop-side
invariant-loop-side l = record {
  outer : l.self.outer ≡ l.initial.self.outer;
  colours : l.self.colours ≡ l.initial.self.colours;
  sides : Adds opposite (λ side colour. pair_gives l.puzzle l.initial.self.outer.items side colour l.pair) l.side l.initial.self.sides l.self.sides;
  free : Fills (is_outer l.initial.self.outer.items l.pair.cell) l.side l.initial.self.free l.self.free;
}
