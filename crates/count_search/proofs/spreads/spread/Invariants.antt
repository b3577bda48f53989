use Rattle.std.proofs.Common.{◌≡◌, length}
use Rattle.xcc_form.specs.Options.{Compiled}
use Rattle.count_search.specs.Branches.{AllChoose, StandFor}
use Rattle.xcc_form.specs.Chosen.{IsSelection}
use Rattle.count_search.proofs.spreads.spread.Given as goal

abbrev pub invariant-loop : goal.invariant-loop
invariant-loop l = record {
  stand : (x : Compiled) → StandFor x l.spread.items l.fn.branches.items;
  selections : (x : Compiled) → AllChoose (IsSelection x) l.fn.branches.items → AllChoose (IsSelection x) l.spread.items;
  long : length l.spread.items ≡ length l.fn.branches.items;
}
