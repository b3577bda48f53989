use Rattle.std.proofs.Common.{◌≡◌, ◌+◌, ◌++◌, length}
use Rattle.xcc_form.specs.Options.{Compiled}
use Rattle.count_search.specs.Branches.{AllChoose, StandFor}
use Rattle.xcc_form.specs.Chosen.{IsSelection}
use Rattle.count_search.proofs.spreads.halves.Given as goal

abbrev pub invariant-loop-branch : goal.invariant-loop-branch
invariant-loop-branch l = record {
  stand : (x : Compiled) → StandFor x ((l.these.items ++ l.others.items) ++ l.branch-iterator.rest.items) l.fn.branches.items;
  selections : (x : Compiled) → AllChoose (IsSelection x) l.fn.branches.items → AllChoose (IsSelection x) ((l.these.items ++ l.others.items) ++ l.branch-iterator.rest.items);
  long : length l.these.items + length l.others.items + length l.branch-iterator.rest.items ≡ length l.fn.branches.items;
  rest : l.branch-iterator.rest.len ≡ length l.branch-iterator.rest.items;
}
