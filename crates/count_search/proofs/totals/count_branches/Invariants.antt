use Rattle.std.proofs.Common.{◌≡◌, ◌≤◌, take}
use Rattle.count_search.specs.Branches.{HaveTogether}
use Rattle.count_search.proofs.totals.count_branches.Given as goal

abbrev pub invariant-loop-branch : goal.invariant-loop-branch
invariant-loop-branch g l = record {
  same : l.engine ≡ l.initial.engine;
  total : HaveTogether (g.E.OpenOptions.selection l.initial.engine).compiled (take l.branch-index l.branches) l.total;
  most : l.total ≤ l.most;
}
