use Rattle.std.proofs.Common.{◌≡◌, ◌≤◌, ◌-◌, MatchOption, length}
use Rattle.match_puzzle.specs.Numbers.{AreSoMany}
use Rattle.xcc_form.specs.Options.{cover_of}
use Rattle.xcc_form.specs.Clashes.{IsOpenAt}
use Rattle.xcc_form.proofs.NextLemmas.{left_after}
use Rattle.count_search.proofs.WeightLemmas.{IsFoundUnder}
use Rattle.count_search.proofs.counting.+count_below.Given as goal

abbrev pub decreases-count_below : goal.decreases-count_below
decreases-count_below g l = length (g.E.OpenOptions.selection l.engine.now).compiled.options - length (g.E.OpenOptions.selection l.engine.now).chosen

abbrev pub invariant-loop-next : goal.invariant-loop-next
invariant-loop-next g l = record {
  same : l.engine ≡ l.initial.engine;
  next : MatchOption l.next (Unit {0}) (IsOpenAt (cover_of (g.E.OpenOptions.selection l.initial.engine).compiled) (g.E.OpenOptions.selection l.initial.engine).chosen l.item);
  counted : AreSoMany (IsFoundUnder (g.E.OpenOptions.selection l.initial.engine) l.looks l.item l.next) l.sum;
  most : l.sum ≤ l.most;
}

abbrev pub decreases-loop-next : goal.decreases-loop-next
decreases-loop-next g l = left_after (length (cover_of (g.E.OpenOptions.selection l.initial.engine).compiled).options) l.next
