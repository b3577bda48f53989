use Rattle.std.proofs.Common.{◌≡◌, IfSome}
use Rattle.xcc_form.specs.Options.{cover_of}
use Rattle.xcc_form.specs.Chosen.{IsUncovered}
use Rattle.xcc_form.proofs.NextLemmas.{left_after}
use Rattle.xcc_form.proofs.chooses.least_beside.Given as goal

abbrev pub invariant-loop-next : goal.invariant-loop-next
invariant-loop-next g l = record {
  same : l.engine ≡ l.initial.engine;
  best : IsUncovered (cover_of (g.E.OpenOptions.selection l.initial.engine).compiled) (g.E.OpenOptions.selection l.initial.engine).chosen l.best;
  next : IfSome l.next (IsUncovered (cover_of (g.E.OpenOptions.selection l.initial.engine).compiled) (g.E.OpenOptions.selection l.initial.engine).chosen);
}

abbrev pub decreases-loop-next : goal.decreases-loop-next
decreases-loop-next g l = left_after (cover_of (g.E.OpenOptions.selection l.initial.engine).compiled).primaries l.next
