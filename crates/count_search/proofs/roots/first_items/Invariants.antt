use Rattle.std.proofs.Common.{IfSome}
use Rattle.xcc_form.specs.Options.{cover_of}
use Rattle.xcc_form.specs.Chosen.{IsUncovered}
use Rattle.xcc_form.proofs.NextLemmas.{left_after}
use Rattle.count_search.proofs.roots.first_items.Given as goal

abbrev pub invariant-loop-next : goal.invariant-loop-next
invariant-loop-next g l = IfSome l.next (IsUncovered (cover_of (g.E.OpenOptions.selection l.engine).compiled) (g.E.OpenOptions.selection l.engine).chosen)

abbrev pub decreases-loop-next : goal.decreases-loop-next
decreases-loop-next g l = left_after (cover_of (g.E.OpenOptions.selection l.engine).compiled).primaries l.next
