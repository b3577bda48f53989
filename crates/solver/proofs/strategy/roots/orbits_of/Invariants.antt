use Rattle.std.proofs.Common.{IfSome, length}
use Rattle.xcc_form.specs.Options.{cover_of}
use Rattle.xcc_form.specs.Clashes.{IsOpenAt}
use Rattle.xcc_form.proofs.NextLemmas.{left_after}
use Rattle.solver.proofs.strategy.roots.orbits_of.Given as goal

abbrev pub invariant-loop-next : goal.invariant-loop-next
invariant-loop-next l = IfSome l.next (IsOpenAt (cover_of l.engine.compiled) l.engine.chosen l.item)

abbrev pub decreases-loop-next : goal.decreases-loop-next
decreases-loop-next l = left_after (length (cover_of l.engine.compiled).options) l.next
