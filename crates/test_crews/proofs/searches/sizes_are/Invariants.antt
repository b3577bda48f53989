use Rattle.std.proofs.Common.{IfSome}
use Rattle.xcc_form.specs.Options.{cover_of}
use Rattle.xcc_form.specs.Chosen.{IsUncovered}
use Rattle.test_crews.proofs.searches.sizes_are.Given as goal

abbrev pub invariant-loop-row : goal.invariant-loop-row
invariant-loop-row l = IfSome l.next (IsUncovered (cover_of l.links.compiled) l.links.chosen)
