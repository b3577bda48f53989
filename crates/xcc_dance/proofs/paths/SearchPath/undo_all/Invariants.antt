use Rattle.std.proofs.Common.{◌≡◌, length}
use Rattle.xcc_form.specs.Chosen.{before_any}
use Rattle.xcc_dance.proofs.paths.SearchPath.undo_all.Given as goal

abbrev pub invariant-loop-self : goal.invariant-loop-self
invariant-loop-self g l = before_any g.E.OpenOptions.selection g.E.OpenOptions.taken_back l.self ≡ before_any g.E.OpenOptions.selection g.E.OpenOptions.taken_back l.initial.self

abbrev pub decreases-loop-self : goal.decreases-loop-self
decreases-loop-self g l = length (g.E.OpenOptions.selection l.self).chosen
