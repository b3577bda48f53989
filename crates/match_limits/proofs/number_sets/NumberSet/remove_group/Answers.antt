use Rattle.match_limits.proofs.NumberSetLemmas.{group_removed}
use Rattle.match_limits.proofs.number_sets.NumberSet.remove_group.Goals as goal

pub returns : goal.returns
returns c = rw (c.from.ensures, ← c.self.view_is) (group_removed c.self.inside.words c.self.inside.end c.args.group c.self.invariant c.requires)
