use Rattle.match_limits.proofs.TakenNumberLemmas.{words_without, number_removed}
use Rattle.match_limits.proofs.number_sets.NumberSet.remove.Goals as goal

pub invariant_of-self : goal.invariant_of-self
invariant_of-self c = rw c.from.ensures (words_without c.self.inside.words c.self.inside.end c.args.number c.self.invariant c.requires)

pub returns : goal.returns
returns c = rw (c.from.ensures, ← c.self.view_is) (number_removed c.self.inside.words c.self.inside.end c.args.number c.self.invariant c.requires)
