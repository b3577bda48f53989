use Rattle.std.proofs.Common.{ap, ◌∙◌}
use Rattle.match_limits.specs.NumberSets.{members}
use Rattle.match_limits.proofs.TakenNumberLemmas.{all_left}
use Rattle.match_limits.proofs.number_sets.NumberSet.members.Goals as goal

pub returns : goal.returns
returns c = ap members (all_left c.self.inside.words c.self.invariant.long) ∙ c.self.view_is
