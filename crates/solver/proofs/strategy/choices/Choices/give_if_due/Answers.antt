use Rattle.std.proofs.Common.{◌∙◌}
use Rattle.giving_crew.proofs.LiveHandLemmas.{gave_nothing}
use Rattle.solver.proofs.strategy.choices.Choices.give_if_due.Goals as goal

pub returns-then-is_to_give-clause-same : goal.returns-then-is_to_give-clause-same
returns-then-is_to_give-clause-same g c = c.give.ensures.same ∙ c.is_to_give.ensures.same

pub returns-then-is_to_give-clause-gave : goal.returns-then-is_to_give-clause-gave
returns-then-is_to_give-clause-gave g c = rw (← c.is_to_give.ensures.gave) c.give.ensures.gave

pub returns-else-is_to_give-clause-same : goal.returns-else-is_to_give-clause-same
returns-else-is_to_give-clause-same g c = c.is_to_give.ensures.same

pub returns-else-is_to_give-clause-gave : goal.returns-else-is_to_give-clause-gave
returns-else-is_to_give-clause-gave g c = rw c.is_to_give.ensures.gave (gave_nothing c.args.self.now.hand.now)
