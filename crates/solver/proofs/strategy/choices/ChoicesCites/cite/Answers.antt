use Rattle.std.proofs.Common.{◌∙◌}
use Rattle.giving_crew.proofs.LiveHandLemmas.{gave_both}
use Rattle.solver.proofs.strategy.choices.ChoicesCites.cite.Goals as goal

pub returns-in_err-give_planned-clause-moved : goal.returns-in_err-give_planned-clause-moved
returns-in_err-give_planned-clause-moved g c = (c.give_planned.ensures.same, c.give_planned.ensures.gave)

pub returns-in-Some-clause-moved : goal.returns-in-Some-clause-moved
returns-in-Some-clause-moved g c = (c.give_planned.ensures.same, c.give_planned.ensures.gave)

pub returns-in_err-given-clause-moved : goal.returns-in_err-given-clause-moved
returns-in_err-given-clause-moved g c =
    (c.give_if_due.ensures.same ∙ c.give_planned.ensures.same, gave_both _ _ _ c.give_planned.ensures.gave c.give_if_due.ensures.gave)

pub returns-then-prefix-self-clause-moved : goal.returns-then-prefix-self-clause-moved
returns-then-prefix-self-clause-moved g c =
    (c.give_if_due.ensures.same ∙ c.give_planned.ensures.same, gave_both _ _ _ c.give_planned.ensures.gave c.give_if_due.ensures.gave)

pub returns-else-is_none-clause-moved : goal.returns-else-is_none-clause-moved
returns-else-is_none-clause-moved g c =
    (c.give_if_due.ensures.same ∙ c.give_planned.ensures.same, gave_both _ _ _ c.give_planned.ensures.gave c.give_if_due.ensures.gave)
