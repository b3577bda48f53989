use Rattle.std.proofs.Common.{◌∙◌, refl}
use Rattle.giving_crew.proofs.LiveHandLemmas.{gave_nothing, gave_both}
use Rattle.solver.proofs.strategy.choices.Choices.give_planned.Goals as goal

pub returns-then-self-gt0-clause-gave : goal.returns-then-self-gt0-clause-gave
returns-then-self-gt0-clause-gave g c = gave_nothing c.args.self.now.hand.now

pub loop-prefix-init : goal.loop-prefix-init
loop-prefix-init g c = record { same = refl; gave = gave_nothing c.args.self.now.hand.now }

pub loop-prefix-preserved : goal.loop-prefix-preserved
loop-prefix-preserved g c = record {
  same = c.give.ensures.same ∙ c.loop-prefix.invariant.same;
  gave = gave_both _ _ _ c.loop-prefix.invariant.gave c.give.ensures.gave;
}

pub returns-in_err-_cite : goal.returns-in_err-_cite
returns-in_err-_cite g c = record {
  same = c.give.ensures.same ∙ c.loop-prefix.invariant.same;
  gave = gave_both _ _ _ c.loop-prefix.invariant.gave c.give.ensures.gave;
}
