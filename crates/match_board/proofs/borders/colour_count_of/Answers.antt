use Rattle.std.proofs.Common.{◌≡◌, Some, None, slice_get, arith, ap, ◌∙◌, subst, ⊎_elim}
use Rattle.std.proofs.lemmas.Bool.Decides.{eqb_tells}
use Rattle.std.proofs.lemmas.Option.{slice_get_within, slice_get-get_or, get_or_from_slice_get}
use Rattle.match_board.proofs.borders.colour_count_of.Goals as goal

pub loop-rule-preserved : goal.loop-rule-preserved
loop-rule-preserved c =
    let rules = c.args.rules.now in
    let i = c.loop-rule.rule-index in
    let after = c.count_with-count.ensures in
    record {
      above = λ k colour lt at.
          ⊎_elim
          (λ e. after.above colour (get_or_from_slice_get rules i (Some colour) _ (subst (λ n. slice_get rules n ≡ Some (Some colour)) e.1 at)))
          (λ ne. omega (arith, after.more, c.loop-rule.invariant.above k colour (omega (arith, lt, ne.1)) at))
          (eqb_tells k i);
      least = λ other bound. after.least other (c.loop-rule.invariant.least other bound) (λ colour e. bound i colour (slice_get-get_or rules i None c.loop-rule-test.true ∙ ap Some e));
    }

pub returns-clause-above : goal.returns-clause-above
returns-clause-above c = λ place colour at. c.loop-rule.invariant.above place colour (omega (arith, slice_get_within c.args.rules.now place (Some colour) at, c.loop-rule-test.false)) at
