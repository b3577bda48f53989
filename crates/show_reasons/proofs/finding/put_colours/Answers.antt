use Rattle.std.proofs.Common.{◌≡◌, ◌+◌, subst, sym, arith, ap, ◌∙◌}
use Rattle.match_limits.specs.declared.TheConstants.{MOST_COLOURS}
use Rattle.show_reasons.specs.Reasons.{AreReasonsBefore}
use Rattle.show_reasons.proofs.ReasonLemmas.{reason_put, reason_skipped, after_colours}
use Rattle.show_reasons.proofs.finding.put_colours.Goals as goal
use Rattle.show_reasons.proofs.finding.put_colours.Goals.{in-Some+in_ok-push, in_default}

pub loop-colour-preserved : goal.loop-colour-preserved
loop-colour-preserved c =
    let p = c.args.puzzle.now in
    elim c.match-colour_reason.branch [
      | in-Some+in_ok-push w ↦
          subst (λ items. AreReasonsBefore p (0, c.loop-colour.colour + 1) items) (sym (ap (λ v. v.items) w.reasons-is ∙ w.in_ok-push.ensures.items))
          (reason_put p 0 c.loop-colour.colour c.loop-colour.reasons.items w.in-Some.reason w.in-Some.ensures c.loop-colour.invariant)
      | in_default w ↦
          subst (λ items. AreReasonsBefore p (0, c.loop-colour.colour + 1) items) (sym (ap (λ v. v.items) w.reasons-is))
          (reason_skipped p 0 c.loop-colour.colour c.loop-colour.reasons.items w.in_default.ensures c.loop-colour.invariant)
    ]

pub returns : goal.returns
returns c =
    let at : c.loop-colour.colour ≡ MOST_COLOURS = omega (arith, c.loop-colour-test.false, c.loop-colour.auto.colour-end) in
    after_colours c.args.puzzle.now c.loop-colour.reasons.items (subst (λ n. AreReasonsBefore c.args.puzzle.now (0, n) c.loop-colour.reasons.items) at c.loop-colour.invariant)
