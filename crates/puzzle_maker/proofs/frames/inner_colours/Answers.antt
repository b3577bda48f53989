use Rattle.std.proofs.Common.{⊎_elim, subst, arith}
use Rattle.std.proofs.lemmas.Bool.Decides.{eqb_tells}
use Rattle.puzzle_maker.specs.Like.{IsInside}
use Rattle.puzzle_maker.proofs.frames.inner_colours.Goals as goal

pub loop-colour-preserved : goal.loop-colour-preserved
loop-colour-preserved c = record {
  some = λ colour lt inside.
      ⊎_elim
      (λ w. c.in_ok-add_inner.ensures.some (subst (IsInside c.args.mates.now c.args.frame) w.1 inside))
      (λ ne. let apart = ne.1 in let before = c.loop-colour.invariant.some colour (omega (arith, lt)) inside in omega (arith, before, c.in_ok-add_inner.ensures.more))
      (eqb_tells colour c.loop-colour.colour);
  few = omega (arith, c.in_ok-add_inner.ensures.few);
}
