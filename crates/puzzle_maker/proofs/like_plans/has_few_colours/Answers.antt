use Rattle.std.proofs.Common.{inl, inr, ⊎_elim, subst, sym, arith}
use Rattle.match_board.specs.Borders.{StandsInRule}
use Rattle.puzzle_maker.specs.Like.{IsInside}
use Rattle.puzzle_maker.proofs.LikeLemmas.{inner_from_inside, inside_from_inner}
use Rattle.puzzle_maker.proofs.like_plans.has_few_colours.Goals as goal

pub returns-then-not-has_inner : goal.returns-then-not-has_inner
returns-then-not-has_inner c = inl (λ colour lt inner.
    c.if-not-has_inner.ensures colour lt
    (subst (λ ms. IsInside ms c.args.frame colour) (sym c.mates.ensures.list) (inside_from_inner c.args.model.now c.args.frame c.requires colour inner)))

pub returns-then-colours-colour_count : goal.returns-then-colours-colour_count
returns-then-colours-colour_count c = inr (λ all.
    let least = c.colour_count.ensures.least c.args.colours (λ place colour stands. all place colour (subst (λ rule. StandsInRule rule place colour) c.border.ensures stands)) in
    omega (arith, least))

pub returns : goal.returns
returns c = λ few.
    ⊎_elim
    (λ none.
    let some = c.if-not-has_inner.ensures in
    none some.0 some.1 (inner_from_inside c.args.model.now c.args.frame c.requires some.0 (subst (λ ms. IsInside ms c.args.frame some.0) c.mates.ensures.list some.2)))
    (λ not_all. not_all (λ place colour stands.
    let above = c.colour_count.ensures.above place colour (subst (λ rule. StandsInRule rule place colour) (sym c.border.ensures) stands) in
    omega (arith, above)))
    few
