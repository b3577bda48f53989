use Rattle.std.proofs.Common.{◌∙◌, None, Some, ap, arith}
use Rattle.std.proofs.lemmas.Option.{slice_get-get_or, slice_get_within}
use Rattle.match_limits.proofs.FirstLemmas.{least_at}
use Rattle.match_board.proofs.borders.first_bad_colour.Goals as goal

pub loop-place-init : goal.loop-place-init
loop-place-init c = λ k colour lt. absurd (omega (arith, lt))

pub returns-in-loop-place : goal.returns-in-loop-place
returns-in-loop-place c =
    let is = slice_get-get_or c.args.rules.now c.loop-place.place None c.loop-place-test.true ∙ ap Some c.in-Some.is in
    least_at _ _ (c.in-Some.colour, is, c.if-colour-ge-MOST_COLOURS.true)
    (λ k lt bad. omega (arith, c.loop-place.invariant k bad.0 lt bad.1, bad.2))

pub returns : goal.returns
returns c = λ place colour is.
    let within = slice_get_within c.args.rules.now place _ is in
    c.loop-place.invariant place colour (omega (arith, within, c.loop-place-test.false)) is
