use Rattle.std.proofs.Common.{◌≤◌, length, ap, ◌∙◌, arith}
use Rattle.std.specs.List.{fold}
use Rattle.std.proofs.lemmas.List.{take_all}
use Rattle.cert_check.specs.Repeats.{key_of, with_placement}
use Rattle.cert_check.proofs.repeats.key.Goals as goal

pub returns : goal.returns
unfolding key_of
returns c =
    let a = c.args.arrangement.now in
    let i = c.loop-placement.placement-index in
    let all : length a ≤ i = omega (arith, c.loop-placement-test.false, ap length c.placements-placement-items.ensures) in
    c.loop-placement.invariant ∙ ap (fold with_placement 0) (take_all i a all)
