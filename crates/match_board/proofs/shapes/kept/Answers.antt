use Rattle.std.proofs.Common.{ap, ◌∙◌, set, get_or, false}
use Rattle.match_board.proofs.MaskLemmas.{kept_next}
use Rattle.match_board.proofs.shapes.kept.Goals as goal

pub loop-place-preserved : goal.loop-place-preserved
loop-place-preserved c =
    let mask = c.args.mask.now in
    let place = c.loop-place.place in
    ap (λ kept. set kept place (get_or mask place false)) c.loop-place.invariant ∙ kept_next mask place 1024 c.loop-place-test.true c.requires
