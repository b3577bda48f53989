use Rattle.std.proofs.Common.{◌+◌, ◌++◌, refl, sym, subst, ap, arith, ◌∙◌}
use Rattle.std.proofs.lemmas.Option.{get_or_from_slice_get, slice_get_read}
use Rattle.match_puzzle.specs.Arrangement.{IsArrangement}
use Rattle.show_pictures.specs.Joined.{IsJoined}
use Rattle.show_pictures.proofs.JoinedLemmas.{joined_more}
use Rattle.show_pictures.specs.Pictures.{IsArrangementPicture, IsPictureAt}
use Rattle.show_pictures.proofs.sheets.thumbnails.Goals as goal

pub draw_arrangement-requires : goal.draw_arrangement-requires
draw_arrangement-requires c =
    let listed = c.args.arrangements.now in
    let a = c.index-arrangements-index.result in
    let here = slice_get_read listed _ c.loop-index.index a refl (omega (arith, c.loop-index-test.true)) c.index-arrangements-index.is in
    subst (IsArrangement c.args.puzzle.now) (sym c.placements-placements.ensures) (c.requires.arrangements c.loop-index.index a here)

pub loop-index-preserved : goal.loop-index-preserved
loop-index-preserved c =
    let p = c.args.puzzle.now in
    let listed = c.args.arrangements.now in
    let picture : IsPictureAt p listed c.loop-index.index c.in_ok-picture.picture.items =
    λ a at.
    let same = c.placements-placements.ensures ∙ c.index-arrangements-index.is ∙ get_or_from_slice_get listed c.loop-index.index a c.index-arrangements-index.result at in
    subst (λ b. IsArrangementPicture p b c.in_ok-picture.picture.items) same c.in_ok-picture.ensures in
    subst (IsJoined (IsPictureAt p listed) (c.loop-index.index + 1))
    (sym (c.in_ok-extend_from_slice.ensures.items ∙ ap (λ t. c.loop-index.text.items ++ t) c.deref.ensures.value))
    (joined_more _ c.loop-index.invariant picture)
