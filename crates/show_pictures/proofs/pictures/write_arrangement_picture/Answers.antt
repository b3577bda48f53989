use Rattle.std.proofs.Common.{◌≤◌, ◌<◌, All, length, sym, subst, arith}
use Rattle.match_limits.specs.declared.TheConstants.{MOST_TILES}
use Rattle.show_pictures.specs.Pictures.{AreSpare, IsLonePicture}
use Rattle.show_pictures.proofs.PictureLemmas.{lone_pictured}
use Rattle.show_pictures.proofs.TileLemmas.{spare_within}
use Rattle.show_pictures.proofs.pictures.write_arrangement_picture.Goals as goal

pub overflow_cast-len : goal.overflow_cast-len
overflow_cast-len c = let few = c.in_ok-spare.ensures.few in omega (arith, c.len.ensures, few)

pub put_spare-requires-clause-tiles : goal.put_spare-requires-clause-tiles
put_spare-requires-clause-tiles c =
    let p = c.args.puzzle.now in
    subst (λ xs. All (λ x. x.tile < length p.words) xs) (sym c.deref.ensures.value) (spare_within p c.args.arrangement.now c.in_ok-spare.spare.items c.in_ok-spare.ensures.spare)

pub put_spare-requires-clause-few : goal.put_spare-requires-clause-few
put_spare-requires-clause-few c = subst (λ xs. length xs ≤ MOST_TILES) (sym c.deref.ensures.value) c.in_ok-spare.ensures.few

pub returns : goal.returns
returns c =
    let p = c.args.puzzle.now in
    let a = c.args.arrangement.now in
    let below = c.in_ok-put_spare.ensures in
    let spare = subst (AreSpare p a) (sym c.deref.ensures.value) c.in_ok-spare.ensures.spare in
    subst (IsLonePicture p a) (sym c.in_ok-extend_from_slice.ensures.items)
    (lone_pictured p a c.deref.result.now below.0 _ _ _ _ _ _ below.1 spare c.in_ok-put_full_board.ensures below.2)
