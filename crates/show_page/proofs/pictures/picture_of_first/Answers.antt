use Rattle.std.proofs.Common.{refl, sym, subst, arith}
use Rattle.std.proofs.lemmas.Option.{slice_get_read}
use Rattle.match_puzzle.specs.Arrangement.{IsArrangement}
use Rattle.show_page.proofs.pictures.picture_of_first.Goals as goal

pub write_arrangement_picture-requires : goal.write_arrangement_picture-requires
write_arrangement_picture-requires c =
    let here = slice_get_read c.args.listed.now _ 0 c.index-listed-0.result refl (omega (arith, c.requires.some)) c.index-listed-0.is in
    subst (IsArrangement c.args.puzzle.now) (sym c.placements-placements.ensures) (c.requires.arrangements 0 c.index-listed-0.result here)
