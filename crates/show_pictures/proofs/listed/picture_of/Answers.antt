use Rattle.std.proofs.Common.{refl, sym, subst, arith}
use Rattle.std.proofs.lemmas.Option.{slice_get_read}
use Rattle.match_puzzle.specs.Arrangement.{IsArrangement}
use Rattle.show_pictures.proofs.listed.picture_of.Goals as goal

pub write_arrangement_picture-requires : goal.write_arrangement_picture-requires
write_arrangement_picture-requires c =
    let here = slice_get_read c.args.drawn.now _ 0 c.index-drawn-0.result refl (omega (arith, c.requires.some)) c.index-drawn-0.is in
    subst (IsArrangement c.args.puzzle.now) (sym c.placements-placements.ensures) (c.requires.arrangements 0 c.index-drawn-0.result here)
