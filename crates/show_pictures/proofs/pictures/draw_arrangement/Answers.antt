use Rattle.std.proofs.Common.{sym, subst}
use Rattle.show_pictures.specs.Pictures.{IsArrangementPicture}
use Rattle.show_pictures.proofs.PictureLemmas.{pictured}
use Rattle.show_pictures.proofs.pictures.draw_arrangement.Goals as goal

pub returns : goal.returns
returns c =
    let p = c.args.puzzle.now in
    let a = c.args.arrangement.now in
    subst (IsArrangementPicture p a) (sym c.in_ok-extend_from_slice.ensures.items)
    (pictured p a c.args.begun.items c.put_full_board.new.text.items _ c.in_ok-put_full_board.ensures)
