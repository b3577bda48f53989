use Rattle.std.proofs.Common.{sym, subst}
use Rattle.show_pictures.specs.Pictures.{IsPuzzlePicture}
use Rattle.show_pictures.proofs.PictureLemmas.{puzzle_pictured}
use Rattle.show_pictures.proofs.pictures.write_puzzle_picture.Goals as goal

pub returns : goal.returns
returns c =
    let p = c.args.puzzle.now in
    let board = c.in_ok-put_empty_board.ensures in
    let tray = c.in_ok-put_tray.ensures in
    subst (IsPuzzlePicture p) (sym c.in_ok-extend_from_slice.ensures.items)
    (puzzle_pictured p tray.1 board.0 tray.0 _ _ _ _ _ _ _ board.1 tray.2 tray.3 board.2 tray.4)
