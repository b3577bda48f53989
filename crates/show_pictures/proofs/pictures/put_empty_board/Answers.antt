use Rattle.std.proofs.Common.{◌++◌, refl, subst}
use Rattle.show_pictures.specs.Clued.{ShowsClues}
use Rattle.show_pictures.specs.Elements.{AreBandLines}
use Rattle.show_pictures.specs.Grown.{Wraps}
use Rattle.show_pictures.specs.Pictures.{IsEmptyBoard}
use Rattle.show_pictures.proofs.GrownLemmas.{wrapped_both, wrapped_more}
use Rattle.show_pictures.proofs.pictures.put_empty_board.Goals as goal

pub returns : goal.returns
returns c =
    let p = c.args.puzzle.now in
    let left = c.args.left in
    let canvas = c.in_ok-canvas.canvas in
    let made = c.in_ok-canvas.ensures in
    let sites = canvas.sites.items in
    let begun = c.args.text.now.items in
    let banded = c.put_bands.new.text.items in
    let outlined = c.put_outlines.new.text.items in
    let clued = c.put_clues.new.text.items in
    let bands =
    subst (λ q. Wraps (AreBandLines q left 40 sites) begun banded) made.puzzle
    (subst (λ left. Wraps (AreBandLines canvas.puzzle.now left 40 sites) begun banded) made.left
    (subst (λ top. Wraps (AreBandLines canvas.puzzle.now canvas.left top sites) begun banded) made.top c.in_ok-put_bands.ensures)) in
    let clues =
    subst (λ q. Wraps (ShowsClues q left 40 sites) outlined clued) made.puzzle
    (subst (λ left. Wraps (ShowsClues canvas.puzzle.now left 40 sites) outlined clued) made.left
    (subst (λ top. Wraps (ShowsClues canvas.puzzle.now canvas.left top sites) outlined clued) made.top c.in_ok-put_clues.ensures)) in
    let both = wrapped_both bands.2 c.in_ok-put_outlines.ensures clues.2 in
    let between = bands.2.back ++ c.in_ok-put_outlines.ensures.more ++ clues.2.front in
    let board : IsEmptyBoard p left 40 sites (bands.0 ++ between ++ clues.0) = record {
      bands = bands.0;
      are_bands = bands.1;
      between = between;
      clues = clues.0;
      are_clues = clues.1;
      written = refl;
    } in
    (sites, made.sites, (bands.0 ++ between ++ clues.0, board, wrapped_more both c.in_ok-put_numbers.ensures))
