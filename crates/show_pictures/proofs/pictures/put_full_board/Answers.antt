use Rattle.std.proofs.Common.{◌<◌, All, length, sym, subst}
use Rattle.show_pictures.specs.Arrows.{AreTileLines}
use Rattle.show_pictures.specs.Elements.{AreBandLines}
use Rattle.show_pictures.specs.Grown.{Wraps}
use Rattle.show_pictures.proofs.PictureLemmas.{full_board}
use Rattle.show_pictures.proofs.TileLemmas.{have_tiles}
use Rattle.show_pictures.proofs.pictures.put_full_board.Goals as goal

pub put_tiles-requires-clause-tiles : goal.put_tiles-requires-clause-tiles
put_tiles-requires-clause-tiles c =
    let a = c.args.arrangement.now in
    subst (λ p. All (λ x. x.tile < length p.words) a) (sym c.in_ok-canvas.ensures.puzzle) (have_tiles c.args.puzzle.now a c.requires)

pub returns : goal.returns
returns c =
    let p = c.args.puzzle.now in
    let a = c.args.arrangement.now in
    let canvas = c.in_ok-canvas.canvas in
    let made = c.in_ok-canvas.ensures in
    let sites = canvas.sites.items in
    let begun = c.args.text.now.items in
    let banded = c.put_bands.new.text.items in
    let tiled = c.put_tiles.new.text.items in
    let bands =
    subst (λ q. Wraps (AreBandLines q 40 40 sites) begun banded) made.puzzle
    (subst (λ left. Wraps (AreBandLines canvas.puzzle.now left 40 sites) begun banded) made.left
    (subst (λ top. Wraps (AreBandLines canvas.puzzle.now canvas.left top sites) begun banded) made.top c.in_ok-put_bands.ensures)) in
    let parts =
    subst (λ q. Wraps (AreTileLines q 40 40 sites a) banded tiled) made.puzzle
    (subst (λ left. Wraps (AreTileLines canvas.puzzle.now left 40 sites a) banded tiled) made.left
    (subst (λ top. Wraps (AreTileLines canvas.puzzle.now canvas.left top sites a) banded tiled) made.top c.in_ok-put_tiles.ensures)) in
    full_board p a sites begun banded tiled made.sites bands parts
