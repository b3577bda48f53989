use Rattle.show_pictures.proofs.CutLemmas.{tile_page}
use Rattle.show_pictures.proofs.cut_pages.tile_page.Goals as goal

pub returns : goal.returns
returns c =
    let tiled = c.in_ok-put_tiles_apart.ensures in
    let layout = c.args.layout.now in
    tile_page layout.plan.size c.args.puzzle.now c.args.tiles.now tiled.0 layout.corner layout.corner _ _ _ _ c.requires.some tiled.1
    c.in_ok-page.ensures c.in_ok-extend_from_slice.ensures.items c.in_ok-put_scale.ensures tiled.2
    c.in_ok-extend_from_slice-2.ensures.items c.in_ok-extend_from_slice-3.ensures.items c.in_ok-extend_from_slice-4.ensures.items
