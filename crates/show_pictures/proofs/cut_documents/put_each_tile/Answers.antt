use Rattle.std.proofs.Common.{◌++◌, ap, length, subst, sym, ◌∙◌}
use Rattle.show_pictures.specs.Pictures.{AreUnturned}
use Rattle.show_pictures.proofs.CutLemmas.{wraps_whole}
use Rattle.show_pictures.proofs.TileLemmas.{unturned_within}
use Rattle.show_pictures.proofs.cut_documents.put_each_tile.Goals as goal

pub tile_pages-requires-clause-tiles : goal.tile_pages-requires-clause-tiles
tile_pages-requires-clause-tiles c =
    let p = c.args.puzzle.now in
    let tiles = c.deref.result.now in
    let made = subst (AreUnturned c.tile_count.result) (sym c.deref.ensures.value) c.in_ok-tiles.ensures in
    unturned_within (length p.words) tiles (subst (λ n. AreUnturned n tiles) c.tile_count.ensures.count made)

pub returns : goal.returns
returns c =
    let p = c.args.puzzle.now in
    let tiles = c.deref.result.now in
    let made = subst (AreUnturned c.tile_count.result) (sym c.deref.ensures.value) c.in_ok-tiles.ensures in
    wraps_whole c.in_ok-pages.pages.items
    (record { tiles = tiles; are_tiles = subst (λ n. AreUnturned n tiles) c.tile_count.ensures.count made; are_pages = c.in_ok-pages.ensures })
    (c.in_ok-extend_from_slice.ensures.items ∙ ap (λ t. c.args.text.now.items ++ t) c.deref-2.ensures.value)
