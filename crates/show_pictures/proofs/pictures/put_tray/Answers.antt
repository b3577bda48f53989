use Rattle.std.proofs.Common.{length, sym, subst}
use Rattle.show_pictures.specs.Pictures.{AreUnturned}
use Rattle.show_pictures.proofs.TileLemmas.{unturned_within}
use Rattle.show_pictures.proofs.pictures.put_tray.Goals as goal

pub put_below-requires-clause-tiles : goal.put_below-requires-clause-tiles
put_below-requires-clause-tiles c =
    let p = c.args.puzzle.now in
    let tiles = c.deref.result.now in
    let made = subst (AreUnturned c.tile_count.result) (sym c.deref.ensures.value) c.in_ok-tiles.ensures in
    unturned_within (length p.words) tiles (subst (λ n. AreUnturned n tiles) c.tile_count.ensures.count made)

pub returns : goal.returns
returns c =
    let p = c.args.puzzle.now in
    let tiles = c.deref.result.now in
    let made = subst (AreUnturned c.tile_count.result) (sym c.deref.ensures.value) c.in_ok-tiles.ensures in
    let below = c.in_ok-put_below.ensures in
    (below.0, tiles, below.1, subst (λ n. AreUnturned n tiles) c.tile_count.ensures.count made, below.2)
