use Rattle.std.proofs.Common.{◌≡◌, ◌<◌, get_or, length, arith, subst}
use Rattle.show_pictures.specs.Elements.{IsAtSide}
use Rattle.show_pictures.proofs.EdgeLemmas.{element_more}
use Rattle.show_pictures.proofs.JoinedLemmas.{same_item}
use Rattle.show_pictures.proofs.bands.band.Goals as goal

pub returns : goal.returns
returns c = λ site at.
    let canvas = c.args.canvas.now in
    let ruled = c.args.ruled in
    let within : ruled.cell < length canvas.sites.items = omega (arith, c.requires.many, c.requires.cell) in
    let read = subst (λ i. c.index-site.result.now ≡ get_or canvas.sites.items i c.index-site.result.now) c.from.ensures c.index-site.ensures in
    let same = same_item canvas.sites.items ruled.cell c.index-site.result.now site within read at in
    let made = element_more _ _ _ _ _ _ _ c.in_ok-band.ensures c.in_ok-extend_from_slice.ensures.items in
    subst (λ s. IsAtSide canvas.puzzle.now canvas.left canvas.top s ruled.side ruled.colour c.extend_from_slice.new.self.items) same made
