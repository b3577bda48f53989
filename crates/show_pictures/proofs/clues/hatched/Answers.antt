use Rattle.std.proofs.Common.{◌≡◌, ◌<◌, ◌+◌, ◌++◌, get_or, length, arith, ap, subst, sym, ◌∙◌}
use Rattle.show_pictures.specs.Clued.{IsHatchedAt}
use Rattle.show_pictures.specs.Elements.{IsAlong}
use Rattle.show_pictures.proofs.ClueLemmas.{hatched_once}
use Rattle.show_pictures.proofs.JoinedLemmas.{same_item}
use Rattle.show_pictures.proofs.clues.hatched.Goals as goal

pub returns : goal.returns
returns c = λ site at.
    let canvas = c.args.canvas.now in
    let ruled = c.args.ruled in
    let here = c.index-site.result.now in
    let within : ruled.cell < length canvas.sites.items = omega (arith, c.requires.many, c.requires.cell) in
    let read = subst (λ i. here ≡ get_or canvas.sites.items i here) c.from.ensures c.index-site.ensures in
    let same = same_item canvas.sites.items ruled.cell here site within read at in
    let x = c.point-begin.ensures.x ∙ ap (λ n. canvas.left + here.x + n) c.side_of-form_side.ensures.x in
    let y = c.point-begin.ensures.y ∙ ap (λ n. canvas.top + here.y + n) c.side_of-form_side.ensures.y in
    let along = subst (IsAlong canvas.puzzle.now ruled.colour) (sym c.as_bytes.ensures.value) c.in_ok-path.ensures in
    let again = c.in_ok-extend_from_slice-2.ensures.items ∙ ap (λ t. c.put_hatching_begin.new.text.items ++ t) (c.as_bytes-2.ensures.value ∙ sym c.as_bytes.ensures.value) in
    let made = hatched_once canvas.puzzle.now ruled.colour _ _ _ _ _ _ _ _ _ c.in_ok-text.ensures c.in_ok-extend_from_slice.ensures.items c.in_ok-put_hatching_begin.ensures again x y along in
    subst (λ s. IsHatchedAt canvas.puzzle.now canvas.left canvas.top s ruled.side ruled.colour c.extend_from_slice-2.new.self.items) same made
