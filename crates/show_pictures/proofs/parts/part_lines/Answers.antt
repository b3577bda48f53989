use Rattle.std.proofs.Common.{◌+◌, ◌++◌, sym, subst, ap, arith, ◌∙◌}
use Rattle.std.proofs.lemmas.Option.{get_or_from_slice_get}
use Rattle.show_pictures.specs.Elements.{IsPartLine, IsPartLineAt}
use Rattle.show_pictures.specs.Joined.{IsJoined}
use Rattle.show_pictures.proofs.JoinedLemmas.{joined_more, same_item}
use Rattle.show_pictures.proofs.parts.part_lines.Goals as goal

pub loop-index-preserved : goal.loop-index-preserved
loop-index-preserved c =
    let canvas = c.args.canvas.now in
    let p = canvas.puzzle.now in
    let line : IsPartLineAt p canvas.left canvas.top canvas.sites.items c.args.placements.now c.loop-index.index c.in_ok-line.line.items =
    λ site x at placed.
    let same_site = same_item canvas.sites.items c.loop-index.index c.index.result.now site (omega (arith, c.loop-index-test.true, c.requires.many)) c.index.ensures at in
    let same_tile = get_or_from_slice_get c.args.placements.now c.loop-index.index x (record { tile = 0; turn = 0 }) placed in
    subst (λ s. IsPartLine p canvas.left canvas.top s x c.in_ok-line.line.items) same_site
    (subst (λ y. IsPartLine p canvas.left canvas.top c.index.result.now y c.in_ok-line.line.items) same_tile c.in_ok-line.ensures) in
    subst (IsJoined (IsPartLineAt p canvas.left canvas.top canvas.sites.items c.args.placements.now) (c.loop-index.index + 1))
    (sym (c.in_ok-extend_from_slice.ensures.items ∙ ap (λ t. c.loop-index.lines.items ++ t) c.deref.ensures.value))
    (joined_more _ c.loop-index.invariant line)
