use Rattle.std.proofs.Common.{◌+◌, ap, ◌∙◌}
use Rattle.show_pictures.specs.Elements.{element_begin}
use Rattle.show_pictures.specs.Forms.{begin_of}
use Rattle.show_pictures.proofs.parts.begin_at.Goals as goal

pub returns : goal.returns
returns c =
    let canvas = c.args.canvas.now in
    let p = canvas.puzzle.now in
    let site = c.args.site in
    let colour = c.args.colour in
    let x = c.point-at.ensures.x ∙ ap (λ n. canvas.left + site.x + n) c.side_of-form_side.ensures.x in
    let y = c.point-at.ensures.y ∙ ap (λ n. canvas.top + site.y + n) c.side_of-form_side.ensures.y in
    c.in_ok-text.ensures
    ∙ ap (λ n. element_begin p colour n c.point-at.result.y) x
    ∙ ap (λ n. element_begin p colour (canvas.left + site.x + (begin_of site.form c.args.side).0) n) y
