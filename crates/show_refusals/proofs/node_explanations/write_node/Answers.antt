use Rattle.std.proofs.Common.{refl}
use Rattle.show_refusals.proofs.node_explanations.write_node.Goals as goal

pub returns : goal.returns
returns c =
    let words = c.in_ok-text.text.items in
    let (fitting, names, fits) = c.in_ok-put_what_fits.ensures in
    let (drawing, drawn, draws) = c.in_ok-put_drawing.ensures in
    (words, fitting, drawing, c.cell.result, c.in_ok-text.ensures, names, drawn, c.cell.ensures, rw (draws, fits) refl)
