use Rattle.std.proofs.Common.{◌++◌, ◌+◌, ◌-◌, map, is_some, ap, sym, ◌∙◌, append_assoc}
use Rattle.std.specs.List.{range_with_len}
use Rattle.show_text.specs.Squares.{fenced, posted, inside_width, edge_piece, dashes}
use Rattle.show_text.proofs.SquareLemmas.{fenced_next, dashes-is_some}
use Rattle.show_text.proofs.squares.edge.Goals as goal

pub loop-column-preserved : goal.loop-column-preserved
loop-column-preserved c =
    let digits = c.args.digits in
    let width = inside_width digits in
    let piece = edge_piece digits c.args.above.now c.args.below.now in
    let column = c.loop-column.column in
    let before = c.loop-column.before in
    let line = c.loop-column.line.items in
    let rest = map piece (range_with_len (column + 1) (c.args.columns - (column + 1))) in
    let same = ap (dashes digits) c.has_edge-there.ensures in
    ap (λ xs. xs ++ fenced 43 width c.has_edge-there.result rest) (c.in_ok-put_edge.ensures ∙ ap (λ p. line ++ posted 43 width before p) same)
    ∙ append_assoc line (posted 43 width before (piece column)) (fenced 43 width c.has_edge-there.result rest)
    ∙ ap (λ b. line ++ (posted 43 width before (piece column) ++ fenced 43 width b rest)) (sym (dashes-is_some digits c.has_edge-there.result) ∙ ap is_some same)
    ∙ ap (λ xs. line ++ xs) (sym (fenced_next piece 43 width before column c.args.columns c.loop-column-test.true))
    ∙ c.loop-column.invariant
