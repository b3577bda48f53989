use Rattle.match_text.proofs.ShapeLemmas.{RowsRead}
use Rattle.match_text.proofs.puzzles.shape_rows.Given as goal

abbrev pub invariant-loop : goal.invariant-loop
invariant-loop l = RowsRead l.width l.height l.counter l.fn.scan l.marks.items l.scan
