use Rattle.std.proofs.Common.{◌≡◌, ◌++◌, drop}
use Rattle.show_text.specs.Pieces.{sheet_text}
use Rattle.show_text.specs.Triangles.{triangle_lines}
use Rattle.show_text.proofs.triangles.put_triangles.Given as goal

-- the text so far, and that of the rows that are left
abbrev pub invariant-loop-row : goal.invariant-loop-row
invariant-loop-row l = l.text.items ++ sheet_text (triangle_lines l.size l.row (drop l.row l.rows)) ≡ l.fn.text.items ++ sheet_text (triangle_lines l.size 0 l.rows)
