use Rattle.std.proofs.Common.{◌≡◌, ◌++◌, [], drop}
use Rattle.show_text.specs.Pieces.{sheet_text}
use Rattle.show_text.specs.Squares.{square_lines}
use Rattle.show_text.proofs.squares.write_squares.Given as goal

-- the text so far, and that of the rows that are left
abbrev pub invariant-loop-row : goal.invariant-loop-row
invariant-loop-row l = l.text.items ++ sheet_text (square_lines l.digits l.columns l.above (drop l.row-index l.rows)) ≡ sheet_text (square_lines l.digits l.columns [] l.rows)
