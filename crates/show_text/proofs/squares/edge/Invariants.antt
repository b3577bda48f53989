use Rattle.std.proofs.Common.{◌≡◌, ◌++◌, ◌-◌, map, false}
use Rattle.std.specs.List.{range_with_len}
use Rattle.show_text.specs.Squares.{fenced, inside_width, edge_piece}
use Rattle.show_text.proofs.squares.edge.Given as goal

-- the line so far, and what is left of it
abbrev pub invariant-loop-column : goal.invariant-loop-column
invariant-loop-column l =
    l.line.items ++ fenced 43 (inside_width l.digits) l.before (map (edge_piece l.digits l.above l.below) (range_with_len l.column (l.columns - l.column)))
    ≡ fenced 43 (inside_width l.digits) false (map (edge_piece l.digits l.above l.below) (range_with_len 0 l.columns))
