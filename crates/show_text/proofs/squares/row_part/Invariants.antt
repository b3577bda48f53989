use Rattle.std.proofs.Common.{◌≡◌, ◌++◌, map, drop, false}
use Rattle.std.specs.Prelude.{option_map}
use Rattle.show_text.specs.Squares.{fenced, inside_width, square_part}
use Rattle.show_text.proofs.squares.row_part.Given as goal

-- the line so far, and what is left of it
abbrev pub invariant-loop-place : goal.invariant-loop-place
invariant-loop-place l =
    l.line.items ++ fenced 124 (inside_width l.digits) l.before (map (option_map (square_part l.digits l.part)) (drop l.place-index l.places))
    ≡ fenced 124 (inside_width l.digits) false (map (option_map (square_part l.digits l.part)) l.places)
