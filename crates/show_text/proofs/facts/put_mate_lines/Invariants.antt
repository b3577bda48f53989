use Rattle.std.proofs.Common.{◌≡◌, ◌-◌, ◌++◌}
use Rattle.std.specs.List.{flat_map, range_with_len}
use Rattle.show_text.specs.Facts.{mate_line}
use Rattle.show_text.proofs.facts.put_mate_lines.Given as goal

-- the text so far, and the lines that are left
abbrev pub invariant-loop-colour : goal.invariant-loop-colour
invariant-loop-colour l =
    l.text.items ++ flat_map (mate_line l.puzzle) (range_with_len l.colour (l.colours - l.colour))
    ≡ l.fn.text.items ++ flat_map (mate_line l.puzzle) (range_with_len 0 l.colours)
