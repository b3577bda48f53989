use Rattle.std.proofs.Common.{◌≡◌, ◌++◌, map, take}
use Rattle.match_text.specs.PuzzleSpelling.{mark_character}
use Rattle.match_text.proofs.puzzle_spellings.put_marks.Given as goal

abbrev pub invariant-loop-mark : goal.invariant-loop-mark
invariant-loop-mark l = l.text.items ≡ l.fn.text.items ++ map mark_character (take l.mark-index l.row)
