use Rattle.std.proofs.Common.{◌≡◌, ◌++◌, map, take}
use Rattle.text_words.specs.Words.{is_cell}
use Rattle.match_text.proofs.puzzles.put_marks.Given as goal

abbrev pub invariant-loop-character : goal.invariant-loop-character
invariant-loop-character l = l.marks.items ≡ l.fn.marks.items ++ map is_cell (take l.character-index l.row)
