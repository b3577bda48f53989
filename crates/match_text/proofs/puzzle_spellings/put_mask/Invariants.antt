use Rattle.std.proofs.Common.{◌≡◌, ◌≤◌, ◌-◌, ◌*◌, ◌++◌, length}
use Rattle.text_words.specs.Spelling.{text_of}
use Rattle.match_text.specs.PuzzleSpelling.{row_lines}
use Rattle.match_text.proofs.puzzle_spellings.put_mask.Given as goal

abbrev pub invariant-loop : goal.invariant-loop
invariant-loop l = record {
  room : (l.height - l.counter) * l.width ≤ length l.rest;
  written : l.text.items ++ text_of (row_lines l.width (l.height - l.counter) l.rest) ≡ l.fn.text.items ++ text_of (row_lines l.width l.height l.fn.mask);
}
