use Rattle.std.proofs.Common.{◌≡◌, ◌++◌}
use Rattle.match_board.specs.Clues.{clue_of}
use Rattle.match_text.specs.PuzzleSpelling.{clue_words}
use Rattle.text_words.proofs.WritingLemmas.{first_lines}
use Rattle.match_text.proofs.puzzle_spellings.put_clues.Given as goal

abbrev pub invariant-loop-clue : goal.invariant-loop-clue
invariant-loop-clue l = l.text.items ≡ l.fn.text.items ++ first_lines (λ clue. clue_words (clue_of clue)) l.clues l.clue-index
