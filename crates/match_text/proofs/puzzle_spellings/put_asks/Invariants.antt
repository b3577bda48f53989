use Rattle.std.proofs.Common.{◌≡◌, ◌++◌, take}
use Rattle.match_board.specs.Clues.{clue_of}
use Rattle.text_words.specs.Spelling.{asks_word}
use Rattle.match_text.proofs.puzzle_spellings.put_asks.Given as goal

abbrev pub invariant-loop-side : goal.invariant-loop-side
invariant-loop-side l = l.text.items ≡ l.fn.text.items ++ asks_word (take l.side (clue_of l.clue).asks)
