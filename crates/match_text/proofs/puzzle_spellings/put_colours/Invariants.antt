use Rattle.std.proofs.Common.{◌≡◌, ◌++◌, take}
use Rattle.match_board.specs.Tile.{word}
use Rattle.text_words.specs.Spelling.{tile_word}
use Rattle.match_text.proofs.puzzle_spellings.put_colours.Given as goal

abbrev pub invariant-loop-side : goal.invariant-loop-side
invariant-loop-side l = l.text.items ≡ l.fn.text.items ++ tile_word (take l.side (word l.tile))
