use Rattle.std.proofs.Common.{◌≡◌, ◌++◌, map}
use Rattle.std.specs.List.{range_with_len}
use Rattle.match_puzzle.specs.Puzzle.{colour_of}
use Rattle.text_words.specs.Spelling.{tile_word}
use Rattle.match_report.proofs.boards.put_shown.Given as goal

abbrev pub invariant-loop-side : goal.invariant-loop-side
invariant-loop-side l = l.text.items ≡ l.fn.text.items ++ tile_word (map (colour_of l.puzzle l.placement) (range_with_len 0 l.side))
