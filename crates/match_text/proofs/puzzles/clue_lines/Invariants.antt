use Rattle.std.proofs.Common.{◌≡◌, ◌-◌, map}
use Rattle.match_board.specs.Clues.{clue_of}
use Rattle.text_words.specs.Place.{times}
use Rattle.match_text.specs.Puzzles.{clue_line}
use Rattle.text_words.proofs.LoopLemmas.{with_front}
use Rattle.match_text.proofs.puzzles.clue_lines.Given as goal

abbrev pub invariant-loop : goal.invariant-loop
invariant-loop l = with_front (map clue_of l.clues.items) (times (l.count - l.counter) clue_line l.scan) ≡ times l.count clue_line l.fn.scan
