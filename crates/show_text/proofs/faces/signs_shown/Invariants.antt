use Rattle.std.proofs.Common.{◌≡◌, ◌<◌, ℕ, get_or, length}
use Rattle.match_puzzle.specs.Puzzle.{colour_of}
use Rattle.text_words.specs.Spelling.{colour_character}
use Rattle.show_text.proofs.faces.signs_shown.Given as goal

abbrev pub invariant-loop-side : goal.invariant-loop-side
invariant-loop-side l = record {
  long : length l.signs ≡ 4;
  each : (n : ℕ) → n < l.side → get_or l.signs n 0 ≡ colour_character (colour_of l.puzzle l.placement n);
}
