use Rattle.std.proofs.Common.{◌≡◌, ◌++◌, ◌∷◌, codes, map, take}
use Rattle.std.specs.List.{join_with_byte}
use Rattle.text_words.specs.Spelling.{colour_word}
use Rattle.match_text.proofs.puzzle_spellings.put_mates.Given as goal

abbrev pub invariant-loop-mate : goal.invariant-loop-mate
invariant-loop-mate l = l.text.items ≡ l.fn.text.items ++ join_with_byte 32 (codes "mates" ∷ map colour_word (take l.mate-index l.mates))
