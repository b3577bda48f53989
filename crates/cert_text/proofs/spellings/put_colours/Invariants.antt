use Rattle.std.proofs.Common.{◌≡◌, ◌++◌, map, take}
use Rattle.text_words.specs.Spelling.{spaced, colour_word}
use Rattle.cert_text.proofs.spellings.put_colours.Given as goal

abbrev pub invariant-loop-colour : goal.invariant-loop-colour
invariant-loop-colour l = l.text.items ≡ l.fn.text.items ++ spaced (map colour_word (take l.colour-index l.colours))
