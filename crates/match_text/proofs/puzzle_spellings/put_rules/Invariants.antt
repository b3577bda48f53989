use Rattle.std.proofs.Common.{◌≡◌, ◌++◌, ◌∷◌, codes, map, take}
use Rattle.std.specs.List.{join_with_byte}
use Rattle.text_words.specs.Spelling.{rule_word}
use Rattle.match_text.proofs.puzzle_spellings.put_rules.Given as goal

abbrev pub invariant-loop-rule : goal.invariant-loop-rule
invariant-loop-rule l = l.text.items ≡ l.fn.text.items ++ join_with_byte 32 (codes "border" ∷ codes "each" ∷ map rule_word (take l.rule-index l.rules))
