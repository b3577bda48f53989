use Rattle.std.proofs.Common.{◌≡◌, ◌<◌, ◌∷◌, [], ◌++◌, None, length, map, take, get_or, sym, ap, ◌∙◌, append_assoc, codes, arith}
use Rattle.std.specs.List.{join_with_byte}
use Rattle.std.proofs.lemmas.List.{take_all}
use Rattle.text_words.specs.Spelling.{line_text, rule_word}
use Rattle.text_words.proofs.WritingLemmas.{line_alone, rules_more}
use Rattle.match_text.proofs.puzzle_spellings.put_rules.Goals as goal

pub loop-rule-preserved : goal.loop-rule-preserved
loop-rule-preserved c =
    let rules = c.args.rules.now in
    let index = c.loop-rule.rule-index in
    let lt : index < length rules = omega arith in
    let rule = rule_word (get_or rules index None) in
    c.in_ok-put_rule.ensures ∙ ap (λ t. t ++ 32 ∷ rule) c.loop-rule.invariant ∙ append_assoc c.args.text.now.items (join_with_byte 32 (codes "border" ∷ codes "each" ∷ map rule_word (take index rules))) (32 ∷ rule)
    ∙ ap (λ t. c.args.text.now.items ++ t) (sym (rules_more rules index None lt))

pub returns : goal.returns
unfolding line_text
returns c =
    let rules = c.args.rules.now in
    let words = codes "border" ∷ codes "each" ∷ map rule_word rules in
    let all : take c.loop-rule.rule-index rules ≡ rules = take_all c.loop-rule.rule-index rules (omega arith) in
    c.in_ok-push.ensures.items ∙ ap (λ t. t ++ 10 ∷ []) (c.loop-rule.invariant ∙ ap (λ rs. c.args.text.now.items ++ join_with_byte 32 (codes "border" ∷ codes "each" ∷ map rule_word rs)) all)
    ∙ append_assoc c.args.text.now.items (join_with_byte 32 words) (10 ∷ []) ∙ ap (λ t. c.args.text.now.items ++ t) (sym (line_alone words))
