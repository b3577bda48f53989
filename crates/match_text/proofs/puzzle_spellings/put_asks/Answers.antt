use Rattle.std.proofs.Common.{◌≡◌, ◌<◌, ◌∷◌, [], ◌++◌, None, length, take, get_or, sym, ap, ◌∙◌, append_assoc, arith}
use Rattle.match_board.specs.Clues.{clue_of}
use Rattle.text_words.specs.Spelling.{ask_character, asks_word}
use Rattle.text_words.proofs.WritingLemmas.{asks_more}
use Rattle.match_text.proofs.ClueLemmas.{rule_below, got_is}
use Rattle.match_text.proofs.puzzle_spellings.put_asks.Goals as goal

pub put_ask-requires : goal.put_ask-requires
put_ask-requires c = rule_below c.asks.result c.asks.ensures.below

pub loop-side-preserved : goal.loop-side-preserved
loop-side-preserved c =
    let asks = (clue_of c.args.clue.now).asks in
    let side = c.loop-side.side in
    let lt : side < length asks = omega (arith, c.sides-side-end.ensures.count) in
    let asked : ask_character c.asks.result ≡ ask_character (get_or asks side None) = ap ask_character (sym (got_is asks side c.asks.result None c.asks.ensures.asked)) in
    c.in_ok-put_ask.ensures ∙ ap (λ x. c.loop-side.text.items ++ x ∷ []) asked ∙ ap (λ t. t ++ ask_character (get_or asks side None) ∷ []) c.loop-side.invariant
    ∙ append_assoc c.args.text.now.items (asks_word (take side asks)) (ask_character (get_or asks side None) ∷ []) ∙ ap (λ t. c.args.text.now.items ++ t) (sym (asks_more asks side None lt))
