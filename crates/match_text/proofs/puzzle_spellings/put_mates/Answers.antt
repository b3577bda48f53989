use Rattle.std.proofs.Common.{◌≡◌, ◌<◌, ◌∷◌, [], ◌++◌, length, map, take, get_or, sym, ap, ◌∙◌, append_assoc, codes, arith}
use Rattle.std.specs.List.{join_with_byte}
use Rattle.std.proofs.lemmas.List.{take_all}
use Rattle.text_words.specs.Spelling.{line_text, colour_word}
use Rattle.text_words.proofs.WritingLemmas.{line_alone, mates_more}
use Rattle.match_text.proofs.puzzle_spellings.put_mates.Goals as goal

pub loop-mate-preserved : goal.loop-mate-preserved
loop-mate-preserved c =
    let mates = c.args.mates.now in
    let index = c.loop-mate.mate-index in
    let lt : index < length mates = omega arith in
    let mate = colour_word (get_or mates index 0) in
    c.in_ok-put_colour.ensures ∙ ap (λ t. t ++ 32 ∷ mate) c.loop-mate.invariant ∙ append_assoc c.args.text.now.items (join_with_byte 32 (codes "mates" ∷ map colour_word (take index mates))) (32 ∷ mate)
    ∙ ap (λ t. c.args.text.now.items ++ t) (sym (mates_more mates index 0 lt))

pub returns : goal.returns
unfolding line_text
returns c =
    let mates = c.args.mates.now in
    let words = codes "mates" ∷ map colour_word mates in
    let all : take c.loop-mate.mate-index mates ≡ mates = take_all c.loop-mate.mate-index mates (omega arith) in
    c.in_ok-push.ensures.items ∙ ap (λ t. t ++ 10 ∷ []) (c.loop-mate.invariant ∙ ap (λ ms. c.args.text.now.items ++ join_with_byte 32 (codes "mates" ∷ map colour_word ms)) all)
    ∙ append_assoc c.args.text.now.items (join_with_byte 32 words) (10 ∷ []) ∙ ap (λ t. c.args.text.now.items ++ t) (sym (line_alone words))
