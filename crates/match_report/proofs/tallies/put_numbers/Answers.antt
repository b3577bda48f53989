use Rattle.std.proofs.Common.{◌≡◌, ◌<◌, ◌+◌, ◌∷◌, [], ◌++◌, length, get_or, map, decimal, take, sym, ap, ◌∙◌, append_assoc, arith}
use Rattle.std.proofs.lemmas.List.{map-append, take_more}
use Rattle.text_words.specs.Spelling.{spaced}
use Rattle.match_report.proofs.LineLemmas.{spaced-more}
use Rattle.match_report.proofs.tallies.put_numbers.Goals as goal

pub loop-number-preserved : goal.loop-number-preserved
loop-number-preserved c =
    let numbers = c.args.numbers.now in
    let i = c.loop-number.number-index in
    let lt : i < length numbers = omega arith in
    let word = decimal (get_or numbers i 0) in
    let words : map decimal (take (i + 1) numbers) ≡ map decimal (take i numbers) ++ word ∷ [] = ap (map decimal) (take_more numbers i 0 lt) ∙ map-append decimal (take i numbers) (get_or numbers i 0 ∷ []) in
    let more = ap spaced words ∙ spaced-more (map decimal (take i numbers)) word in
    c.in_ok-put_number.ensures ∙ ap (λ n. c.push.new.self.items ++ decimal n) c.from.ensures ∙ ap (λ text. text ++ word) (c.in_ok-push.ensures.items ∙ ap (λ text. text ++ 32 ∷ []) c.loop-number.invariant) ∙ append_assoc (c.args.text.now.items ++ spaced (map decimal (take i numbers))) (32 ∷ []) word
    ∙ append_assoc c.args.text.now.items (spaced (map decimal (take i numbers))) (32 ∷ word) ∙ ap (λ text. c.args.text.now.items ++ text) (sym more)
