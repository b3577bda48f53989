use Rattle.std.proofs.Common.{◌∷◌, [], ◌++◌, ◌∙◌, ap, codes, sym}
use Rattle.text_words.specs.Spelling.{count_words, text_of}
use Rattle.text_words.proofs.WritingLemmas.{text_of-append}
use Rattle.match_report.proofs.complete_lists.count_lines.Goals as goal

pub returns : goal.returns
returns c =
    let counted = c.args.counted in
    let arrangements = count_words (codes "arrangements") counted.arrangements in
    let pictures = count_words (codes "pictures") counted.pictures in
    let orbits = count_words (codes "orbits") counted.orbits in
    let symmetries = count_words (codes "symmetries") c.args.symmetries in
    let one = c.in_ok-put_number_line.ensures ∙ ap (λ t. t ++ text_of (arrangements ∷ [])) c.new-text.ensures.items in
    let two = c.in_ok-put_number_line-2.ensures ∙ ap (λ t. t ++ text_of (pictures ∷ [])) one ∙ sym (text_of-append (arrangements ∷ []) (pictures ∷ [])) in
    let three = c.in_ok-put_number_line-3.ensures ∙ ap (λ t. t ++ text_of (orbits ∷ [])) two ∙ sym (text_of-append (arrangements ∷ pictures ∷ []) (orbits ∷ [])) in
    c.in_ok-put_number_line-4.ensures ∙ ap (λ t. t ++ text_of (symmetries ∷ [])) three ∙ sym (text_of-append (arrangements ∷ pictures ∷ orbits ∷ []) (symmetries ∷ []))
