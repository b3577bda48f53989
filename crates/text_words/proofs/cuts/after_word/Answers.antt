use Rattle.std.proofs.Common.{◌++◌, length, drop, ap, sym, arith, ◌∙◌}
use Rattle.std.proofs.lemmas.List.{take-append-drop}
use Rattle.std.proofs.lemmas.Slice.Eq.{bytes_eq-Decides}
use Rattle.text_words.proofs.WordEndLemmas.{none_found, word_front}
use Rattle.text_words.proofs.cuts.after_word.Goals as goal

pub returns-in-32 : goal.returns-in-32
returns-in-32 c =
    let line = c.args.line.now in
    let word = c.args.word.now in
    let cases = c.in_ok-strip_prefix.ensures.cases in
    let same = (bytes_eq-Decides _ word).0 cases.0 in
    let parts = sym (take-append-drop (length word) line) ∙ ap (λ xs. xs ++ drop (length word) line) same ∙ ap (λ xs. word ++ xs) (sym cases.1) in
    word_front line c.in_ok-strip_prefix.field-0.now word parts c.in-32.len_at_least (omega arith) (none_found c.place_of.result c.if-is_none.ensures ∙ c.place_of.ensures)
