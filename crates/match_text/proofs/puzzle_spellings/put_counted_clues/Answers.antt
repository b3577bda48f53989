use Rattle.std.proofs.Common.{◌++◌, ◌∷◌, [], length, map, codes, sym, ap, ◌∙◌, append_assoc}
use Rattle.std.proofs.lemmas.List.{length-map}
use Rattle.match_board.specs.Clues.{clue_of}
use Rattle.text_words.specs.Spelling.{text_of, count_words}
use Rattle.match_text.specs.PuzzleSpelling.{clue_words}
use Rattle.text_words.proofs.WritingLemmas.{text_of-append}
use Rattle.match_text.proofs.puzzle_spellings.put_counted_clues.Goals as goal

pub returns : goal.returns
returns c =
    let text = c.args.text.now.items in
    let clues = map clue_of c.args.clues.now in
    let lines = map clue_words clues in
    let count = count_words (codes "clues") (length clues) ∷ [] in
    let counted = c.in_ok-put_number_line.ensures ∙ ap (λ n. text ++ text_of (count_words (codes "clues") n ∷ [])) (sym (length-map c.args.clues.now clue_of)) in
    c.in_ok-put_clues.ensures ∙ ap (λ t. t ++ text_of lines) counted ∙ append_assoc text (text_of count) (text_of lines) ∙ ap (λ t. text ++ t) (sym (text_of-append count lines))
