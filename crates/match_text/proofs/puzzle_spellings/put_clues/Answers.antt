use Rattle.std.proofs.Common.{◌++◌, ℕ, List, sym, ap, ◌∙◌, arith}
use Rattle.std.proofs.lemmas.Simd.{map-map}
use Rattle.match_board.specs.Clues.{clue_of}
use Rattle.match_board.specs.declared.clues.Clue.{Clue}
use Rattle.text_words.specs.Spelling.{text_of}
use Rattle.match_text.specs.PuzzleSpelling.{clue_words}
use Rattle.text_words.proofs.WritingLemmas.{no_line, one_line, all_lines}
use Rattle.match_text.proofs.puzzle_spellings.put_clues.Goals as goal

abbrev words : Clue → List (List ℕ)
words clue = clue_words (clue_of clue)

pub loop-clue-init : goal.loop-clue-init
loop-clue-init c = no_line words c.args.clues.now c.args.text.now.items

pub loop-clue-preserved : goal.loop-clue-preserved
loop-clue-preserved c =
    one_line words c.args.clues.now c.args.text.now.items c.loop-clue.text.items c.put_clue.new.text.items c.loop-clue.clue-index c.clue-item.result (omega arith) c.clue-item.is c.loop-clue.invariant c.in_ok-put_clue.ensures

pub returns : goal.returns
returns c =
    let text = c.args.text.now.items in
    c.loop-clue.invariant ∙ all_lines words c.args.clues.now text c.loop-clue.clue-index (omega arith) ∙ ap (λ lines. text ++ text_of lines) (sym (map-map clue_words clue_of c.args.clues.now))
