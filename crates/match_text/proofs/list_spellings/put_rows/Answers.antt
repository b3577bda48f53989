use Rattle.std.proofs.Common.{◌++◌, ap, ◌∙◌, arith}
use Rattle.text_words.specs.Spelling.{line_text}
use Rattle.match_text.specs.ListSpelling.{arrangement_words}
use Rattle.text_words.proofs.WritingLemmas.{no_line, one_line}
use Rattle.match_text.proofs.list_spellings.put_rows.Goals as goal

pub loop-row-init : goal.loop-row-init
loop-row-init c = no_line arrangement_words c.args.rows.now c.args.text.now.items

pub loop-row-preserved : goal.loop-row-preserved
loop-row-preserved c =
    let before = c.loop-row.text.items in
    one_line arrangement_words c.args.rows.now c.args.text.now.items before c.put_row.new.text.items c.loop-row.row-index c.row-item.result (omega arith) c.row-item.is c.loop-row.invariant
    (c.in_ok-put_row.ensures ∙ ap (λ row. before ++ line_text (arrangement_words row)) c.placements.ensures)
