use Rattle.std.proofs.Common.{◌<◌, length, append_assoc, arith}
use Rattle.text_words.specs.Spelling.{placement_word}
use Rattle.text_words.proofs.WritingLemmas.{words_more}
use Rattle.match_text.proofs.list_spellings.put_row.Goals as goal

pub loop-index-preserved : goal.loop-index-preserved
loop-index-preserved c =
    let lt : c.loop-index.index < length c.args.row.now = omega arith in
    let more = words_more placement_word c.args.row.now c.loop-index.index (record { tile = 0; turn = 0 }) lt in
    rw (c.in_ok-put_next.ensures, c.loop-index.invariant, more) (append_assoc c.args.text.now.items _ _)
