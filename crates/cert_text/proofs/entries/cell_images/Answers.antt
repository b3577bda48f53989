use Rattle.std.proofs.Common.{◌<◌, ◌≤◌, length, sym, ◌∙◌, arith, codes}
use Rattle.std.proofs.lemmas.Result.{err_from_is_err_and}
use Rattle.text_words.specs.declared.faults.ReadFault.TheVariants as faults
use Rattle.text_words.specs.PlainWords.{number_in}
use Rattle.text_words.proofs.LoopLemmas.{none_read, one_read, entry_fails, too_many, all_read, word_shorter}
use Rattle.cert_text.specs.Entries.{entries_before}
use Rattle.cert_text.proofs.EntryLemmas.{reads_before}
use Rattle.cert_text.proofs.entries.cell_images.Goals as goal

pub loop-scan-init : goal.loop-scan-init
loop-scan-init c = rw c.new-images.ensures.items (none_read c.args.ranges.now.most_cells (λ room. entries_before (codes "colours") room (number_in 0 c.args.ranges.now.last_cell)) c.args.scan.now)

pub returns-in_err-further_entry : goal.returns-in_err-further_entry
returns-in_err-further_entry c =
    let p = err_from_is_err_and c.from_residual.result c.from_residual.ensures.1 in
    let full : c.args.ranges.now.most_cells ≤ length c.loop-scan.images.items = omega (arith, c.in_err-further_entry.ensures.0, c.len.ensures, c.loop-scan.images.ok.0) in
    rw (p.1, p.2, c.in_err-further_entry.ensures.1) (too_many (reads_before (codes "colours") (number_in 0 c.args.ranges.now.last_cell)) c.loop-scan.scan c.loop-scan.images.items full (sym c.has_other.ensures ∙ c.loop-scan-test.true) c.loop-scan.invariant)

pub returns-in_err-image : goal.returns-in_err-image
returns-in_err-image c =
    let p = err_from_is_err_and c.from_residual-in_err-image.result c.from_residual-in_err-image.ensures.1 in
    let few : length c.loop-scan.images.items < c.args.ranges.now.most_cells = omega (arith, c.in_ok-further_entry.ensures, c.len.ensures, c.loop-scan.images.ok.0) in
    rw (p.1, p.2) (entry_fails (reads_before (codes "colours") (number_in 0 c.args.ranges.now.last_cell)) c.loop-scan.scan c.loop-scan.images.items (faults.Text c.in_err-image.field-0.0) few (sym c.has_other.ensures ∙ c.loop-scan-test.true) c.in_err-image.ensures c.loop-scan.invariant)

pub loop-scan-smaller : goal.loop-scan-smaller
loop-scan-smaller c = word_shorter (number_in 0 c.args.ranges.now.last_cell) c.loop-scan.scan c.image.new.scan c.in_ok-image.image c.in_ok-image.ensures

pub loop-scan-preserved : goal.loop-scan-preserved
loop-scan-preserved c =
    let few : length c.loop-scan.images.items < c.args.ranges.now.most_cells = omega (arith, c.in_ok-further_entry.ensures, c.len.ensures, c.loop-scan.images.ok.0) in
    one_read (reads_before (codes "colours") (number_in 0 c.args.ranges.now.last_cell)) c.loop-scan.scan c.image.new.scan c.loop-scan.images.items c.push.new.self.items c.in_ok-image.image few c.in_ok-push.ensures.items (sym c.has_other.ensures ∙ c.loop-scan-test.true) c.in_ok-image.ensures c.loop-scan.invariant

pub returns : goal.returns
returns c = all_read (reads_before (codes "colours") (number_in 0 c.args.ranges.now.last_cell)) c.loop-scan.scan c.loop-scan.images.items (sym c.has_other.ensures ∙ c.loop-scan-test.false) c.loop-scan.invariant
