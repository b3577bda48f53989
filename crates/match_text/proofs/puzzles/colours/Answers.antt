use Rattle.std.proofs.Common.{◌<◌, ◌≤◌, length, arith}
use Rattle.match_limits.specs.declared.TheConstants.{MOST_COLOURS}
use Rattle.std.proofs.lemmas.Result.{err_from_is_err_and}
use Rattle.text_words.specs.declared.faults.ReadFault.TheVariants as faults
use Rattle.text_words.specs.Words.{colour_in}
use Rattle.text_words.specs.Place.{entries}
use Rattle.text_words.proofs.LoopLemmas.{reads_rest, none_read, one_read, entry_fails, too_many, all_read, word_shorter}
use Rattle.match_text.proofs.puzzles.colours.Goals as goal

pub loop-scan-init : goal.loop-scan-init
loop-scan-init c = rw c.new-colours.ensures.items (none_read MOST_COLOURS (λ room. entries room colour_in) c.args.scan.now)

pub returns-in_err-further_entry : goal.returns-in_err-further_entry
returns-in_err-further_entry c =
    let p = err_from_is_err_and c.from_residual.result c.from_residual.ensures.1 in
    let full : MOST_COLOURS ≤ length c.loop-scan.colours.items = omega (arith, c.in_err-further_entry.ensures.0, c.len.ensures, c.loop-scan.colours.ok.0) in
    rw (p.1, p.2, c.in_err-further_entry.ensures.1) (too_many (reads_rest colour_in) c.loop-scan.scan c.loop-scan.colours.items full c.loop-scan-test.ensures c.loop-scan.invariant)

pub returns-in_err-colour : goal.returns-in_err-colour
returns-in_err-colour c =
    let p = err_from_is_err_and c.from_residual-in_err-colour.result c.from_residual-in_err-colour.ensures.1 in
    let few : length c.loop-scan.colours.items < MOST_COLOURS = omega (arith, c.in_ok-further_entry.ensures, c.len.ensures, c.loop-scan.colours.ok.0) in
    rw (p.1, p.2) (entry_fails (reads_rest colour_in) c.loop-scan.scan c.loop-scan.colours.items (faults.Text c.in_err-colour.field-0.0) few c.loop-scan-test.ensures c.in_err-colour.ensures.gives c.loop-scan.invariant)

pub loop-scan-smaller : goal.loop-scan-smaller
loop-scan-smaller c = word_shorter colour_in c.loop-scan.scan c.colour.new.self c.in_ok-colour.colour c.in_ok-colour.ensures.gives

pub loop-scan-preserved : goal.loop-scan-preserved
loop-scan-preserved c =
    let few : length c.loop-scan.colours.items < MOST_COLOURS = omega (arith, c.in_ok-further_entry.ensures, c.len.ensures, c.loop-scan.colours.ok.0) in
    one_read (reads_rest colour_in) c.loop-scan.scan c.colour.new.self c.loop-scan.colours.items c.push.new.self.items c.in_ok-colour.colour few c.in_ok-push.ensures.items c.loop-scan-test.ensures c.in_ok-colour.ensures.gives c.loop-scan.invariant

pub returns : goal.returns
returns c = all_read (reads_rest colour_in) c.loop-scan.scan c.loop-scan.colours.items c.loop-scan-test.ensures c.loop-scan.invariant
