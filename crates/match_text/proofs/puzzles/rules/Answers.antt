use Rattle.std.proofs.Common.{◌<◌, ◌≤◌, length, arith}
use Rattle.std.proofs.lemmas.Result.{err_from_is_err_and}
use Rattle.text_words.specs.declared.faults.ReadFault.TheVariants as faults
use Rattle.text_words.specs.Words.{rule_in}
use Rattle.text_words.specs.Place.{entries}
use Rattle.text_words.proofs.LoopLemmas.{reads_rest, none_read, one_read, entry_fails, too_many, all_read, word_shorter}
use Rattle.match_text.proofs.puzzles.rules.Goals as goal

pub loop-scan-init : goal.loop-scan-init
loop-scan-init c = rw c.new-rules.ensures.items (none_read c.args.ranges.now.most_rules (λ room. entries room rule_in) c.args.scan.now)

pub returns-in_err-further_entry : goal.returns-in_err-further_entry
returns-in_err-further_entry c =
    let p = err_from_is_err_and c.from_residual.result c.from_residual.ensures.1 in
    let full : c.args.ranges.now.most_rules ≤ length c.loop-scan.rules.items = omega (arith, c.in_err-further_entry.ensures.0, c.len.ensures, c.loop-scan.rules.ok.0) in
    rw (p.1, p.2, c.in_err-further_entry.ensures.1) (too_many (reads_rest rule_in) c.loop-scan.scan c.loop-scan.rules.items full c.loop-scan-test.ensures c.loop-scan.invariant)

pub returns-in_err-rule : goal.returns-in_err-rule
returns-in_err-rule c =
    let p = err_from_is_err_and c.from_residual-in_err-rule.result c.from_residual-in_err-rule.ensures.1 in
    let few : length c.loop-scan.rules.items < c.args.ranges.now.most_rules = omega (arith, c.in_ok-further_entry.ensures, c.len.ensures, c.loop-scan.rules.ok.0) in
    rw (p.1, p.2) (entry_fails (reads_rest rule_in) c.loop-scan.scan c.loop-scan.rules.items (faults.Text c.in_err-rule.field-0.0) few c.loop-scan-test.ensures c.in_err-rule.ensures.gives c.loop-scan.invariant)

pub loop-scan-smaller : goal.loop-scan-smaller
loop-scan-smaller c = word_shorter rule_in c.loop-scan.scan c.rule.new.self c.in_ok-rule.rule c.in_ok-rule.ensures.gives

pub loop-scan-preserved : goal.loop-scan-preserved
loop-scan-preserved c =
    let few : length c.loop-scan.rules.items < c.args.ranges.now.most_rules = omega (arith, c.in_ok-further_entry.ensures, c.len.ensures, c.loop-scan.rules.ok.0) in
    one_read (reads_rest rule_in) c.loop-scan.scan c.rule.new.self c.loop-scan.rules.items c.push.new.self.items c.in_ok-rule.rule few c.in_ok-push.ensures.items c.loop-scan-test.ensures c.in_ok-rule.ensures.gives c.loop-scan.invariant

pub returns : goal.returns
returns c = all_read (reads_rest rule_in) c.loop-scan.scan c.loop-scan.rules.items c.loop-scan-test.ensures c.loop-scan.invariant
