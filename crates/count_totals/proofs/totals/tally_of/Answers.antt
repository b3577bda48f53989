use Rattle.std.proofs.Common.{◌+◌, ◌++◌, ◌∷◌, [], MatchOption, length, arith, ap, subst}
use Rattle.std.proofs.lemmas.Result.{err_from_is_err_and}
use Rattle.std.proofs.lemmas.List.{length-append}
use Rattle.count_totals.specs.Tallies.{Tells}
use Rattle.count_totals.specs.Totals.{ClashesWith}
use Rattle.count_totals.proofs.CountLemmas.{some_there}
use Rattle.count_totals.proofs.TallyLemmas.{go_together}
use Rattle.count_totals.proofs.TextLemmas.{clashes_behind, fails_behind, in_range_more, one_line_more}
use Rattle.count_totals.proofs.totals.tally_of.Goals as goal

pub returns-in_err-line-clause-fault : goal.returns-in_err-line-clause-fault
returns-in_err-line-clause-fault c =
    let w = err_from_is_err_and c.from_residual.result c.from_residual.ensures.1 in
    let (lines, is, in_range, tells, counted, within) = c.loop-ahead.invariant in
    rw (w.1, w.2) (fails_behind c.args.text.now c.loop-ahead.ahead.now lines (c.loop-ahead.number + 1) c.in_err-line.field-0.0 is (λ none. let some = some_there _ c.loop-ahead-test.ensures in let nothing = ap length none in omega (arith, some, nothing)) in_range (go_together c.loop-ahead.tally lines tells) (omega (arith, counted)) c.in_err-line.ensures.fault)

pub returns-in-Some-clause-fault : goal.returns-in-Some-clause-fault
returns-in-Some-clause-fault c =
    let (lines, is, in_range, tells, counted, within) = c.loop-ahead.invariant in
    let clashes = subst (λ o. MatchOption o (Tells c.add.new.self (lines ++ c.in_ok-line.line ∷ [])) (ClashesWith lines c.in_ok-line.line)) c.in-Some.is (c.in_ok-clash.ensures lines tells) in
    clashes_behind c.args.text.now c.loop-ahead.ahead.now c.in_ok-line.after.now lines c.in_ok-line.line (c.loop-ahead.number + 1) c.in-Some.clash is c.in_ok-line.ensures.line in_range (go_together c.loop-ahead.tally lines tells) (omega (arith, counted)) clashes

pub loop-ahead-preserved : goal.loop-ahead-preserved
loop-ahead-preserved c =
    let (lines, is, in_range, tells, counted, within) = c.loop-ahead.invariant in
    let line = c.in_ok-line.line in
    let begins = c.in_ok-line.ensures.line in
    let shorter = begins.shorter in
    let told = subst (λ o. MatchOption o (Tells c.add.new.self (lines ++ line ∷ [])) (ClashesWith lines line)) c.in_default.is (c.in_ok-clash.ensures lines tells) in
    (lines ++ line ∷ [], one_line_more c.args.text.now c.loop-ahead.ahead.now c.in_ok-line.after.now lines line is begins.is, in_range_more lines line in_range begins.in_range, told, omega (arith, counted, length-append lines (line ∷ [])), omega (arith, shorter, within))
