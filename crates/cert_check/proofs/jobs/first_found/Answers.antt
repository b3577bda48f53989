use Rattle.std.proofs.Common.{◌≡◌, Some, None, ap, sym, refl, arith, ◌∙◌}
use Rattle.std.proofs.lemmas.Option.{slice_get_within, slice_get_read}
use Rattle.match_limits.proofs.ListLemmas.{each_more}
use Rattle.cert_check.specs.Jobs.{Finding, fault_of}
use Rattle.cert_check.proofs.jobs.first_found.Goals as goal

pub returns-in-Some : goal.returns-in-Some
returns-in-Some c =
    let finding = c.index-results-number.result in
    let here = slice_get_read c.args.results.now _ c.loop-number.number finding refl c.loop-number-test.true c.index-results-number.is in
    record {
      occurs = (finding, here, ap fault_of c.in-Some.is ∙ ap Some (sym (c.in_ok-copy.ensures ∙ c.deref.ensures)));
      before = c.loop-number.invariant;
    }

pub loop-number-preserved : goal.loop-number-preserved
loop-number-preserved c =
    let finding = c.index-results-number.result in
    let here = slice_get_read c.args.results.now _ c.loop-number.number finding refl c.loop-number-test.true c.index-results-number.is in
    each_more (λ (it : Finding). fault_of it ≡ None) c.args.results.now c.loop-number.number finding c.loop-number.invariant here (ap fault_of c.in_default.is)

pub returns : goal.returns
returns c = λ number finding at. c.loop-number.invariant number finding (let lt = slice_get_within c.args.results.now number finding at in omega (arith, lt, c.loop-number-test.false)) at
