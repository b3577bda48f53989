use Rattle.std.proofs.Common.{◌∙◌, List, ℕ, Err, arith, ap, subst, sym}
use Rattle.std.proofs.lemmas.Result.{err_from_is_err_and}
use Rattle.xcc_form.specs.Chosen.{IsSelection}
use Rattle.count_search.specs.Branches.{AllChoose, WeightedBranch}
use Rattle.command_words.specs.declared.orders.Extent.TheVariants as extents
use Rattle.count_totals.specs.Lines.{text_of}
use Rattle.command_runs.specs.Census.{AreCounts, AreNotCounted, count_lines}
use Rattle.command_runs.proofs.CensusLemmas.{compile_fails, parts_fail}
use Rattle.command_runs.proofs.census_runs.parts_counted.Goals as goal

pub returns-in_err-xcc-clause-fails : goal.returns-in_err-xcc-clause-fails
returns-in_err-xcc-clause-fails g c =
    let w = err_from_is_err_and c.from_residual.result c.from_residual.ensures.1 in
    rw (w.1, w.2) (compile_fails (extents.Parts c.args.parts) c.args.spelled.puzzle.now c.in_err-xcc.field-0.0 (λ e. c.in_err-xcc.ensures.too_many (ap Err e)))

pub counts_of-requires-clause-selections : goal.counts_of-requires-clause-selections
counts_of-requires-clause-selections g c = λ κs below. subst (AllChoose (IsSelection c.in_ok-xcc.xcc)) (sym c.deref.ensures.value) c.in_ok-branches.ensures.selections

pub counts_of-requires-clause-few : goal.counts_of-requires-clause-few
counts_of-requires-clause-few g c = λ κs below.
    let few = c.in_ok-branches.ensures.few in
    let len = c.deref.ensures.len in
    omega (arith, few, len)

pub returns-in_err-counts-clause-fails : goal.returns-in_err-counts-clause-fails
returns-in_err-counts-clause-fails g c =
    let w = err_from_is_err_and c.from_residual-in_err-counts.result c.from_residual-in_err-counts.ensures.1 in
    let fault = c.in_err-counts.field-0.0 in
    let fails = subst (λ branches. AreNotCounted (extents.Parts c.args.parts) c.in_ok-xcc.xcc branches fault) c.deref.ensures.value c.in_err-counts.ensures.fails in
    rw (w.1, w.2) (parts_fail c.in_ok-xcc.xcc c.args.spelled.puzzle.now c.in_ok-branches.branches.items c.in_ok-xcc.ensures.compiled c.in_ok-xcc.ensures.puzzle c.in_ok-branches.ensures.split c.args.parts fault fails)

pub returns-clause-prints : goal.returns-clause-prints
returns-clause-prints g c =
    let x = c.in_ok-xcc.xcc in
    let parts = c.args.parts in
    let branches = c.in_ok-branches.branches.items in
    let counts = c.in_ok-counts.counts.items in
    record {
      compiled = x;
      is_compiled = c.in_ok-xcc.ensures.compiled;
      of = c.in_ok-xcc.ensures.puzzle;
      branches = branches;
      split = c.in_ok-branches.ensures.split;
      counts = counts;
      counted = subst (λ (bs : List WeightedBranch). AreCounts x bs parts counts) c.deref.ensures.value c.in_ok-counts.ensures.counted;
      is = c.in_ok-parts_text.ensures
          ∙ ap (λ (s : List ℕ). text_of (count_lines s c.deref-2.result.now parts c.deref-3.result.now)) c.bytes.ensures.bytes
          ∙ ap (λ (bs : List WeightedBranch). text_of (count_lines c.args.spelled.text.now bs parts c.deref-3.result.now)) c.deref-2.ensures.value
          ∙ ap (λ (cs : List ℕ). text_of (count_lines c.args.spelled.text.now branches parts cs)) c.deref-3.ensures.value;
    }
