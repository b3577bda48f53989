use Rattle.std.proofs.Common.{List, arith, refl, subst}
use Rattle.xcc_form.specs.Layout.{AreLaidOut}
use Rattle.xcc_form.specs.declared.edges.SharedEdge.{SharedEdge}
use Rattle.xcc_form.proofs.ChoiceLemmas.{entries_are, compiled_is, kept_value}
use Rattle.xcc_form.proofs.xccs.compile.Goals as goal

pub returns-then-len-gt-MOST_ENTRIES-clause-too_many : goal.returns-then-len-gt-MOST_ENTRIES-clause-too_many
returns-then-len-gt-MOST_ENTRIES-clause-too_many c = λ _.
    let p = c.args.puzzle.now in
    let shared = c.in_ok-shared.shared.items in
    let kept = c.in_ok-options.options in
    let made = c.in_ok-options.ensures in
    let laid_out : AreLaidOut p shared kept.pairs.items kept.starts.items kept.edges.items = subst (λ (es : List SharedEdge). AreLaidOut p es kept.pairs.items kept.starts.items kept.edges.items) c.deref.ensures.value made.laid_out in
    let all = entries_are p shared kept.pairs.items kept.starts.items kept.edges.items laid_out in (
      kept_value p shared kept.pairs.items kept.starts.items kept.edges.items,
      refl,
      compiled_is p shared kept.pairs.items kept.starts.items kept.edges.items laid_out made.puzzle c.in_ok-shared.ensures.edges made.pairs,
      omega (arith, all, c.if-len-gt-MOST_ENTRIES.true, c.len.ensures, c.len-2.ensures, kept.pairs.ok.0, kept.edges.ok.0),
    )

pub returns-clause-compiled : goal.returns-clause-compiled
returns-clause-compiled c =
    let p = c.args.puzzle.now in
    let shared = c.in_ok-shared.shared.items in
    let kept = c.in_ok-options.options in
    let made = c.in_ok-options.ensures in
    let laid_out : AreLaidOut p shared kept.pairs.items kept.starts.items kept.edges.items = subst (λ (es : List SharedEdge). AreLaidOut p es kept.pairs.items kept.starts.items kept.edges.items) c.deref.ensures.value made.laid_out in
    compiled_is p shared kept.pairs.items kept.starts.items kept.edges.items laid_out made.puzzle c.in_ok-shared.ensures.edges made.pairs

pub returns-clause-few : goal.returns-clause-few
returns-clause-few c =
    let p = c.args.puzzle.now in
    let shared = c.in_ok-shared.shared.items in
    let kept = c.in_ok-options.options in
    let made = c.in_ok-options.ensures in
    let laid_out : AreLaidOut p shared kept.pairs.items kept.starts.items kept.edges.items = subst (λ (es : List SharedEdge). AreLaidOut p es kept.pairs.items kept.starts.items kept.edges.items) c.deref.ensures.value made.laid_out in
    let all = entries_are p shared kept.pairs.items kept.starts.items kept.edges.items laid_out in
    omega (arith, all, c.if-len-gt-MOST_ENTRIES.false, c.len.ensures, c.len-2.ensures, kept.pairs.ok.0, kept.edges.ok.0)
