use Rattle.std.proofs.Common.{◌∷◌, ◌++◌, [], refl, sym, ap, ◌∙◌}
use Rattle.std.specs.Str.{bytes_eq}
use Rattle.byte_streams.proofs.CutLemmas.{behind_next, behind_end, behind_all, behind_within}
use Rattle.byte_streams.proofs.documents.document_len.Goals as goal

pub loop-line-init : goal.loop-line-init
loop-line-init c = ([], record { whole = refl; counted = refl; cut = refl })

pub returns-then-eq-clause-within : goal.returns-then-eq-clause-within
returns-then-eq-clause-within c = behind_within c.args.text.now c.loop-line.invariant.0 c.loop-line.rest.now c.loop-line.at c.in-Some.line.now c.in-Some.after.now c.loop-line.invariant.1 c.in-Some.ensures.whole

pub returns-then-eq-clause-cut : goal.returns-then-eq-clause-cut
returns-then-eq-clause-cut c = behind_end c.args.text.now c.loop-line.invariant.0 c.loop-line.rest.now c.loop-line.at c.in-Some.line.now c.in-Some.after.now c.loop-line.invariant.1 c.in-Some.ensures.whole c.in-Some.ensures.line (sym (c.if-eq.ensures ∙ ap (bytes_eq c.in-Some.line.now) c.as_slice.ensures))

pub loop-line-preserved : goal.loop-line-preserved
loop-line-preserved c =
    (c.loop-line.invariant.0 ++ (c.in-Some.line.now ++ 10 ∷ []), behind_next c.args.text.now c.loop-line.invariant.0 c.loop-line.rest.now c.loop-line.at c.in-Some.line.now c.in-Some.after.now c.loop-line.invariant.1 c.in-Some.ensures.whole c.in-Some.ensures.line (sym (c.if-eq.ensures ∙ ap (bytes_eq c.in-Some.line.now) c.as_slice.ensures)))

pub returns-clause-cut : goal.returns-clause-cut
returns-clause-cut c = behind_all c.args.text.now c.loop-line.invariant.0 c.loop-line.rest.now c.loop-line.at c.loop-line.invariant.1 (rw c.in_default.is at c.first_line.ensures.none)
