use Rattle.std.proofs.Common.{◌++◌, ◌∷◌, [], List, map, take, ap, sym, ◌∙◌, append_assoc, arith}
use Rattle.std.proofs.lemmas.List.{append-nil, map-append, take_all, take_more}
use Rattle.cert_tree.specs.declared.flat_lemmas.LemmaSpan.{LemmaSpan}
use Rattle.cert_tree.specs.Spans.{moved_by}
use Rattle.cert_tree.proofs.flat_lemmas.put_moved.Goals as goal

pub loop-span-init : goal.loop-span-init
loop-span-init c = sym (append-nil c.args.spans.now.items)

pub loop-span-preserved : goal.loop-span-preserved
loop-span-preserved c =
    let i = c.loop-span.span-index in
    let others = c.args.others.now in
    let move = moved_by c.args.blocks in
    let before = c.args.spans.now.items in
    let moved = map move (take i others) in
    c.in_ok-push.ensures.items
    ∙ ap (λ (spans : List LemmaSpan). spans ++ c.moved.result ∷ []) c.loop-span.invariant
    ∙ append_assoc before moved (c.moved.result ∷ [])
    ∙ ap (λ (span : LemmaSpan). before ++ (moved ++ span ∷ [])) c.moved.ensures
    ∙ ap (λ (spans : List LemmaSpan). before ++ spans) (sym (ap (map move) (take_more others i _ c.loop-span-test.true) ∙ map-append move (take i others) (_ ∷ [])))

pub returns : goal.returns
returns c =
    let all = take_all c.loop-span.span-index c.args.others.now (omega (arith, c.loop-span-test.false)) in
    c.loop-span.invariant ∙ ap (λ (spans : List LemmaSpan). c.args.spans.now.items ++ map (moved_by c.args.blocks) spans) all
