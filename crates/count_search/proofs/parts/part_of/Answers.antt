use Rattle.std.proofs.Common.{◌∙◌, ◌+◌, ◌++◌, ◌∷◌, [], append_assoc, append-nil, drop, arith, ap, sym}
use Rattle.count_search.specs.Branches.{every}
use Rattle.count_search.proofs.PartLemmas.{every_begins, every_ends, every_from}
use Rattle.count_search.proofs.parts.part_of.Goals as goal

pub loop-next-init : goal.loop-next-init
loop-next-init c =
    let xs = c.args.branches.now in
    ap (λ ys. ys ++ every c.args.parts 0 (drop c.args.part xs)) c.new-dealt.ensures.items ∙ every_begins c.args.parts c.args.part xs

pub loop-next-preserved : goal.loop-next-preserved
loop-next-preserved c =
    let xs = c.args.branches.now in
    let dealt = c.loop-next.dealt.items in
    let next = c.loop-next.next in
    let branch = c.index-branches-next.result in
    let rest = every c.args.parts 0 (drop (next + c.args.parts) xs) in
    ap (λ ys. ys ++ rest) (c.in_ok-push.ensures.items ∙ ap (λ copy. dealt ++ copy ∷ []) c.in_ok-copy_of.ensures)
    ∙ append_assoc dealt (branch ∷ []) rest
    ∙ ap (λ ys. dealt ++ ys) (sym (every_from c.args.parts next xs branch (omega arith) c.loop-next-test.true (sym c.index-branches-next.is)))
    ∙ c.loop-next.invariant

pub returns : goal.returns
returns c =
    let dealt = c.loop-next.dealt.items in
    sym (append-nil dealt) ∙ ap (λ ys. dealt ++ ys) (sym (every_ends c.args.parts c.loop-next.next c.args.branches.now (omega arith))) ∙ c.loop-next.invariant
