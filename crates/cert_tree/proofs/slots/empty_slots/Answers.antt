use Rattle.std.proofs.Common.{◌≡◌, ◌++◌, ◌∷◌, [], None, replicate, ap, ◌∙◌, arith}
use Rattle.std.proofs.lemmas.List.{replicate_more}
use Rattle.cert_tree.proofs.slots.empty_slots.Goals as goal

pub loop-init : goal.loop-init
loop-init g c = c.in_ok-slots.ensures.items

pub loop-preserved : goal.loop-preserved
loop-preserved g c = c.in_ok-push.ensures.items ∙ ap (λ slots. slots ++ None ∷ []) c.loop.invariant ∙ replicate_more c.loop.counter None

pub returns : goal.returns
returns g c =
    let all : c.loop.counter ≡ c.args.count = omega arith in
    c.loop.invariant ∙ ap (λ n. replicate n None) all
