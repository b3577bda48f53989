use Rattle.std.proofs.Common.{◌++◌, ◌∷◌, [], ap, ◌∙◌, sym, refl}
use Rattle.steal_crew.proofs.QueueLemmas.{owners_opened, owners_counted}
use Rattle.steal_crew.proofs.queues.Queues.open.Goals as goal

pub loop-preserved : goal.loop-preserved
loop-preserved c = owners_opened _ _ _ _ _ c.in_ok-handle.handle c.in_ok-owner.owner c.loop.invariant
    (c.push_reserved-in-loop.ensures.items ∙ ap (λ z. z ++ c.in_ok-handle.handle ∷ []) c.reserve-in-loop.ensures.items) (c.push_reserved.ensures.items ∙ ap (λ z. z ++ c.in_ok-owner.owner ∷ []) c.reserve.ensures.items)
    c.in_ok-handle.ensures.0 c.in_ok-handle.ensures.1 c.in_ok-owner.ensures.1 c.in_ok-owner.ensures.4

pub returns-clause-queues : goal.returns-clause-queues
returns-clause-queues c = record { same = refl; count = refl; out = refl; owners = owners_counted _ _ _ _ _ _ _ (sym (c.loop.handles.ok.0 ∙ c.loop.invariant.handles)) refl c.loop.invariant }
