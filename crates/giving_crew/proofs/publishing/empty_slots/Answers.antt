use Rattle.std.proofs.Common.{ℕ, ◌+◌, None, ap, ◌∙◌, refl}
use Rattle.std.specs.Option.{IfSome}
use Rattle.giving_crew.specs.LiveWorkers.{BelongsToSome}
use Rattle.steal_crew.proofs.ResultLemmas.{belongs_more}
use Rattle.giving_crew.proofs.publishing.empty_slots.Goals as goal

pub loop-preserved : goal.loop-preserved
loop-preserved g c = record {
  len = c.push_reserved.ensures.len ∙ ap (λ (n : ℕ). n + 1) c.loop.invariant.len;
  entered = λ work source. belongs_more
      (λ n result. IfSome result (BelongsToSome (g.W.LiveWork.gives work source) n))
      c.loop.slots.items c.push_reserved.new.self.items None _ c.push_reserved.ensures.items refl tt
      (c.loop.invariant.entered work source);
  room = c.push_reserved.ensures.capacity ∙ c.loop.invariant.room;
}
