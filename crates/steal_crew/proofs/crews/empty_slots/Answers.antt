use Rattle.std.proofs.Common.{ℕ, ◌+◌, ap, ◌∙◌, refl, arith}
use Rattle.steal_crew.specs.Results.{filled}
use Rattle.steal_crew.proofs.ResultLemmas.{filled-none_more}
use Rattle.steal_crew.proofs.crews.empty_slots.Goals as goal

pub loop-init : goal.loop-init
loop-init g c = record {
  len = c.in_ok-slots.ensures.len;
  none = λ x. ap (filled x) c.in_ok-slots.ensures.items;
  room = refl;
}

pub loop-preserved : goal.loop-preserved
loop-preserved g c = record {
  len = c.push_reserved.ensures.len ∙ ap (λ (n : ℕ). n + 1) c.loop.invariant.len;
  none = λ x. ap (filled x) c.push_reserved.ensures.items ∙ filled-none_more x c.loop.slots.items ∙ c.loop.invariant.none x;
  room = c.push_reserved.ensures.capacity ∙ c.loop.invariant.room;
}

pub returns : goal.returns
returns g c = record { len = omega arith; none = c.loop.invariant.none }
