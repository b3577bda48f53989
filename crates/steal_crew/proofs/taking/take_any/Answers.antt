use Rattle.std.proofs.Common.{◌≡◌, ◌<◌, ◌∷◌, [], length, vec_len, arith, sym, ◌∙◌}
use Rattle.std.proofs.lemmas.List.{append-nil}
use Rattle.crossbeam_deque.specs.Handles.{view}
use Rattle.steal_crew.proofs.QueueLemmas.{places_set, taken_set}
use Rattle.steal_crew.proofs.taking.take_any.Goals.{In-Some, In_default, then-step-queues, else-step-queues}
use Rattle.steal_crew.proofs.taking.take_any.Goals as goal

pub returns-in-Some-clause-places : goal.returns-in-Some-clause-places
returns-in-Some-clause-places c = let n : vec_len c.args.handles.now ≡ length c.args.handles.now.items = c.args.handles.now.ok.0 in
    let inside : c.if-step-queues.at < vec_len c.args.handles.now = elim c.if-step-queues.branch [ then-step-queues w ↦ omega arith | else-step-queues w ↦ omega arith ] in
    places_set _ _ _ _ _ _ _ c.loop-step.invariant.0 inside n c.index.ensures c.in-Some.ensures.same

pub returns-in-Some-clause-taken : goal.returns-in-Some-clause-taken
returns-in-Some-clause-taken c = let n : vec_len c.args.handles.now ≡ length c.args.handles.now.items = c.args.handles.now.ok.0 in
    let inside : c.if-step-queues.at < vec_len c.args.handles.now = elim c.if-step-queues.branch [ then-step-queues w ↦ omega arith | else-step-queues w ↦ omega arith ] in
    let within : c.if-step-queues.at < length c.loop-step.places.items = (let l = c.loop-step.invariant.0.len in omega arith) in
    λ x. (let t = taken_set c.loop-step.places.items c.if-step-queues.at c.index_mut.result.now c.steal_from.new.place (c.in-Some.number ∷ []) within c.index_mut.ensures.value c.in-Some.ensures.taken x in
    let before = c.loop-step.invariant.1 x in omega arith)

pub loop-step-preserved : goal.loop-step-preserved
loop-step-preserved c = let n : vec_len c.args.handles.now ≡ length c.args.handles.now.items = c.args.handles.now.ok.0 in
    let inside : c.if-step-queues.at < vec_len c.args.handles.now = elim c.if-step-queues.branch [ then-step-queues w ↦ omega arith | else-step-queues w ↦ omega arith ] in
    let within : c.if-step-queues.at < length c.loop-step.places.items = (let l = c.loop-step.invariant.0.len in omega arith) in (
      places_set _ _ _ _ _ _ _ c.loop-step.invariant.0 inside n c.index.ensures c.in_default.ensures.same,
      λ x. (let t = taken_set c.loop-step.places.items c.if-step-queues.at c.index_mut.result.now c.steal_from.new.place [] within c.index_mut.ensures.value (c.in_default.ensures.taken ∙ sym (append-nil (view c.index_mut.result.now).taken)) x in
          let before = c.loop-step.invariant.1 x in omega arith),
    )
