use Rattle.std.proofs.Common.{◌≡◌, ◌+◌, ◌<◌, ◌∙◌, arith, length, vec_len}
use Rattle.crossbeam_deque.specs.Handles.{worker_view}
use Rattle.steal_crew.specs.QueueRule.{part_count}
use Rattle.steal_crew.proofs.QueueLemmas.{owner_known, owners_drained, spent_more}
use Rattle.steal_crew.proofs.queues.Queues.drain_all.Goals as goal

inside : (c : goal.After-index_mut) → c.loop-q.q < vec_len c.args.self.now.handles
inside c = let lt = c.loop-q-test.true in let e = c.len-q-end.ensures in omega arith

pub drain-requires-clause-fifo : goal.drain-requires-clause-fifo
drain-requires-clause-fifo c = (owner_known _ _ _ _ _ _ _ c.loop-q.invariant.owners (inside c) c.index_mut.ensures.value).2

pub drain-requires-clause-whole : goal.drain-requires-clause-whole
drain-requires-clause-whole c = let p : (worker_view c.index_mut.result.now).parts + 0 ≡ part_count = (owner_known _ _ _ _ _ _ _ c.loop-q.invariant.owners (inside c) c.index_mut.ensures.value).0 in omega arith

pub loop-q-preserved : goal.loop-q-preserved
loop-q-preserved c =
    let inv = c.loop-q.invariant in
    let d = c.drain.ensures in
    let lt : c.loop-q.q < vec_len c.args.self.now.handles = let t = c.loop-q-test.true in let e = c.len-q-end.ensures in omega arith in
    let known = owner_known _ _ _ _ _ _ _ inv.owners lt c.index_mut.ensures.value in
    let n : length c.loop-q.self.owners.items ≡ vec_len c.args.self.now.handles = inv.owners.len in
    record {
      same = inv.same;
      count = inv.count;
      owners = owners_drained _ _ c.loop-q.q _ _ _ _ inv.owners lt c.index_mut.ensures.value d.deque d.fifo d.whole d.below d.dealt;
      spent = spent_more _ _ c.loop-q.q _ _ inv.spent (omega arith) d.whole (d.dealt ∙ known.1) d.taken;
    }

pub returns : goal.returns
returns c =
    let inv = c.loop-q.invariant in
    let e = c.len-q-end.ensures in
    let all = c.loop-q-test.false in
    record { same = inv.same; count = inv.count; len = c.loop-q.self.owners.ok.0 ∙ inv.owners.len; spent = λ q o lt. inv.spent q o (omega arith) }
