use Rattle.std.proofs.Common.{rules, ◌≡◌, ◌++◌, ◌∷◌, [], ap, ◌∙◌, sym, subst, arith, length, vec_len}
use Rattle.crossbeam_deque.specs.Handles.{worker_view}
use Rattle.steal_crew.specs.Queues.{IsSpent}
use Rattle.steal_crew.proofs.QueueLemmas.{histories_more, left_more}
use Rattle.steal_crew.proofs.QueueRuleLemmas.{yields}
use Rattle.steal_crew.proofs.queues.Queues.histories.Goals as goal
use Rattle.steal_crew.specs.QueueRule.{part_count}

spent : (c : goal.After-index_mut) → IsSpent (vec_len c.args.self.now.handles) c.args.self.now.count c.loop-q.q (worker_view c.index_mut.result.now)
spent c = subst (λ z. IsSpent (vec_len c.args.self.now.handles) c.args.self.now.count c.loop-q.q (worker_view z)) (sym c.index_mut.ensures.value) (c.loop-q.invariant.left c.loop-q.q c.index_mut.result.now (omega arith) (let t = c.loop-q-test.true in let e = c.len-q-end.ensures in omega arith))

pub another-history-requires : goal.another-history-requires
another-history-requires c = yields _ _ (let p : (worker_view c.index_mut.result.now).parts ≡ part_count = (spent c).whole in omega arith)

pub loop-q-preserved : goal.loop-q-preserved
loop-q-preserved c = let inv = c.loop-q.invariant in let n : vec_len c.loop-q.list ≡ length c.loop-q.list.items = c.loop-q.list.ok.0 in let l : vec_len c.loop-q.list ≡ c.loop-q.q = inv.list_len in
    let here = subst (λ z. IsSpent (vec_len c.args.self.now.handles) c.args.self.now.count c.loop-q.q (worker_view z)) (sym c.index_mut.ensures.value) (inv.left c.loop-q.q c.index_mut.result.now (omega arith) (let t = c.loop-q-test.true in let e = c.len-q-end.ensures in omega arith)) in record {
      len = search rules;
      list_len = search rules;
      left = left_more _ _ c.loop-q.q _ _ inv.left;
      known = histories_more _ _ c.loop-q.q c.loop-q.list.items _ c.another-history.result inv.known (omega arith)
          (c.push_reserved.ensures.items ∙ ap (λ z. z ++ c.another-history.result ∷ []) c.reserve.ensures.items)
          (subst (λ v. IsSpent (vec_len c.args.self.now.handles) c.args.self.now.count c.loop-q.q v) (sym c.another-history.ensures.rule.1) here);
    }

pub loop-q-init : goal.loop-q-init
loop-q-init c = record {
  len = c.requires.len;
  list_len = search rules;
  left = λ j o _ lt. c.requires.spent j o lt;
  known = λ j p lt. absurd (omega arith);
}

pub returns-clause-len : goal.returns-clause-len
returns-clause-len c = let l = c.loop-q.invariant.list_len in let all = c.loop-q-test.false in let most = c.loop-q.auto.q-end in let e = c.len-q-end.ensures in omega arith

pub returns-clause-each : goal.returns-clause-each
returns-clause-each c = λ q p lt. c.loop-q.invariant.known q p (let all = c.loop-q-test.false in let e = c.len-q-end.ensures in omega arith)
