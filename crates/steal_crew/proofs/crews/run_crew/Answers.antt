use Rattle.std.proofs.Common.{◌≡◌, ◌<◌, ◌≤◌, ◌+◌, ◌^◌, ◌∙◌, ℕ, Vec, Global, ap, sym, subst, vec_len}
use Rattle.std.proofs.lemmas.Result.{IfOk-from_err}
use Rattle.match_limits.specs.declared.TheConstants.{MOST_WORKERS}
use Rattle.crew_machine.specs.Counts.{times, once_below}
use Rattle.steal_crew.specs.Queues.{ShowSpent}
use Rattle.steal_crew.proofs.ResultLemmas.{all_once, none_is_entered, some_place}
use Rattle.steal_crew.proofs.crews.run_crew.Goals as goal

pub work_queues-requires-clause-workers : goal.work_queues-requires-clause-workers
work_queues-requires-clause-workers g c = λ _ _. subst (λ (n : ℕ). (1 ≤ n) × (n ≤ MOST_WORKERS)) (sym c.from.ensures) c.requires.workers

pub returns-in_err-worked : goal.returns-in_err-worked
returns-in_err-worked g c = let failed = c.from_residual.ensures.0 in record {
  results = IfOk-from_err _ _ failed;
  workers = IfOk-from_err _ _ failed;
  once = IfOk-from_err _ _ failed;
  queues = IfOk-from_err _ _ failed;
}

pub returns-in_err-slots : goal.returns-in_err-slots
returns-in_err-slots g c = let failed = c.from_residual-in_err-slots.ensures.0 in record {
  results = IfOk-from_err _ _ failed;
  workers = IfOk-from_err _ _ failed;
  once = IfOk-from_err _ _ failed;
  queues = IfOk-from_err _ _ failed;
}

pub returns-in_err-tallies : goal.returns-in_err-tallies
returns-in_err-tallies g c = let failed = c.from_residual-in_err-tallies.ensures.0 in record {
  results = IfOk-from_err _ _ failed;
  workers = IfOk-from_err _ _ failed;
  once = IfOk-from_err _ _ failed;
  queues = IfOk-from_err _ _ failed;
}

pub returns-in_err-results : goal.returns-in_err-results
returns-in_err-results g c = let failed = c.from_residual-in_err-results.ensures.0 in record {
  results = IfOk-from_err _ _ failed;
  workers = IfOk-from_err _ _ failed;
  once = IfOk-from_err _ _ failed;
  queues = IfOk-from_err _ _ failed;
}

pub index_mut-requires : goal.index_mut-requires
index_mut-requires g c = some_place _ _ (c.in_ok-tallies.ensures.len ∙ c.in_ok-worked.ensures.brought.0 ∙ c.from.ensures) c.requires.workers.0

pub settle_rest-requires-clause-slots : goal.settle_rest-requires-clause-slots
settle_rest-requires-clause-slots g c = λ _ _. c.in_ok-tallies.ensures.slots c.args.work.now c.in_ok-worked.ensures.brought.1 (none_is_entered _ _ c.in_ok-slots.ensures.none)

pub settle_rest-requires-clause-accepts : goal.settle_rest-requires-clause-accepts
settle_rest-requires-clause-accepts g c = λ _ _ n below. c.requires.accepts n (subst (λ (m : ℕ). n < m) (c.in_ok-tallies.ensures.slots_len ∙ c.in_ok-slots.ensures.len) below)

pub settle_rest-requires-clause-count : goal.settle_rest-requires-clause-count
settle_rest-requires-clause-count g c = λ _ _. subst (λ (m : ℕ). m < 2 ^ 32) (sym (c.in_ok-tallies.ensures.slots_len ∙ c.in_ok-slots.ensures.len)) c.ranges.count.fits

pub returns-clause-results : goal.returns-clause-results
returns-clause-results g c = (c.in_ok-results.ensures.len ∙ c.in_ok-tallies.ensures.slots_len ∙ c.in_ok-slots.ensures.len, c.in_ok-results.ensures.results)

pub returns-clause-workers : goal.returns-clause-workers
returns-clause-workers g c = c.in_ok-tallies.ensures.len ∙ c.in_ok-worked.ensures.brought.0 ∙ c.from.ensures

pub returns-clause-once : goal.returns-clause-once
returns-clause-once g c = λ x.
    let was = c.index_mut.result.now in
    let many : vec_len c.enter_all.new.slots ≡ c.args.count = c.in_ok-tallies.ensures.slots_len ∙ c.in_ok-slots.ensures.len in
    let settled = c.in_ok-results.ensures.tally x ∙ ap (λ (n : ℕ). times x was.items + once_below x n) many in
    all_once (λ (t : Vec ℕ Global). times x t.items) c.in_ok-tallies.tallies.items was c.settle_rest.new.tally _ _ _
    (some_place _ _ (sym c.in_ok-tallies.tallies.ok.0 ∙ c.in_ok-tallies.ensures.len ∙ c.in_ok-worked.ensures.brought.0 ∙ c.from.ensures) c.requires.workers.0)
    c.index_mut.ensures.value (c.in_ok-slots.ensures.none x) (c.in_ok-tallies.ensures.tallies x) settled

pub returns-clause-queues : goal.returns-clause-queues
returns-clause-queues g c = let worked = c.in_ok-worked.worked in
    subst (λ (n : ℕ). (vec_len worked.queues ≡ n) × ShowSpent n c.args.count worked.queues.items) c.from.ensures c.in_ok-worked.ensures.queues
