use Rattle.std.proofs.Common.{◌∙◌, ◌<◌, ℕ, All, Vec, Global, arith, refl, sym, ap, subst, vec_len}
use Rattle.std.proofs.lemmas.Result.{IfOk-from_err}
use Rattle.steal_crew.specs.Queues.{Handle, IsStation, ShowSpent}
use Rattle.steal_crew.proofs.QueueLemmas.{brought_done, known_self, shares_placed, dealt_self}
use Rattle.steal_crew.proofs.crews.work_queues.Goals as goal

pub returns-in_err-queues : goal.returns-in_err-queues
returns-in_err-queues g c = let failed = c.from_residual.ensures.0 in
    record { queues = IfOk-from_err _ _ failed; brought = IfOk-from_err _ _ failed }

pub returns-in_err-deal : goal.returns-in_err-deal
returns-in_err-deal g c = let failed = c.from_residual-in_err-deal.ensures.0 in
    record { queues = IfOk-from_err _ _ failed; brought = IfOk-from_err _ _ failed }

pub returns-in_err-stations : goal.returns-in_err-stations
returns-in_err-stations g c = let failed = c.from_residual-in_err-stations.ensures.0 in
    record { queues = IfOk-from_err _ _ failed; brought = IfOk-from_err _ _ failed }

pub returns-in_err-shares : goal.returns-in_err-shares
returns-in_err-shares g c = let failed = c.from_residual-in_err-shares.ensures.0 in
    record { queues = IfOk-from_err _ _ failed; brought = IfOk-from_err _ _ failed }

pub returns-in_err-brought : goal.returns-in_err-brought
returns-in_err-brought g c = let failed = c.from_residual-in_err-brought.ensures.0 in
    record { queues = IfOk-from_err _ _ failed; brought = IfOk-from_err _ _ failed }

pub returns-in_err-histories : goal.returns-in_err-histories
returns-in_err-histories g c = let failed = c.from_residual-in_err-histories.ensures.0 in
    record { queues = IfOk-from_err _ _ failed; brought = IfOk-from_err _ _ failed }

pub deal-requires-clause-queues : goal.deal-requires-clause-queues
deal-requires-clause-queues g c = c.in_ok-queues.ensures.queues

pub deal-requires-clause-some : goal.deal-requires-clause-some
deal-requires-clause-some g c = let len = c.in_ok-queues.ensures.len in let some = c.requires.workers.0 in omega (arith, len, some)

pub stations-requires-clause-queues : goal.stations-requires-clause-queues
stations-requires-clause-queues g c = dealt_self _ _ _ _ _ c.in_ok-deal.ensures refl

pub stations-requires-clause-few : goal.stations-requires-clause-few
stations-requires-clause-few g c =
    let same = ap (λ (ts : Vec Handle Global). vec_len ts) c.in_ok-deal.ensures.same in
    let len = c.in_ok-queues.ensures.len in
    let most = c.requires.workers.1 in
    omega (arith, same, len, most)

pub work_all-requires-clause-each : goal.work_all-requires-clause-each
work_all-requires-clause-each g c = λ _ _.
    let stood = c.in_ok-stations.ensures.queues in
    subst (λ (ts : Vec Handle Global). All (IsStation (vec_len ts) c.stations.new.self.count ts.items) c.in_ok-stations.stations.items) (sym stood.same)
    (subst (λ (n : ℕ). All (IsStation (vec_len c.deal.new.self.handles) n c.deal.new.self.handles.items) c.in_ok-stations.stations.items) (sym stood.count) c.in_ok-stations.ensures.each)

pub work_all-requires-clause-accepts : goal.work_all-requires-clause-accepts
work_all-requires-clause-accepts g c = λ _ _ n lt. c.requires.accepts n (subst (λ (m : ℕ). n < m) (c.in_ok-stations.ensures.queues.count ∙ c.in_ok-deal.ensures.count) lt)

pub collect-requires-clause-queues : goal.collect-requires-clause-queues
collect-requires-clause-queues g c = dealt_self _ _ _ _ _ c.in_ok-stations.ensures.queues (sym (c.in_ok-shares.ensures.len ∙ c.in_ok-stations.ensures.len))

pub collect-requires-clause-few : goal.collect-requires-clause-few
collect-requires-clause-few g c =
    let shares = c.in_ok-shares.ensures.len ∙ c.in_ok-stations.ensures.len in
    let same = ap (λ (ts : Vec Handle Global). vec_len ts) c.in_ok-deal.ensures.same in
    let len = c.in_ok-queues.ensures.len in
    let most = c.requires.workers.1 in
    omega (arith, shares, same, len, most)

pub collect-requires-clause-shares : goal.collect-requires-clause-shares
collect-requires-clause-shares g c = shares_placed _ _ _ _ _ c.in_ok-shares.ensures.shares

pub drain_all-requires : goal.drain_all-requires
drain_all-requires g c = dealt_self _ _ _ _ _ c.in_ok-brought.ensures.queues refl

pub histories-requires : goal.histories-requires
histories-requires g c = known_self _ _ _ c.drain_all.ensures

pub returns-clause-queues : goal.returns-clause-queues
returns-clause-queues g c =
    let handles = c.drain_all.ensures.same ∙ c.in_ok-brought.ensures.queues.same ∙ c.in_ok-stations.ensures.queues.same ∙ c.in_ok-deal.ensures.same in
    let len = ap (λ (ts : Vec Handle Global). vec_len ts) handles ∙ c.in_ok-queues.ensures.len in
    let count = c.drain_all.ensures.count ∙ c.in_ok-brought.ensures.queues.count ∙ c.in_ok-stations.ensures.queues.count ∙ c.in_ok-deal.ensures.count in (
      c.in_ok-histories.ensures.len ∙ len,
      subst (λ (w : ℕ). ShowSpent w c.args.count c.in_ok-histories.histories.items) len (subst (λ (n : ℕ). ShowSpent (vec_len c.drain_all.new.self.handles) n c.in_ok-histories.histories.items) count c.in_ok-histories.ensures.each),
    )

pub returns-clause-brought : goal.returns-clause-brought
returns-clause-brought g c =
    let same = ap (λ (ts : Vec Handle Global). vec_len ts) c.in_ok-deal.ensures.same in (
      c.in_ok-brought.ensures.len ∙ c.in_ok-shares.ensures.len ∙ c.in_ok-stations.ensures.len ∙ same ∙ c.in_ok-queues.ensures.len,
      brought_done _ _ _ _ _ _ c.in_ok-shares.ensures.shares c.in_ok-brought.ensures.brought,
    )
