use Rattle.std.proofs.Common.{◌≡◌, rules, arith, ℕ, [], ◌∷◌, ap, refl, sym, subst, ◌∙◌, ◌+◌, ◌-◌, All, vec_len}
use Rattle.std.proofs.lemmas.Result.{IfOk-from_err}
use Rattle.steal_crew.specs.NumberSource.{seat_view_with}
use Rattle.steal_crew.specs.Tickets.{IsFresh}
use Rattle.steal_crew.proofs.NumberSourceLemmas.{splits, draws}
use Rattle.steal_crew.proofs.TicketLemmas.{one_split, fresh_more}
use Rattle.steal_crew.proofs.tickets.seats.Tickets.begun.Goals as goal

pub returns-in_err-list : goal.returns-in_err-list
returns-in_err-list c = let failed = c.from_residual.ensures.0 in record {
  limit = IfOk-from_err _ _ failed;
  seats = IfOk-from_err _ _ failed;
  first = IfOk-from_err _ _ failed;
  fresh = IfOk-from_err _ _ failed;
}

pub returns-in_err-table : goal.returns-in_err-table
returns-in_err-table c = let failed = c.from_residual-in_err-table.ensures.0 in record {
  limit = IfOk-from_err _ _ failed;
  seats = IfOk-from_err _ _ failed;
  first = IfOk-from_err _ _ failed;
  fresh = IfOk-from_err _ _ failed;
}

pub fetch_add-requires : goal.fetch_add-requires
fetch_add-requires c = let t = c.in_ok-table.ensures in (
  t.2,
  search rules,
  draws _ _ _ _ (let p = ap (λ m. m.0.parts) t.4 in let q = ap (λ k. k.1) t.5 in search rules)
      (ap (λ m. m.0.marks) t.4),
)

pub split_seat-seat-requires : goal.split_seat-seat-requires
split_seat-seat-requires c = let me = c.loop.invariant.first in
    let count : vec_len c.loop.list + 1 ≡ c.loop.counter = c.loop.invariant.count in (
      c.loop.invariant.same,
      search rules,
      splits _ _ _ (let p : c.loop.first.me.0.parts ≡ c.args.seats - vec_len c.loop.list = ap (λ m. m.0.parts) me in
          omega arith) (ap (λ m. m.0.marks) me),
    )

pub invariant_of-push_reserved : goal.invariant_of-push_reserved
invariant_of-push_reserved c = let me = c.split_seat-seat.ensures.4 in
    record { one_part = ap (λ m. m.0.parts) me; free = ap (λ m. m.1) me; marked = ap (λ m. m.0.marks) me }

pub loop-preserved : goal.loop-preserved
loop-preserved c =
    let before = c.loop.invariant in
    let split = c.split_seat-seat.ensures in
    let more = c.push_reserved.ensures in
    record {
      fresh = fresh_more _ _ _ _ _ _ before.fresh more.items (split.3 ∙ before.same)
          (ap (λ m. m.0) split.4 ∙ ap (λ m. seat_view_with m.0.limit m.0.seats 1 0 []) before.first) refl;
      count = ap (λ (n : ℕ). n + 1) (more.len ∙ before.count);
      room = more.capacity ∙ before.room;
      same = split.0 ∙ before.same;
      first = one_split c.args.limit c.args.seats _ _ (0 ∷ []) _ _ before.first split.2 more.len;
    }

pub invariant_of-seat : goal.invariant_of-seat
invariant_of-seat c =
    let me = c.loop.invariant.first in
    let last : c.args.seats - vec_len c.loop.list ≡ 1 = omega arith in
    record { one_part = ap (λ m. m.0.parts) me ∙ last; free = ap (λ m. m.1) me; marked = ap (λ m. m.0.marks) me }

pub returns-clause-first : goal.returns-clause-first
returns-clause-first c =
    let before = c.loop.invariant in
    let key = ap (λ k. k.1) c.in_ok-table.ensures.5 ∙ c.from-3.ensures in
    let seats = ap (λ m. m.0.seats) before.first ∙ sym key in
    (λ i. (before.same i, (before.first i).0.limit, seats i), ap (λ m. m.0.drawn) before.first, refl)

pub returns-clause-fresh : goal.returns-clause-fresh
returns-clause-fresh c =
    let key = ap (λ k. k.1) c.in_ok-table.ensures.5 ∙ c.from-3.ensures in
    subst (λ (n : ℕ). All (IsFresh (c.in_ok-table.table.shared.table_id, c.args.limit, n)) c.loop.list.items) (sym key) c.loop.invariant.fresh
