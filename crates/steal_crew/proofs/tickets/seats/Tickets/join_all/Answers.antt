use Rattle.std.proofs.Common.{◌≡◌, ◌<◌, ◌≤◌, min, rules, arith, sym, ap, ◌∙◌, length, vec_len}
use Rattle.std.proofs.lemmas.Bool.Decides.{nat_tests}
use Rattle.crew_machine.specs.Counts.{once_below}
use Rattle.steal_crew.specs.Tickets.{Source, source_of, seats_of, seat_source}
use Rattle.steal_crew.proofs.NumberSourceLemmas.{joins, looks}
use Rattle.steal_crew.proofs.TicketLemmas.{Finished, finished, front, first, more, some_mark}
use Rattle.steal_crew.proofs.tickets.seats.Tickets.join_all.Goals as goal

pub remove-seat-requires : goal.remove-seat-requires
remove-seat-requires c = let some_seat : 0 < seats_of c.args.self = c.args.self.some_seat in let all : vec_len c.args.seats ≡ seats_of c.args.self = c.requires.all in omega arith

pub loop-seats-init : goal.loop-seats-init
loop-seats-init c = let some_seat : 0 < seats_of c.args.self = c.args.self.some_seat in let all : vec_len c.args.seats ≡ seats_of c.args.self = c.requires.all in let n : vec_len c.args.seats ≡ length c.args.seats.items = c.args.seats.ok.0 in
    first _ _ _ _ (front _ _ _ (omega arith) c.remove-seat.ensures.value c.remove-seat.ensures.items) c.requires.ours

pub join_seat-requires : goal.join_seat-requires
join_seat-requires c = let g = c.loop-seats.invariant in let n : vec_len c.loop-seats.seats ≡ length c.loop-seats.seats.items = c.loop-seats.seats.ok.0 in
    let full : 0 < length c.loop-seats.seats.items = grind (arith, nat_tests) in
    let is = front _ _ _ full c.remove-other.ensures.value c.remove-other.ensures.items in
    let ours : seat_source c.remove-other.result ≡ source_of c.args.self = ap seat_source c.remove-other.ensures.value ∙ g.ours 0 c.remove-other.result full in (
      ap (λ z. z.0) g.same,
      ap (λ z. z.0) ours,
      c.remove-other.result.free,
      search rules,
      joins _ _ _ _ _ g.some_part (ap (λ (z : Source). z.1) g.same ∙ sym (ap (λ (z : Source). z.1) ours)),
    )

pub loop-seats-preserved : goal.loop-seats-preserved
loop-seats-preserved c = let g = c.loop-seats.invariant in let n : vec_len c.loop-seats.seats ≡ length c.loop-seats.seats.items = c.loop-seats.seats.ok.0 in
    let full : 0 < length c.loop-seats.seats.items = grind (arith, nat_tests) in
    more _ _ _ _ _ _ _ g (front _ _ _ full c.remove-other.ensures.value c.remove-other.ensures.items) c.join_seat.ensures.0 (ap (λ m. m.0) c.join_seat.ensures.2)

none_left : (c : goal.After-drop-seats) → length c.loop-seats.seats.items ≡ 0
none_left c = let n : vec_len c.loop-seats.seats ≡ length c.loop-seats.seats.items = c.loop-seats.seats.ok.0 in
    grind (arith, nat_tests)

all_came : (c : goal.After-drop-seats) → length c.args.seats.items ≡ seats_of c.args.self
all_came c = sym c.args.seats.ok.0 ∙ c.requires.all

pub load-word-requires : goal.load-word-requires
load-word-requires c = let g = c.loop-seats.invariant in (
  ap (λ (z : Source). z.0) g.same,
  search rules,
  looks _ _ _ _ g.some_part,
)

ends : (c : goal.After-drop-seats) → Finished c.args.self.limit c.load-word.result c.load-word.new.seat.me.0.drawn
    c.args.seats.items
ends c = finished _ _ c.load-word.new.seat _ _ _ c.loop-seats.invariant (none_left c) (all_came c) c.load-word.ensures.2

counted : (c : goal.After-drop-seats) → min c.load-word.result c.args.self.limit ≡ c.min-count.result
counted c = let a : c.min-count.result ≡ min c.load-word.result c.from.result = c.min-count.ensures in
    let b : c.from.result ≡ c.args.self.limit = c.from.ensures in omega arith

pub returns-clause-source : goal.returns-clause-source
returns-clause-source c = (λ i. (
  c.load-word.ensures.0 i,
  (c.load-word.ensures.2.0 i).0.limit,
  (c.load-word.ensures.2.0 i).0.seats,
)) ∙ c.loop-seats.invariant.same

pub returns-clause-numbers : goal.returns-clause-numbers
returns-clause-numbers c = λ x. (ends c).numbers x ∙ ap (once_below x) (counted c)

pub returns-clause-drawn : goal.returns-clause-drawn
returns-clause-drawn c = λ x. (ends c).drawn x ∙ ap (once_below x) (counted c)

pub returns-clause-out : goal.returns-clause-out
returns-clause-out c = λ any. let high : c.args.self.limit ≤ c.load-word.result =
    (ends c).out (some_mark c.args.seats.items any.0 any.1 any.2 any.3 any.4) in
    let a : c.min-count.result ≡ min c.load-word.result c.from.result = c.min-count.ensures in
    let b : c.from.result ≡ c.args.self.limit = c.from.ensures in omega arith
