-- The seats that a source takes back, one by one.
use Rattle.std.proofs.Common.{◌≡◌, ℕ, zero, suc, ◌+◌, ◌-◌, ◌<◌, ◌≤◌, Bool, true, false, cond, eqb, List, [], ◌∷◌, ◌++◌, length, All, sym, refl, ap, ◌∙◌, subst, arith, remove, slice_index_or, min}
use Rattle.std.proofs.lemmas.List.Elements.{All-push}
use Rattle.atomic_table.specs.declared.shared.Seat.{Seat}
use Rattle.steal_crew.specs.declared.tickets.rules.SeatView.{SeatView}
use Rattle.steal_crew.specs.declared.tickets.seats.TicketSeat.{TicketSeat}
use Rattle.crew_machine.specs.Counts.{total, times, once_below}
use Rattle.steal_crew.specs.NumberSource.{seat_view_with, IsLook}
use Rattle.steal_crew.specs.Tickets.{Source, seat_source, drawn, is_out, IsFresh}
use Rattle.crew_machine.proofs.CountLemmas.{total-append}
use Rattle.atomic_table.specs.Table.{Me, step}
use mathlib.Core.Option.{none}

abbrev TableSeat : Type 0
TableSeat = Seat (Unit {0}) SeatView

pub front : {A : Type 0} (xs rest : List A) (x : A) → 0 < length xs → x ≡ slice_index_or xs 0 x → rest ≡ remove xs 0 → xs ≡ x ∷ rest
front [] rest x h e r = absurd (omega arith)
front (y ∷ ys) rest x h e r = λ k. sym e k ∷ sym r k

abbrev pub marks : TicketSeat → ℕ
marks s = s.seat.me.0.marks

-- what the seat has, beside the seats that are left, of all seats
pub record Gathered (source : Source) (mine : TableSeat) (rest all : List TicketSeat) : Type 0 where
  pub ours : All (λ s. seat_source s ≡ source) rest
  pub same : (mine.table_id, mine.me.0.limit, mine.me.0.seats) ≡ source
  pub parts : mine.me.0.parts + length rest ≡ length all
  pub some_part : 0 < mine.me.0.parts
  pub numbers : (x : ℕ) → times x mine.me.0.drawn + total (λ s. times x (drawn s)) rest ≡ total (λ s. times x (drawn s)) all
  pub marked : mine.me.0.marks + total marks rest ≡ total marks all

tail : {A : Type 0} (P : A → Type 0) (x : A) (xs : List A) → All P (x ∷ xs) → All P xs
tail P x xs h k d lt = h (suc k) d (omega arith)

pub first : (source : Source) (all rest : List TicketSeat) (s : TicketSeat) → all ≡ s ∷ rest → All (λ s. seat_source s ≡ source) all → Gathered source s.seat rest all
first source all rest s is ours = let P : TicketSeat → Type 0 = λ s. seat_source s ≡ source in let h : All P (s ∷ rest) = subst (All P) is ours in let one = s.one_part in record {
  ours = tail P s rest h;
  same = h 0 s (omega arith);
  parts = (let l = ap length is in omega arith);
  some_part = omega arith;
  numbers = λ x. sym (ap (total (λ (s : TicketSeat). times x (drawn s))) is);
  marked = sym (ap (total marks) is);
}

pub more : (source : Source) (mine mine' : TableSeat) (was rest all : List TicketSeat) (s : TicketSeat) → Gathered source mine was all → was ≡ s ∷ rest → mine'.table_id ≡ mine.table_id
    → mine'.me.0 ≡ seat_view_with mine.me.0.limit mine.me.0.seats (mine.me.0.parts + s.seat.me.0.parts) (mine.me.0.marks + s.seat.me.0.marks) (mine.me.0.drawn ++ s.seat.me.0.drawn)
    → Gathered source mine' rest all
more source mine mine' was rest all s g is table me = let P : TicketSeat → Type 0 = λ s. seat_source s ≡ source in let h : All P (s ∷ rest) = subst (All P) is g.ours in let one = s.one_part in
    let p : mine'.me.0.parts ≡ mine.me.0.parts + s.seat.me.0.parts = ap (λ (v : SeatView). v.parts) me in
    let m : mine'.me.0.marks ≡ mine.me.0.marks + s.seat.me.0.marks = ap (λ (v : SeatView). v.marks) me in
    let n : mine'.me.0.limit ≡ mine.me.0.limit = ap (λ (v : SeatView). v.limit) me in
    let t : mine'.me.0.seats ≡ mine.me.0.seats = ap (λ (v : SeatView). v.seats) me in
    let d : mine'.me.0.drawn ≡ mine.me.0.drawn ++ s.seat.me.0.drawn = ap (λ (v : SeatView). v.drawn) me in record {
      ours = tail P s rest h;
      same = (λ i. (table i, n i, t i)) ∙ g.same;
      parts = (let l = ap length is in let q = g.parts in omega arith);
      some_part = (let q = g.some_part in omega arith);
      numbers = λ x. (let e = ap (times x) d in let a = total-append (λ (y : ℕ). cond (eqb y x) 1 0) mine.me.0.drawn s.seat.me.0.drawn in let q = g.numbers x in
          let l = ap (total (λ (s : TicketSeat). times x (drawn s))) is in omega arith);
      marked = (let l = ap (total marks) is in let q = g.marked in omega arith);
    }

-- where some seat is out, there is a mark
pub some_mark : (all : List TicketSeat) (k : ℕ) (s : TicketSeat) → k < length all → slice_index_or all k s ≡ s → is_out s ≡ true → 0 < total marks all
some_mark [] k s lt at out = absurd (omega arith)
some_mark (x ∷ xs) zero s lt at out = let e : marks x ≡ marks s = ap marks at in let m : marks s ≡ 1 = s.marked ∙ ap (λ (b : Bool). cond b 1 0) out in omega arith
some_mark (x ∷ xs) (suc k) s lt at out = let r = some_mark xs k s (omega arith) at out in omega arith

empty_total : {A : Type 0} (f : A → ℕ) (xs : List A) → length xs ≡ 0 → total f xs ≡ 0
empty_total f [] e = refl
empty_total f (x ∷ xs) e = absurd (omega arith)

-- what is known once all seats came back, and n was found by the seat that has every part
pub record Finished (limit n : ℕ) (mine : List ℕ) (all : List TicketSeat) : Type 0 where
  pub numbers : (x : ℕ) → total (λ s. times x (drawn s)) all ≡ once_below x (min n limit)
  pub drawn : (x : ℕ) → times x mine ≡ once_below x (min n limit)
  pub out : 0 < total marks all → limit ≤ n

all_parts : (source : Source) (mine : TableSeat) (rest all : List TicketSeat) → Gathered source mine rest all
    → length rest ≡ 0 → length all ≡ source.2 → mine.me.0.parts ≡ mine.me.0.seats
all_parts source mine rest all g gone whole = let parts = g.parts in
    let seats : mine.me.0.seats ≡ source.2 = ap (λ (z : Source). z.2) g.same in omega arith

pub finished : (source : Source) (mine mine' : TableSeat) (rest all : List TicketSeat) (n : ℕ)
    → Gathered source mine rest all → length rest ≡ 0 → length all ≡ source.2 → IsLook (step 0 0 0 0 none) mine.me n mine'.me
    → Finished source.1 n mine'.me.0.drawn all
finished source mine mine' rest all n g gone whole look =
    let told = look.1 g.some_part (all_parts source mine rest all g gone whole) in
    let limit : mine.me.0.limit ≡ source.1 = ap (λ (z : Source). z.1) g.same in
    let here : (x : ℕ) → times x mine.me.0.drawn ≡ once_below x (min n source.1) =
    λ x. told.0 x ∙ ap (λ (k : ℕ). once_below x (min n k)) limit in record {
      numbers = λ x. (let z = empty_total (λ (s : TicketSeat). times x (drawn s)) rest gone in let q = g.numbers x in
          let r = here x in omega arith);
      drawn = λ x. ap (λ (m : Me (Unit {0}) SeatView). times x m.0.drawn) look.0 ∙ here x;
      out = λ m. (let z = empty_total marks rest gone in let q = g.marked in let o = told.1 (omega arith) in omega arith);
    }

abbrev Known : Type 0
Known = Me (Unit {0}) SeatView

-- the seat from which the others are split, where n of them were
abbrev LeftOf : (limit seats n : ℕ) (numbers : List ℕ) → Known
LeftOf limit seats n numbers = (seat_view_with limit seats (seats - n) 0 numbers, [])

pub none_split : (limit seats limit' seats' n : ℕ) (numbers : List ℕ) → limit' ≡ limit → seats' ≡ seats → n ≡ 0
    → (seat_view_with limit' seats' seats' 0 numbers, []) ≡ LeftOf limit seats n numbers
none_split limit seats limit' seats' n numbers l s empty = let all : seats' ≡ seats - n = omega arith in
    λ i. (seat_view_with (l i) (s i) (all i) 0 numbers, [])

pub one_split : (limit seats n m : ℕ) (numbers : List ℕ) (was now : Known) → was ≡ LeftOf limit seats n numbers
    → now ≡ (seat_view_with was.0.limit was.0.seats (was.0.parts - 1) was.0.marks was.0.drawn, was.1) → m ≡ n + 1
    → now ≡ LeftOf limit seats m numbers
one_split limit seats n m numbers was now before split more = let fewer : (seats - n) - 1 ≡ seats - m = omega arith in
    split
    ∙ ap (λ (k : Known). (seat_view_with k.0.limit k.0.seats (k.0.parts - 1) k.0.marks k.0.drawn, k.1)) before
    ∙ ap (λ (parts : ℕ). (seat_view_with limit seats parts 0 numbers, [])) fewer

-- a seat more by which nothing was drawn
pub fresh_more : (source : Source) (was now : List TicketSeat) (s : TicketSeat) (parts marked : ℕ) → All (IsFresh source) was → now ≡ was ++ s ∷ [] → s.seat.table_id ≡ source.0
    → s.seat.me.0 ≡ seat_view_with source.1 source.2 parts marked [] → is_out s ≡ false → All (IsFresh source) now
fresh_more source was now s parts marked fresh more table view inside = subst (All (IsFresh source)) (sym more) (All-push (IsFresh source) was s fresh record {
  same = λ i. (table i, (view i).limit, (view i).seats);
  empty = ap (λ (v : SeatView). v.drawn) view;
  inside = inside;
})
