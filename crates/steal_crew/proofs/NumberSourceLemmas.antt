-- Each step of a number source keeps its rule.
use Rattle.std.proofs.Common.{◌≡◌, ◌≢◌, ℕ, ◌+◌, ◌-◌, ◌%◌, ◌^◌, ◌<◌, ◌≤◌, min, true, false, cond, eqb, List, [], ◌∷◌, ◌++◌, set, All, sym, refl, ap, ◌∙◌, subst, arith, nat_lt, get_or, length-set, get_or-set_same, ⊎_elim}
use mathlib.Core.Logic.{dite}
use mathlib.Core.Option.{none, some}
use native.Mathlib.Decide.{dec_lt}
use lib.ListN.{get_elem?}
use Rattle.std.proofs.lemmas.Bool.Decides.{nat_tests}
use Rattle.atomic_table.specs.Table.{State, Me, step, keeps, stepped, Allows, Splits, Joins, Seen}
use Rattle.atomic_table.proofs.Lists.{at_set, at_snoc, set_again}
use Rattle.steal_crew.specs.declared.tickets.rules.SeatView.{SeatView}
use Rattle.crew_machine.specs.Counts.{total, times, once_below}
use Rattle.steal_crew.specs.NumberSource.{seat_view_with, IsFair, Drawn, Holds, IsDraw, IsLook}
use Rattle.crew_machine.proofs.CountLemmas.{total-set, total-append, total-part, total-le, total-alone, times-snoc, once_below-next, once_below-above, all_below}

abbrev parts : SeatView → ℕ
parts v = v.parts

abbrev marks : SeatView → ℕ
marks v = v.marks

abbrev drew : ℕ → SeatView → ℕ
drew x v = times x v.drawn

-- what holds of each seat
abbrev AllFair : (limit seats n : ℕ) → List SeatView → Type 0
AllFair limit seats n views = (id : ℕ) (v : SeatView) → get_elem? views id ≡ some v → IsFair limit seats n v

fair_set : (limit seats n : ℕ) (views : List SeatView) (id : ℕ) (w : SeatView) → IsFair limit seats n w → AllFair limit seats n views → AllFair limit seats n (set views id w)
fair_set limit seats n views id w mine fair j u e = ⊎_elim (λ (t : (j ≡ id) × (w ≡ u)). subst (λ (h : SeatView). IsFair limit seats n h) t.1 mine) (λ (t : (j ≢ id) × (get_elem? views j ≡ some u)). fair j u t.1) (at_set views id j w u e)

fair_more : (limit seats n : ℕ) (views : List SeatView) → AllFair limit seats n views → AllFair limit seats (n + 1) views
fair_more limit seats n views fair j u e = let f = fair j u e in record { told = f.told; one_mark = f.one_mark; out = λ m. let o = f.out m in omega arith; spent = f.spent }

few_marks : (limit seats n : ℕ) (views : List SeatView) → Drawn limit seats n views → total marks views ≤ seats
few_marks limit seats n views s = let le = total-le marks parts views (λ i v e. (s.fair i v e).one_mark) in let p = s.parts in omega arith

-- the number found is below the limit
draw_more : (limit seats n : ℕ) (views : List SeatView) (id : ℕ) (v : SeatView) → Drawn limit seats n views → get_elem? views id ≡ some v → 0 < v.parts → n < limit
    → Drawn limit seats (n + 1) (set views id (seat_view_with v.limit v.seats v.parts v.marks (v.drawn ++ n ∷ [])))
draw_more limit seats n views id v s at some_part low = let w : SeatView = seat_view_with v.limit v.seats v.parts v.marks (v.drawn ++ n ∷ []) in let f = s.fair id v at in record {
  parts = (let t = total-set parts views id v w at in let p = s.parts in omega arith);
  numbers = λ x. (let t = total-set (drew x) views id v w at in let p = s.numbers x in let a = times-snoc x v.drawn n in let b = once_below-next x n in
      let m : min n limit ≡ n = omega arith in let m' : min (n + 1) limit ≡ n + 1 = omega arith in let p' : total (drew x) views ≡ once_below x n = p ∙ ap (once_below x) m in let r : total (drew x) (set views id w) ≡ once_below x (n + 1) = omega arith in r ∙ sym (ap (once_below x) m'));
  word = (let t = total-set marks views id v w at in let p = s.word in omega arith);
  fair = fair_set limit seats (n + 1) views id w record { told = f.told; one_mark = f.one_mark; out = λ m. let o = f.out m in omega arith; spent = λ z. absurd (omega arith) } (fair_more limit seats n views s.fair);
}

-- the number found is the limit or more
draw_none : (limit seats n : ℕ) (views : List SeatView) (id : ℕ) (v : SeatView) → Drawn limit seats n views → get_elem? views id ≡ some v → 0 < v.parts → v.marks ≡ 0 → limit ≤ n
    → Drawn limit seats (n + 1) (set views id (seat_view_with v.limit v.seats v.parts 1 v.drawn))
draw_none limit seats n views id v s at some_part unmarked high = let w : SeatView = seat_view_with v.limit v.seats v.parts 1 v.drawn in let f = s.fair id v at in record {
  parts = (let t = total-set parts views id v w at in let p = s.parts in omega arith);
  numbers = λ x. (let t = total-set (drew x) views id v w at in let p = s.numbers x in
      let m : min n limit ≡ limit = omega arith in let m' : min (n + 1) limit ≡ limit = omega arith in let p' : total (drew x) views ≡ once_below x limit = p ∙ ap (once_below x) m in
      let r : total (drew x) (set views id w) ≡ once_below x limit = omega arith in r ∙ sym (ap (once_below x) m'));
  word = (let t = total-set marks views id v w at in let p = s.word in omega arith);
  fair = fair_set limit seats (n + 1) views id w record { told = f.told; one_mark = omega arith; out = λ m. omega arith; spent = λ z. absurd (omega arith) } (fair_more limit seats n views s.fair);
}

-- what was drawn is below the word
drawn_below : (limit seats n : ℕ) (views : List SeatView) (id : ℕ) (v : SeatView) → Drawn limit seats n views → get_elem? views id ≡ some v → All (λ x. x < n) v.drawn
drawn_below limit seats n views id v s at = all_below v.drawn n
    (λ x above. let p = total-part (drew x) views id v at in let q = s.numbers x in let z = once_below-above x (min n limit) (omega arith) in omega arith)

some_once : (n : ℕ) → 0 < n → once_below 0 n ≡ 1
some_once n h = grind (arith, nat_tests)

-- where one seat has every part and has drawn nothing, nothing was drawn
first_draw : (limit seats n : ℕ) (views : List SeatView) (id : ℕ) (v : SeatView) → Drawn limit seats n views
    → get_elem? views id ≡ some v → 0 < v.parts → v.parts ≡ v.seats → v.drawn ≡ [] → 0 < v.limit → n ≡ 0
first_draw limit seats n views id v s at some_part whole empty some_limit = let told =
    (s.fair id v at).told some_part in
    let told' = told.0 in let told'' = told.1 in let all = s.parts in
    let a = total-alone (drew 0) parts views id v at (λ j u e z. ap (times 0) ((s.fair j u e).spent z)) (omega arith) in
    let b : drew 0 v ≡ 0 = ap (times 0) empty in let c = s.numbers 0 in
    dite (dec_lt 0 n) (λ some. let d = some_once (min n limit) (omega arith) in absurd (omega arith)) (λ e. omega arith)

abbrev SourceState : Type 0
SourceState = State (Unit {0}) SeatView

placed : (key : ℕ × ℕ) (s : SourceState) (n id : ℕ) (me : Me (Unit {0}) SeatView) (w : SeatView) → Holds key s → Drawn key.0 key.1 n (set s.views id w) → Holds key (stepped s 0 n id me.1 w keeps)
placed key s n id me w h r = let one = h.one_word in record {
  small = h.small;
  one_word = length-set s.words 0 n ∙ h.one_word;
  rule = subst (λ (k : ℕ). Drawn key.0 key.1 k (set s.views id w)) (sym (get_or-set_same s.words 0 n 0 (omega arith))) r;
}

pub draws : (key : ℕ × ℕ) (slots id : ℕ) (me : Me (Unit {0}) SeatView) → 0 < me.0.parts → me.0.marks ≡ 0
    → Allows (Holds key) slots id me 0 (λ n. (n + 1) % 2 ^ 64) (IsDraw (step slots 0 1 0 none) me)
draws key slots id me some_part unmarked s h _ at _ =
    let n : ℕ = get_or s.words 0 0 in let v : SeatView = me.0 in let few = few_marks key.0 key.1 n s.views h.rule in let word = h.rule.word in let small = h.small.0 in let small' = h.small.1 in
    let next : (n + 1) % 18446744073709551616 ≡ n + 1 = omega arith in let told = ((h.rule.fair id v at).told some_part).0 in let begins = first_draw key.0 key.1 n s.views id v h.rule at some_part in
    dite (dec_lt n v.limit)
    (λ low. let w : SeatView = seat_view_with v.limit v.seats v.parts v.marks (v.drawn ++ n ∷ []) in let yes : nat_lt n v.limit ≡ true = grind (arith, nat_tests) in (
      w,
      keeps,
      tt,
      placed key s ((n + 1) % 18446744073709551616) id me w h (subst (λ (k : ℕ). Drawn key.0 key.1 k (set s.views id w)) (sym next) (draw_more key.0 key.1 n s.views id v h.rule at some_part (omega arith))),
      (refl, begins, rw yes (refl, drawn_below key.0 key.1 n s.views id v h.rule at)),
    ))
    (λ high. let w : SeatView = seat_view_with v.limit v.seats v.parts 1 v.drawn in let no : nat_lt n v.limit ≡ false = grind (arith, nat_tests) in (
      w,
      keeps,
      tt,
      placed key s ((n + 1) % 18446744073709551616) id me w h (subst (λ (k : ℕ). Drawn key.0 key.1 k (set s.views id w)) (sym next) (draw_none key.0 key.1 n s.views id v h.rule at some_part unmarked (omega arith))),
      (refl, begins, rw no refl),
    ))

each_snoc : (views : List SeatView) (w u : SeatView) (j : ℕ) (P : SeatView → Type 0) → ((i : ℕ) (v : SeatView) → get_elem? views i ≡ some v → P v) → P w → get_elem? (views ++ w ∷ []) j ≡ some u → P u
each_snoc views w u j P all one e = ⊎_elim (λ (t : get_elem? views j ≡ some u). all j u t) (λ (t : w ≡ u). subst P t one) (at_snoc views w u j e)

-- a part is split off
pub splits : (key : ℕ × ℕ) (id : ℕ) (v : SeatView) → 1 < v.parts → v.marks ≡ 0 → Splits (Holds key) id v (seat_view_with v.limit v.seats (v.parts - 1) v.marks v.drawn) (seat_view_with v.limit v.seats 1 0 [])
splits key id v many unmarked s h at = let l : SeatView = seat_view_with v.limit v.seats (v.parts - 1) v.marks v.drawn in let r : SeatView = seat_view_with v.limit v.seats 1 0 [] in let vs : List SeatView = set s.views id l in
    let n : ℕ = get_or s.words 0 0 in let rule = h.rule in let f = rule.fair id v at in
    let left : IsFair key.0 key.1 n l = record { told = λ p. f.told (omega arith); one_mark = omega arith; out = f.out; spent = λ z. absurd (omega arith) } in
    let right : IsFair key.0 key.1 n r = record { told = λ p. f.told (omega arith); one_mark = omega arith; out = λ m. absurd (omega arith); spent = λ z. absurd (omega arith) } in record {
      small = h.small;
      one_word = h.one_word;
      rule = record {
        parts = (let t = total-set parts s.views id v l at in let a = total-append parts vs (r ∷ []) in let p = rule.parts in omega arith);
        numbers = λ x. (let t = total-set (drew x) s.views id v l at in let a = total-append (drew x) vs (r ∷ []) in let p = rule.numbers x in
            let q : total (drew x) (vs ++ r ∷ []) ≡ total (drew x) s.views = omega arith in q ∙ p);
        word = (let t = total-set marks s.views id v l at in let a = total-append marks vs (r ∷ []) in let p = rule.word in omega arith);
        fair = λ j u e. each_snoc vs r u j (IsFair key.0 key.1 n) (fair_set key.0 key.1 n s.views id l left rule.fair) right e;
      };
    }

either_out : (limit seats n : ℕ) (v w : SeatView) → IsFair limit seats n v → IsFair limit seats n w → 0 < v.marks + w.marks → limit ≤ n
either_out limit seats n v w f g m = dite (dec_lt 0 v.marks) (λ a. f.out a) (λ a. g.out (omega arith))

-- a seat takes in another
pub joins : (key : ℕ × ℕ) (id : ℕ) (v : SeatView) (other : ℕ) (w : SeatView) → 0 < v.parts → v.limit ≡ w.limit → Joins (Holds key) id v other w (seat_view_with v.limit v.seats (v.parts + w.parts) (v.marks + w.marks) (v.drawn ++ w.drawn)) (seat_view_with 0 0 0 0 [])
joins key id v other w some_part same s h at apart at' = let b : SeatView = seat_view_with v.limit v.seats (v.parts + w.parts) (v.marks + w.marks) (v.drawn ++ w.drawn) in let z : SeatView = seat_view_with 0 0 0 0 [] in
    let vs : List SeatView = set s.views id b in let n : ℕ = get_or s.words 0 0 in let rule = h.rule in let f = rule.fair id v at in
    let was : get_elem? s.views other ≡ some w = ⊎_elim (λ (t : (other ≡ id) × (b ≡ w)). absurd (apart t.0)) (λ (t : (other ≢ id) × (get_elem? s.views other ≡ some w)). t.1) (at_set s.views id other b w at') in
    let g = rule.fair other w was in
    let both : IsFair key.0 key.1 n b = record { told = λ p. f.told some_part; one_mark = (let x = f.one_mark in let y = g.one_mark in omega arith); out = λ m. either_out key.0 key.1 n v w f g m; spent = λ e. absurd (omega arith) } in
    let spent : IsFair key.0 key.1 n z = record { told = λ p. absurd (omega arith); one_mark = omega arith; out = λ m. absurd (omega arith); spent = λ e. refl } in record {
      small = h.small;
      one_word = h.one_word;
      rule = record {
        parts = (let t = total-set parts s.views id v b at in let t' = total-set parts vs other w z at' in let p = rule.parts in omega arith);
        numbers = λ x. (let t = total-set (drew x) s.views id v b at in let t' = total-set (drew x) vs other w z at' in let a = total-append (λ (y : ℕ). cond (eqb y x) 1 0) v.drawn w.drawn in
            let q : total (drew x) (set vs other z) ≡ total (drew x) s.views = omega arith in q ∙ rule.numbers x);
        word = (let t = total-set marks s.views id v b at in let t' = total-set marks vs other w z at' in let p = rule.word in omega arith);
        fair = fair_set key.0 key.1 n vs other z spent (fair_set key.0 key.1 n s.views id b both rule.fair);
      };
    }

-- what a seat with every part knows
ends : (key : ℕ × ℕ) (id : ℕ) (v : SeatView) (s : SourceState) → Seen (Holds key) id v s → v.parts ≡ key.1
    → ((x : ℕ) → times x v.drawn ≡ once_below x (min (get_or s.words 0 0) key.0)) × (0 < v.marks → key.0 ≤ get_or s.words 0 0)
ends key id v s seen whole = let rule = seen.0.rule in let n : ℕ = get_or s.words 0 0 in (
  (λ x. sym (total-alone (drew x) parts s.views id v seen.1 (λ j u at z. ap (times x) ((rule.fair j u at).spent z)) (rule.parts ∙ sym whole)) ∙ rule.numbers x),
  (rule.fair id v seen.1).out,
)

-- a look keeps the rule, and a seat that has every part learns by it what was drawn
pub looks : (key : ℕ × ℕ) (slots id : ℕ) (me : Me (Unit {0}) SeatView) → 0 < me.0.parts
    → Allows (Holds key) slots id me 0 (λ n. n) (IsLook (step slots 0 0 0 none) me)
looks key slots id me some_part s h _ at _ =
    let n : ℕ = get_or s.words 0 0 in let v : SeatView = me.0 in
    let told = (h.rule.fair id v at).told some_part in (
      v,
      keeps,
      tt,
      placed key s n id me v h (subst (λ (l : List SeatView). Drawn key.0 key.1 n l) (sym (set_again s.views id v at)) h.rule),
      (
        refl,
        λ _ whole. let all = ends key id v s (h, at) (whole ∙ told.1) in (
          (λ x. all.0 x ∙ ap (λ (k : ℕ). once_below x (min n k)) (sym told.0)),
          (λ m. let o = all.1 m in let l = told.0 in omega arith),
        ),
      ),
    )
