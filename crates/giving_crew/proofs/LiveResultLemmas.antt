-- The results of a run, which are entered by number and taken out.
use Rattle.std.proofs.Common.{◌≡◌, ◌≢◌, ℕ, ◌+◌, ◌-◌, ◌<◌, Global, List, [], ◌∷◌, ◌++◌, length, get_or, take, Vec}
use Rattle.std.proofs.Common.{Option, IsSomeAnd, All, vec_len, sym, refl, ap, ◌∙◌, subst, arith}
use Rattle.std.proofs.lemmas.List.{get_or_append_left, get_or-append_right, take_more}
use Rattle.std.proofs.lemmas.Bool.Decides.{nat_tests}
use mathlib.Core.List.{append_assoc}
use mathlib.Core.Logic.{dite}
use native.Mathlib.Decide.{ℕ_discrete, dec_lt}
use Rattle.crew_machine.specs.Counts.{total, times, once_below}
use Rattle.steal_crew.specs.Results.{done_numbers, filled}
use Rattle.steal_crew.specs.declared.tickets.seats.AllDrawn.{AllDrawn}
use Rattle.steal_crew.specs.declared.tickets.seats.TicketSeat.{TicketSeat}
use Rattle.steal_crew.specs.declared.crews.Crew.{Crew}
use Rattle.steal_crew.specs.Tickets.{Source, source_drawn, drawn}
use Rattle.giving_crew.specs.declared.gathering.LiveRun.{LiveRun}
use Rattle.giving_crew.specs.LiveWorkers.{BelongsToSome, AreDoneBy, BelongFrom, AreRun, AreRest, IsPublished}
use Rattle.steal_crew.proofs.ResultLemmas.{times-append, none_of, done_snoc}
use Rattle.crew_machine.proofs.CountLemmas.{total-append}

module _ {X : Type 0} where
  -- the results of one worker more are entered
  pub filled_share : (old new : List (Option X)) (others rest : List (Vec (ℕ × X) Global)) (s : Vec (ℕ × X) Global)
      (x : ℕ) → others ≡ rest ++ s ∷ []
      → (0 < filled x old + times x (done_numbers s.items) → 0 < filled x new)
      → 0 < filled x old + total (λ (s : Vec (ℕ × X) Global). times x (done_numbers s.items)) others
      → 0 < filled x new + total (λ (s : Vec (ℕ × X) Global). times x (done_numbers s.items)) rest
  filled_share old new others rest s x is enters some = let f : Vec (ℕ × X) Global
      → ℕ = λ s. times x (done_numbers s.items) in
      let p : total f others ≡ total f (rest ++ s ∷ []) = ap (total f) is in let q = total-append f rest (s ∷ []) in
      dite (dec_lt 0 (filled x old + times x (done_numbers s.items))) (λ here. let e = enters here in omega arith)
      (λ no. omega arith)

  -- one tally more
  pub tallies_more : (x a at : ℕ) (ts ts' : List (Vec ℕ Global)) (t n : Vec ℕ Global)
      (others : List (Vec (ℕ × X) Global)) (s : Vec (ℕ × X) Global) → ts' ≡ ts ++ t ∷ []
      → t.items ≡ n.items ++ done_numbers s.items → n.items ≡ [] → at < length others → s ≡ get_or others at s
      → total (λ (t : Vec ℕ Global). times x t.items) ts
      ≡ a + total (λ (s : Vec (ℕ × X) Global). times x (done_numbers s.items)) (take at others)
      → total (λ (t : Vec ℕ Global). times x t.items) ts'
      ≡ a + total (λ (s : Vec (ℕ × X) Global). times x (done_numbers s.items)) (take (at + 1) others)
  tallies_more x a at ts ts' t n others s is items empty inside found so_far = let f : Vec (ℕ × X) Global
      → ℕ = λ s. times x (done_numbers s.items) in let h : Vec ℕ Global → ℕ = λ t. times x t.items in
      let p : total h ts' ≡ total h (ts ++ t ∷ []) = ap (total h) is in let q = total-append h ts (t ∷ []) in
      let r : total f (take (at + 1) others) ≡ total f (take at others ++ get_or others at s ∷ []) =
      ap (total f) (take_more others at s inside) in
      let u = total-append f (take at others) (get_or others at s ∷ []) in
      let v : f s ≡ f (get_or others at s) = ap f found in
      let w : times x t.items ≡ times x (n.items ++ done_numbers s.items) = ap (times x) items in
      let y = times-append x n.items (done_numbers s.items) in let z : times x n.items ≡ 0 = ap (times x) empty in
      omega arith

  -- one number more
  pub numbers_more : (tally tally' before : List ℕ) (done : List (ℕ × X)) (at : ℕ) (e : ℕ × X)
      → tally' ≡ tally ++ e.0 ∷ [] → at < length done → e ≡ get_or done at e → tally ≡ before ++ done_numbers (take at done)
      → tally' ≡ before ++ done_numbers (take (at + 1) done)
  numbers_more tally tally' before done at e more inside found so_far =
      let whole : take (at + 1) done ≡ take at done ++ e ∷ [] =
      take_more done at e inside ∙ ap (λ (y : ℕ × X). take at done ++ y ∷ []) (sym found) in
      more ∙ ap (λ (l : List ℕ). l ++ e.0 ∷ []) so_far ∙ append_assoc before (done_numbers (take at done)) (e.0 ∷ [])
      ∙ ap (λ (l : List ℕ). before ++ l) (sym (ap done_numbers whole ∙ done_snoc (take at done) e.0 e.1))

  pub first_stays : (rs rs' : List X) (r first d : X) → rs' ≡ rs ++ r ∷ [] → 0 < length rs
      → ((d : X) → get_or rs 0 d ≡ first) → get_or rs' 0 d ≡ first
  first_stays rs rs' r first d is some h =
      ap (λ (l : List X). get_or l 0 d) is ∙ get_or_append_left rs (r ∷ []) d 0 some ∙ h d

pub each_more : {J X : Type 0} (gives : ℕ → J → X → Type 0) (rs rs' : List X) (r : X) (at : ℕ) → rs' ≡ rs ++ r ∷ []
    → length rs ≡ at → BelongsToSome gives at r
    → ((n : ℕ) (d : X) → 0 < n → n < at → BelongsToSome gives n (get_or rs n d)) → (n : ℕ) (d : X) → 0 < n → n < at + 1
    → BelongsToSome gives n (get_or rs' n d)
each_more {J} {X} gives rs rs' r at is len belongs h n d some low = dite (ℕ_discrete n at)
    (λ (e : n ≡ at). let here : get_or rs' n d ≡ r =
    ap (λ (l : List X). get_or l n d) is ∙ get_or-append_right rs (r ∷ []) at n d len (omega arith)
    ∙ ap (λ (k : ℕ). get_or (r ∷ []) k d) (let z : n - at ≡ 0 = omega arith in z) in
    subst (λ (z : X). BelongsToSome gives n z) (sym here) (subst (λ (k : ℕ). BelongsToSome gives k r) (sym e) belongs))
    (λ (ne : n ≢ at). let there : get_or rs' n d ≡ get_or rs n d =
    ap (λ (l : List X). get_or l n d) is ∙ get_or_append_left rs (r ∷ []) d n (omega arith) in
    subst (λ (z : X). BelongsToSome gives n z) (sym there) (h n d some (omega arith)))

-- each number that was drawn but 0 has a result
pub all_filled : (x n a b : ℕ) → once_below x n ≡ times x (0 ∷ []) + a + b → 0 < x → x < n → 0 < a + b
all_filled x n a b is some low = let z = none_of 0 x (λ e. absurd (omega arith)) in
    let o : once_below x n ≡ 1 = grind (arith, nat_tests) in omega arith

pub some_drawn : (n a b : ℕ) → once_below 0 n ≡ times 0 (0 ∷ []) + a + b → 0 < n
some_drawn n a b is = dite (dec_lt 0 n) (λ p. p)
    (λ no. let o : once_below 0 n ≡ 0 = grind (arith, nat_tests) in let one : times 0 (0 ∷ []) ≡ 1 = refl in
    absurd (omega arith))

pub both_entered : (f f' f'' a b : ℕ) → 0 < a + b → (0 < f + a → 0 < f') → (0 < f' + b → 0 < f'') → 0 < f''
both_entered f f' f'' a b some first second =
    dite (dec_lt 0 a) (λ p. second (let q = first (omega arith) in omega arith)) (λ no. second (omega arith))

-- what a run leaves is published
pub rest_run : {J X : Type 0} (gives : Source → ℕ → J → X → Type 0) (source from : Source) (n count : ℕ)
    (run : LiveRun X) → from ≡ source → AreRun source gives n run
    → ((x : ℕ) → total (λ (s : TicketSeat). times x (drawn s)) run.seats.items ≡ once_below x count)
    → AreRest (gives from) count run.own.items run.others.items
rest_run gives source from n count run same are numbers = record {
  own_done = subst (λ (z : Source). AreDoneBy (gives z) run.own.items) (sym same) are.own;
  others_done = subst (λ (z : Source). All (λ d. AreDoneBy (gives z) d.items) run.others.items) (sym same) are.others;
  each = λ x. sym (numbers x) ∙ are.even x;
}

-- what is published belongs to the first job and the others
pub belong_from : {J X : Type 0} (gives : Source → ℕ → J → X → Type 0) (source : Source) (job : J) (first : X)
    (count n : ℕ) (all : AllDrawn) (crew : Crew X) → source_drawn all ≡ source → gives source 0 job first
    → IsPublished (gives (source_drawn all)) first count n all crew → BelongFrom gives job crew.drawn crew.results.items
belong_from {J} {X} gives source job first count n all crew same here is = let results = is.results in
    let from = source_drawn all in let given = subst (λ (z : Source). gives z 0 job first) (sym same) here in
    let len : vec_len crew.results ≡ length crew.results.items = crew.results.ok.0 in
    let l = results.len in let some = results.some in record {
      source = from;
      drawn_from = subst (λ (o : Option AllDrawn). IsSomeAnd o (λ d. source_drawn d ≡ from)) (sym is.drawn_is) refl;
      some = omega arith;
      first = λ d. subst (gives from 0 job) (sym (results.at_first d)) given;
      each = λ k d low. dite (dec_lt 0 k) (λ p. results.each k d p (omega arith))
          (λ no. let z : k ≡ 0 = omega arith in
          subst (λ (i : ℕ). BelongsToSome (gives from) i (get_or crew.results.items i d)) (sym z)
          (job, subst (gives from 0 job) (sym (results.at_first d)) given));
    }
