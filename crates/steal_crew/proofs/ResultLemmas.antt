-- Results are entered by number, and taken out.
use Rattle.std.proofs.Common.{◌≡◌, ◌≢◌, ℕ, zero, suc, ◌+◌, ◌-◌, ◌<◌, ◌≤◌, Bool, true, cond, ◌==◌, List, [], ◌∷◌, ◌++◌, length, slice_index_or, length-set, length-append, set, get_or, get_or-set_same, get_or-set_other, Option, Some, None, sym, refl, ap, ◌∙◌, subst, arith, ne_eqb}
use Rattle.std.proofs.lemmas.Bool.Decides.{nat_tests}
use mathlib.Core.Logic.{dite}
use mathlib.Core.List.{map-append}
use native.Mathlib.Decide.{ℕ_discrete, dec_lt}
use Rattle.std.specs.Option.{IfSome}
use Rattle.crew_machine.specs.Counts.{total, times, once_below}
use Rattle.std.proofs.lemmas.List.{get_or_append_left, get_or-append_right}
use Rattle.steal_crew.specs.Results.{Entered, Belongs}
use Rattle.steal_crew.specs.Results.{one_if_some, filled, left_out, done_numbers}
use Rattle.steal_crew.proofs.BesideLemmas.{default}
use Rattle.crew_machine.proofs.CountLemmas.{total-append, total_set_at, once_below-above, once_below-next}

pub times-append : (x : ℕ) (xs ys : List ℕ) → times x (xs ++ ys) ≡ times x xs + times x ys
times-append x xs ys = total-append (λ (z : ℕ). cond (z == x) 1 0) xs ys

pub none_of : (p x : ℕ) → x ≢ p → times x (p ∷ []) ≡ 0
none_of p x ne = let z : cond {A = ℕ} (p == x) 1 0 ≡ 0 = ap (λ (b : Bool). cond b 1 0) (ne_eqb p x (λ e. ne (sym e))) in omega arith

one_of : (p : ℕ) → times p (p ∷ []) ≡ 1
one_of p = let z : cond {A = ℕ} (p == p) 1 0 ≡ 1 = ap (λ (b : Bool). cond b 1 0) (let e : (p == p) ≡ true = grind (arith, nat_tests) in e) in omega arith

module _ {X : Type 0} where
  pub entered_put : (gives : ℕ → X → Type 0) (slots : List (Option X)) (p : ℕ) (o : Option X) → Entered gives slots → IfSome o (gives p) → p < length slots → Entered gives (set slots p o)
  entered_put gives slots p o h k inside n d lt = let l = length-set slots p o in dite (ℕ_discrete n p)
      (λ (e : n ≡ p). subst (λ (i : ℕ). IfSome (get_or (set slots p o) i d) (gives i)) (sym e) (subst (λ (z : Option X). IfSome z (gives p)) (sym (get_or-set_same slots p o d inside)) k))
      (λ (ne : n ≢ p). subst (λ (z : Option X). IfSome z (gives n)) (sym (get_or-set_other slots p n o d ne)) (h n d (omega arith)))

  -- a result is entered where there was none
  pub filled_new : (slots : List (Option X)) (p : ℕ) (o : Option X) (r : X) → p < length slots → o ≡ get_or slots p o → o ≡ None → (x : ℕ) → filled x (set slots p (Some r)) ≡ filled x slots + times x (p ∷ [])
  filled_new slots p o r inside at none x = dite (ℕ_discrete x p)
      (λ (e : x ≡ p). let a : filled x (set slots p (Some r)) ≡ 1 = ap (λ (i : ℕ). filled i (set slots p (Some r))) e ∙ ap one_if_some (get_or-set_same slots p (Some r) None inside) in
      let b : filled x slots ≡ 0 = ap (λ (i : ℕ). filled i slots) e ∙ ap one_if_some (default slots p None o inside ∙ sym at ∙ none) in let c : times x (p ∷ []) ≡ 1 = ap (λ (i : ℕ). times i (p ∷ [])) e ∙ one_of p in omega arith)
      (λ (ne : x ≢ p). let a : filled x (set slots p (Some r)) ≡ filled x slots = ap one_if_some (get_or-set_other slots p x (Some r) None ne) in let z = none_of p x ne in omega arith)

  -- a place is emptied
  pub filled_none : (slots : List (Option X)) (p : ℕ) (o : Option X) → p < length slots → o ≡ None → filled p (set slots p o) ≡ 0
  filled_none slots p o inside none = ap one_if_some (get_or-set_same slots p o None inside ∙ none)

  pub filled_other : (slots : List (Option X)) (p x : ℕ) (o : Option X) → x ≢ p → filled x (set slots p o) ≡ filled x slots
  filled_other slots p x o ne = ap one_if_some (get_or-set_other slots p x o None ne)

  pub done_snoc : (xs : List (ℕ × X)) (p : ℕ) (r : X) → done_numbers (xs ++ (p, r) ∷ []) ≡ done_numbers xs ++ p ∷ []
  done_snoc xs p r = map-append (λ (e : ℕ × X). e.0) xs ((p, r) ∷ [])

  popped_times : (x : ℕ) (done rest : List (ℕ × X)) (p : ℕ) (r : X) → done ≡ rest ++ (p, r) ∷ [] → times x (done_numbers done) ≡ times x (done_numbers rest) + times x (p ∷ [])
  popped_times x done rest p r is = ap (λ (l : List (ℕ × X)). times x (done_numbers l)) is ∙ ap (times x) (done_snoc rest p r) ∙ times-append x (done_numbers rest) (p ∷ [])

  pub filled_put : (slots : List (Option X)) (p : ℕ) (r : X) → p < length slots → filled p (set slots p (Some r)) ≡ 1
  filled_put slots p r inside = ap one_if_some (get_or-set_same slots p (Some r) None inside)

  pub filled_more : (slots : List (Option X)) (done rest : List (ℕ × X)) (p : ℕ) (r : X) → done ≡ rest ++ (p, r) ∷ [] → p < length slots → (x : ℕ) → 0 < filled x slots + times x (done_numbers done)
      → 0 < filled x (set slots p (Some r)) + times x (done_numbers rest)
  filled_more slots done rest p r is inside x some = dite (ℕ_discrete x p)
      (λ (e : x ≡ p). let f : filled x (set slots p (Some r)) ≡ 1 = ap (λ (i : ℕ). filled i (set slots p (Some r))) e ∙ filled_put slots p r inside in omega arith)
      (λ (ne : x ≢ p). let f = filled_other slots p x (Some r) ne in let t = popped_times x done rest p r is in let z = none_of p x ne in omega arith)

  pub filled_past : (slots : List (Option X)) (done rest : List (ℕ × X)) (p : ℕ) (r : X) → done ≡ rest ++ (p, r) ∷ [] → length slots ≤ p → (x : ℕ) → x < length slots → 0 < filled x slots + times x (done_numbers done)
      → 0 < filled x slots + times x (done_numbers rest)
  filled_past slots done rest p r is outside x inside some = let t = popped_times x done rest p r is in let z = none_of p x (λ e. absurd (omega arith)) in omega arith

  -- a number that has its result already
  pub filled_kept : (slots : List (Option X)) (done rest : List (ℕ × X)) (p : ℕ) (r : X) (o : Option X) → done ≡ rest ++ (p, r) ∷ [] → p < length slots → o ≡ get_or slots p o → (o ≡ None → ⊥) → (x : ℕ) → 0 < filled x slots + times x (done_numbers done)
      → 0 < filled x slots + times x (done_numbers rest)
  filled_kept slots done rest p r None is inside at full x some = absurd (full refl)
  filled_kept slots done rest p r (Some s) is inside at full x some = dite (ℕ_discrete x p)
      (λ (e : x ≡ p). let f : filled x slots ≡ 1 = ap (λ (i : ℕ). filled i slots) e ∙ ap one_if_some (default slots p None (Some s) inside ∙ sym at) in omega arith)
      (λ (ne : x ≢ p). let t = popped_times x done rest p r is in let z = none_of p x ne in omega arith)

  left_out_one : (p : ℕ) (o : Option X) → times p (left_out p o) + one_if_some o ≡ 1
  left_out_one p None = let o = one_of p in omega arith
  left_out_one p (Some r) = refl

  left_out_none : (p x : ℕ) (o : Option X) → x ≢ p → times x (left_out p o) ≡ 0
  left_out_none p x None ne = none_of p x ne
  left_out_none p x (Some r) ne = refl

  -- what is left out, and what was entered, is one number more
  pub one_more : (slots : List (Option X)) (p : ℕ) (o e : Option X) → p < length slots → o ≡ get_or slots p o → e ≡ None → (x : ℕ) → times x (left_out p o) + filled x slots ≡ filled x (set slots p e) + times x (p ∷ [])
  one_more slots p o e inside at none x = dite (ℕ_discrete x p)
      (λ (is : x ≡ p). let a : filled x (set slots p e) ≡ 0 = ap (λ (i : ℕ). filled i (set slots p e)) is ∙ filled_none slots p e inside none in
      let b : filled x slots ≡ one_if_some o = ap (λ (i : ℕ). filled i slots) is ∙ ap one_if_some (default slots p None o inside ∙ sym at) in let c : times x (p ∷ []) ≡ 1 = ap (λ (i : ℕ). times i (p ∷ [])) is ∙ one_of p in
      let d : times x (left_out p o) ≡ times p (left_out p o) = ap (λ (i : ℕ). times i (left_out p o)) is in let f = left_out_one p o in omega arith)
      (λ (ne : x ≢ p). let a = filled_other slots p x e ne in let z = none_of p x ne in let y = left_out_none p x o ne in omega arith)

  pub tally_more : (x place t0 f0 : ℕ) (slots : List (Option X)) (o e : Option X) (t t' : List ℕ) → place < length slots → o ≡ get_or slots place o → e ≡ None → t' ≡ t ++ left_out place o
      → times x t + f0 ≡ t0 + once_below x place + filled x slots → times x t' + f0 ≡ t0 + once_below x (place + 1) + filled x (set slots place e)
  tally_more x place t0 f0 slots o e t t' inside at none more so_far = let a = ap (times x) more in let b = times-append x t (left_out place o) in let c = one_more slots place o e inside at none x in
      let d : once_below x (place + 1) ≡ once_below x place + times x (place ∷ []) = (let n = once_below-next x place in omega arith) in omega arith

  pub gone_more : (slots : List (Option X)) (p : ℕ) (e : Option X) → p < length slots → e ≡ None → ((x : ℕ) → x < p → filled x slots ≡ 0) → (x : ℕ) → x < p + 1 → filled x (set slots p e) ≡ 0
  gone_more slots p e inside none h x lt = dite (ℕ_discrete x p) (λ (is : x ≡ p). ap (λ (i : ℕ). filled i (set slots p e)) is ∙ filled_none slots p e inside none) (λ (ne : x ≢ p). filled_other slots p x e ne ∙ h x (omega arith))

  outside : (slots : List (Option X)) (x : ℕ) → length slots ≤ x → filled x slots ≡ 0
  outside [] x h = refl
  outside (o ∷ slots) zero h = absurd (omega arith)
  outside (o ∷ slots) (suc x) h = outside slots x (omega arith)

  pub all_gone : (slots : List (Option X)) (n : ℕ) → length slots ≤ n → ((x : ℕ) → x < n → filled x slots ≡ 0) → (x : ℕ) → filled x slots ≡ 0
  all_gone slots n le h x = dite (dec_lt x n) (λ lt. h x lt) (λ ge. outside slots x (omega arith))

pub entered_more : (x f0 p f : ℕ) (t t' : List ℕ) → t' ≡ t ++ p ∷ [] → times x t + f0 ≡ f → times x t' + f0 ≡ f + times x (p ∷ [])
entered_more x f0 p f t t' more so_far = let a = ap (times x) more in let b = times-append x t (p ∷ []) in omega arith

pub settled : (x a b n place : ℕ) {f : ℕ} → a ≡ b + once_below x place + f → f ≡ 0 → n ≡ place → a ≡ b + once_below x n
settled x a b n place is none end = let e = ap (once_below x) end in omega arith

pub belongs_more : {X : Type 0} (gives : ℕ → X → Type 0) (rs rs' : List X) (r : X) (at : ℕ) → rs' ≡ rs ++ r ∷ [] → length rs ≡ at → gives at r → Belongs gives rs → Belongs gives rs'
belongs_more {X} gives rs rs' r at is len tied h n d low = let l = ap length is in let m = length-append rs (r ∷ []) in dite (ℕ_discrete n at)
    (λ (e : n ≡ at). let here : get_or rs' n d ≡ r = ap (λ (l : List X). get_or l n d) is ∙ get_or-append_right rs (r ∷ []) at n d len (omega arith) ∙ ap (λ (k : ℕ). get_or (r ∷ []) k d) (let z : n - at ≡ 0 = omega arith in z) in
    subst (λ (z : X). gives n z) (sym here) (subst (λ (k : ℕ). gives k r) (sym e) tied))
    (λ (ne : n ≢ at). let there : get_or rs' n d ≡ get_or rs n d = ap (λ (l : List X). get_or l n d) is ∙ get_or_append_left rs (r ∷ []) d n (omega arith) in
    subst (λ (z : X). gives n z) (sym there) (h n d (omega arith)))

-- a place more without a result
pub filled-none_more : {X : Type 0} (x : ℕ) (slots : List (Option X)) → filled x (slots ++ None ∷ []) ≡ filled x slots
filled-none_more zero [] = refl
filled-none_more (suc x) [] = refl
filled-none_more zero (slot ∷ slots) = refl
filled-none_more (suc x) (slot ∷ slots) = filled-none_more x slots

-- one result more
pub done_more : {X : Type 0} (xs xs' : List (ℕ × X)) (e : ℕ × X) → xs' ≡ xs ++ e ∷ [] → (x : ℕ) → times x (done_numbers xs') ≡ times x (done_numbers xs) + times x (e.0 ∷ [])
done_more {X} xs xs' e is x =
    ap (λ (l : List (ℕ × X)). times x (done_numbers l)) is ∙ ap (times x) (map-append (λ (d : ℕ × X). d.0) xs (e ∷ [])) ∙ times-append x (done_numbers xs) (e.0 ∷ [])

pub some_place : (n m : ℕ) → n ≡ m → 1 ≤ m → 0 < n
some_place n m is some = omega arith

-- one tally got what was left: f counts a number in a tally
pub all_once : {A : Type 0} (f : A → ℕ) (ts : List A) (old new : A) (none filled once : ℕ) → 0 < length ts → old ≡ slice_index_or ts 0 old → none ≡ 0
    → total f ts + none ≡ filled → f new + filled ≡ f old + once → total f (set ts 0 new) ≡ once
all_once f ts old new none filled once some at empty entered settled =
    let changed = total_set_at f ts 0 old new some in
    let same : f old ≡ f (slice_index_or ts 0 old) = ap f at in omega arith

pub none_entered : (x f : ℕ) (tally : List ℕ) → tally ≡ [] → times x tally + f ≡ f
none_entered x f tally is = let e = ap (times x) is in omega arith

pub all_entered : {X : Type 0} (x f : ℕ) (done : List (ℕ × X)) → length done ≡ 0 → 0 < f + times x (done_numbers done) → 0 < f
all_entered x f [] gone some = omega arith
all_entered x f (e ∷ done) gone some = absurd (omega arith)

pub none_settled : (x t f : ℕ) → t + f ≡ t + once_below x 0 + f
none_settled x t f = let z = once_below-above x 0 (omega arith) in omega arith

pub belongs_none : {X : Type 0} (gives : ℕ → X → Type 0) (rs : List X) → rs ≡ [] → Belongs gives rs
belongs_none gives rs is n d low = let l = ap length is in absurd (omega arith)

at_none : {X : Type 0} (P : X → Type 0) (slot : Option X) → one_if_some slot ≡ 0 → IfSome slot P
at_none P None e = tt
at_none P (Some r) e = absurd (omega (arith, e))

-- where no result is entered, each that is entered belongs to its number
pub none_is_entered : {X : Type 0} (gives : ℕ → X → Type 0) (slots : List (Option X)) → ((x : ℕ) → filled x slots ≡ 0) → Entered gives slots
none_is_entered gives slots none n d lt = at_none (gives n) (get_or slots n d) (ap one_if_some (default slots n d None lt) ∙ none n)
