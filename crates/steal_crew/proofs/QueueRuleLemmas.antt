-- Each step of a crew's queue keeps its rule.
use Rattle.std.proofs.Common.{◌≡◌, ◌≢◌, ℕ, zero, suc, ◌+◌, ◌-◌, ◌<◌, ◌≤◌, Bool, true, cond, eqb, ◌==◌, List, [], ◌∷◌, ◌++◌, length, set, sym, refl, ap, ◌∙◌, subst, arith, ⊎_elim, All, length-append, Some}
use Rattle.std.proofs.lemmas.List.Elements.{All-append, All-cons, All-nil, All-pop}
use mathlib.Core.Option.{some, some-injective, some-ne-none}
use lib.ListN.{get_elem?}
use Rattle.std.specs.List.{AllByRecursion}
use Rattle.std.proofs.lemmas.Bool.Decides.{nat_tests}
use Rattle.crossbeam_deque.specs.Tasks.{Pushes, Takes, FindsFew, Forks, Merges}
use Rattle.crossbeam_deque.proofs.Lists.{at_set, at_snoc, set_else}
use Rattle.steal_crew.specs.declared.queues.View.{View}
use Rattle.crew_machine.specs.Counts.{total, times}
use Rattle.steal_crew.specs.QueueRule.{view_with, Rises, Kept}
use Rattle.crew_machine.proofs.CountLemmas.{total-set, total-append, total-part, total-alone, times-snoc}
use Rattle.steal_crew.specs.QueueRule.{part_count}

abbrev parts : View → ℕ
parts v = v.parts

abbrev dealt : ℕ → View → ℕ
dealt x v = times x v.dealt

abbrev dealt_len : View → ℕ
dealt_len v = length v.dealt

abbrev took_len : View → ℕ
took_len v = length v.taken

abbrev took : ℕ → View → ℕ
took x v = times x v.taken

-- a fact of each pass, when one pass changes
each_set : (P : View → Type 0) (views : List View) (id : ℕ) (w : View) → P w → ((j : ℕ) (u : View) → j ≢ id → get_elem? views j ≡ some u → P u) → (j : ℕ) (u : View) → get_elem? (set views id w) j ≡ some u → P u
each_set P views id w mine others j u e = ⊎_elim (λ (t : (j ≡ id) × (w ≡ u)). subst P t.1 mine) (λ (t : (j ≢ id) × (get_elem? views j ≡ some u)). others j u t.0 t.1) (at_set views id j w u e)

each_snoc : (P : View → Type 0) (views : List View) (w : View) → ((j : ℕ) (u : View) → get_elem? views j ≡ some u → P u) → P w → (j : ℕ) (u : View) → get_elem? (views ++ w ∷ []) j ≡ some u → P u
each_snoc P views w all one j u e = ⊎_elim (λ (t : get_elem? views j ≡ some u). all j u t) (λ (t : w ≡ u). subst P t one) (at_snoc views w u j e)

pub all_map : {A : Type 0} (P Q : A → Type 0) → ((x : A) → P x → Q x) → (xs : List A) → AllByRecursion P xs → AllByRecursion Q xs
all_map P Q f [] h = tt
all_map P Q f (x ∷ xs) h = (f x h.0, all_map P Q f xs h.1)

pub all_snoc : {A : Type 0} (P : A → Type 0) (xs : List A) (x : A) → AllByRecursion P xs → P x → AllByRecursion P (xs ++ x ∷ [])
all_snoc P [] x h p = (p, tt)
all_snoc P (y ∷ ys) x h p = (h.0, all_snoc P ys x h.1 p)

all_append : {A : Type 0} (P : A → Type 0) (xs ys : List A) → AllByRecursion P xs → AllByRecursion P ys → AllByRecursion P (xs ++ ys)
all_append P [] ys h k = k
all_append P (x ∷ xs) ys h k = (h.0, all_append P xs ys h.1 k)

pub rises_snoc : (xs : List ℕ) (x : ℕ) → Rises xs → AllByRecursion (λ y. y < x) xs → Rises (xs ++ x ∷ [])
rises_snoc [] x r h = (tt, tt)
rises_snoc (y ∷ ys) x r h = (all_snoc (λ z. y < z) ys x r.0 h.0, rises_snoc ys x r.1 h.1)

-- a number that is at or past the bound doesn't stand in a list that is below it
none_above : (xs : List ℕ) (b x : ℕ) → AllByRecursion (λ y. y < b) xs → b ≤ x → times x xs ≡ 0
none_above [] b x h le = refl
none_above (y ∷ ys) b x h le = let r = none_above ys b x h.1 le in let low : y < b = h.0 in let n : cond {A = ℕ} (y == x) 1 0 ≡ 0 = grind (arith, nat_tests) in omega arith

same_one : (y : ℕ) → cond {A = ℕ} (y == y) 1 0 ≡ 1
same_one y = ap (λ (b : Bool). cond b 1 0) (let e : (y == y) ≡ true = grind (arith, nat_tests) in e)

lt : (y b : ℕ) → (b ≤ y → ⊥) → y < b
lt y b h = grind (arith, nat_tests)

each_one : (P : View → Type 0) (v : View) → P v → (j : ℕ) (u : View) → get_elem? (v ∷ []) j ≡ some u → P u
each_one P v p zero u e = subst P (some-injective v u e) p
each_one P v p (suc j) u e = absurd (some-ne-none u (sym e))

-- where nothing from b on stands in the list, it is below b
below : (xs : List ℕ) (b : ℕ) → ((x : ℕ) → b ≤ x → times x xs ≡ 0) → AllByRecursion (λ y. y < b) xs
below [] b h = tt
below (y ∷ ys) b h = (
  lt y b (λ above. let z : cond (y == y) 1 0 + times y ys ≡ 0 = h y above in let one = same_one y in absurd (omega arith)),
  below ys b (λ x above. let z : cond (y == x) 1 0 + times x ys ≡ 0 = h x above in omega arith),
)

-- where one pass has every part, another has none
lone : (views : List View) (port : ℕ) (v : View) → get_elem? views port ≡ some v → (j : ℕ) (u : View) → get_elem? views j ≡ some u → j ≢ port → {items : List ℕ} → Kept items views → v.parts ≡ part_count → 0 < u.parts → ⊥
lone views port v at j u e other k whole some_part = let z : View = view_with 0 0 [] [] in let t = total-set parts views port v z at in let p = k.parts in
    let p' = total-part parts (set views port z) j u (set_else views port j z other ∙ e) in omega arith

over_snoc : (items taken : List ℕ) (x : ℕ) → AllByRecursion (λ y. AllByRecursion (λ z. z < y) taken) items → AllByRecursion (λ y. x < y) items → AllByRecursion (λ y. AllByRecursion (λ z. z < y) (taken ++ x ∷ [])) items
over_snoc [] taken x h k = tt
over_snoc (y ∷ ys) taken x h k = (all_snoc (λ z. z < y) taken x h.0 k.0, over_snoc ys taken x h.1 k.1)

over_append : (items taken more : List ℕ) → AllByRecursion (λ y. AllByRecursion (λ z. z < y) taken) items → AllByRecursion (λ y. AllByRecursion (λ z. z < y) more) items → AllByRecursion (λ y. AllByRecursion (λ z. z < y) (taken ++ more)) items
over_append [] taken more h k = tt
over_append (y ∷ ys) taken more h k = (all_append (λ z. z < y) taken more h.0 k.0, over_append ys taken more h.1 k.1)

trivially : (items : List ℕ) → AllByRecursion (λ y. AllByRecursion (λ z. z < y) []) items
trivially [] = tt
trivially (x ∷ xs) = (tt, trivially xs)

nothing : (items : List ℕ) (x : ℕ) → length items ≤ 0 → times x items ≡ 0
nothing [] x h = refl
nothing (y ∷ ys) x h = absurd (omega arith)

pub begins : Kept [] (view_with part_count 0 [] [] ∷ [])
begins = record {
  parts = refl;
  counts = λ x. refl;
  lengths = refl;
  idle = each_one (λ v. v.parts ≡ 0 → (v.dealt ≡ []) × (v.taken ≡ [])) (view_with part_count 0 [] []) (λ z. (refl, refl));
  limits = each_one (λ v. 0 < v.parts → AllByRecursion (λ x. x < v.below) []) (view_with part_count 0 [] []) (λ z. tt);
  rises = tt;
  above = each_one (λ v. AllByRecursion (λ x. AllByRecursion (λ y. y < x) v.taken) []) (view_with part_count 0 [] []) tt;
}

-- Only the pass with every part deals, and numbers above all that it dealt
pub deals : (port : ℕ) (v : View) (x : ℕ) → v.parts ≡ part_count → AllByRecursion (λ y. y < x) v.dealt
    → Pushes Kept port v (x ∷ []) (λ w. AllByRecursion (λ y. w ≡ view_with v.parts (y + 1) (v.dealt ++ x ∷ []) v.taken) (x ∷ []))
deals port v x whole over items views k at = let w : View = view_with v.parts (x + 1) (v.dealt ++ x ∷ []) v.taken in
    let alone : (y : ℕ) → total (dealt y) views ≡ times y v.dealt = λ y. total-alone (dealt y) parts views port v at (λ j u e z. ap (times y) (k.idle j u e z).0) (k.parts ∙ sym whole) in
    let waits : AllByRecursion (λ y. y < x) items = below items x (λ y le. let c = k.counts y in let a = alone y in let n = none_above v.dealt x y over le in omega arith) in
    let gone : (j : ℕ) (u : View) → get_elem? views j ≡ some u → AllByRecursion (λ y. y < x) u.taken = λ j u e. below u.taken x
    (λ y le. let c = k.counts y in let a = alone y in let n = none_above v.dealt x y over le in let p = total-part (took y) views j u e in omega arith) in (
      w,
      record {
        parts = (let t = total-set parts views port v w at in let p = k.parts in omega arith);
        counts = λ y. (let t = total-set (dealt y) views port v w at in let t' = total-set (took y) views port v w at in let c = k.counts y in
            let a = times-snoc y v.dealt x in let b = times-snoc y items x in omega arith);
        lengths = (let t = total-set dealt_len views port v w at in let t' = total-set took_len views port v w at in let c = k.lengths in
            omega (arith, length-append v.dealt (x ∷ []), length-append items (x ∷ [])));
        idle = each_set (λ u. u.parts ≡ 0 → (u.dealt ≡ []) × (u.taken ≡ [])) views port w (λ z. absurd (omega arith)) (λ j u _ e. k.idle j u e);
        limits = each_set (λ u. 0 < u.parts → AllByRecursion (λ y. y < u.below) (items ++ x ∷ [])) views port w
            (λ z. all_snoc (λ y. y < x + 1) items x (all_map (λ y. y < x) (λ y. y < x + 1) (λ y h. omega arith) items waits) (omega arith))
            (λ j u other e z. absurd (lone views port v at j u e other k whole z));
        rises = rises_snoc items x k.rises waits;
        above = each_set (λ u. AllByRecursion (λ y. AllByRecursion (λ z. z < y) u.taken) (items ++ x ∷ [])) views port w
            (all_snoc (λ y. AllByRecursion (λ z. z < y) v.taken) items x (k.above port v at) (gone port v at))
            (λ j u other e. all_snoc (λ y. AllByRecursion (λ z. z < y) u.taken) items x (k.above j u e) (gone j u e));
      },
      (refl, tt),
    )

pub takes : (port : ℕ) (v : View) → 0 < v.parts
    → Takes Kept port v 1 (λ xs w. (w ≡ view_with v.parts v.below v.dealt (v.taken ++ xs)) × AllByRecursion (λ x. (x < v.below) × AllByRecursion (λ y. y < x) v.taken) xs × (v.parts ≡ part_count → length v.taken < length v.dealt))
takes port v some_part [] items views full few k at = absurd (omega arith)
takes port v some_part (x ∷ y ∷ xs) items views full few k at = absurd (omega arith)
takes port v some_part (x ∷ []) items views full few k at = let w : View = view_with v.parts v.below v.dealt (v.taken ++ x ∷ []) in (
  w,
  record {
    parts = (let t = total-set parts views port v w at in let p = k.parts in omega arith);
    counts = λ y. (let t = total-set (dealt y) views port v w at in let t' = total-set (took y) views port v w at in let c : total (dealt y) views ≡ total (took y) views + (cond (x == y) 1 0 + times y items) = k.counts y in
        let a = times-snoc y v.taken x in omega arith);
    lengths = (let t = total-set dealt_len views port v w at in let t' = total-set took_len views port v w at in let c = k.lengths in omega (arith, length-append v.taken (x ∷ [])));
    idle = each_set (λ u. u.parts ≡ 0 → (u.dealt ≡ []) × (u.taken ≡ [])) views port w (λ z. absurd (omega arith)) (λ j u _ e. k.idle j u e);
    limits = each_set (λ u. 0 < u.parts → AllByRecursion (λ y. y < u.below) items) views port w (λ z. (k.limits port v at z).1) (λ j u _ e z. (k.limits j u e z).1);
    rises = k.rises.1;
    above = each_set (λ u. AllByRecursion (λ y. AllByRecursion (λ z. z < y) u.taken) items) views port w
        (over_snoc items v.taken x (k.above port v at).1 k.rises.0) (λ j u _ e. (k.above j u e).1);
  },
  (
    refl,
    (((k.limits port v at some_part).0, (k.above port v at).0), tt),
    (λ whole. let c : total dealt_len views ≡ total took_len views + suc (length items) = k.lengths in
        let a = total-alone dealt_len parts views port v at (λ j u e z. ap length (k.idle j u e z).0) (k.parts ∙ sym whole) in
        let b = total-alone took_len parts views port v at (λ j u e z. ap length (k.idle j u e z).1) (k.parts ∙ sym whole) in omega arith),
  ),
)

pub finds : (port : ℕ) (v : View) → FindsFew Kept 0 port v (v.parts ≡ part_count → (x : ℕ) → times x v.dealt ≡ times x v.taken)
finds port v items views few k at whole x = let none = nothing items x few in let c = k.counts x in
    let a = total-alone (dealt x) parts views port v at (λ j u e z. ap (times x) (k.idle j u e z).0) (k.parts ∙ sym whole) in
    let b = total-alone (took x) parts views port v at (λ j u e z. ap (times x) (k.idle j u e z).1) (k.parts ∙ sym whole) in omega arith

pub forks : (port : ℕ) (v : View) → 1 < v.parts → Forks Kept port v (view_with (v.parts - 1) v.below v.dealt v.taken) (view_with 1 v.below [] [])
forks port v many items views k at = let l : View = view_with (v.parts - 1) v.below v.dealt v.taken in let r : View = view_with 1 v.below [] [] in let vs : List View = set views port l in record {
  parts = (let t = total-set parts views port v l at in let a = total-append parts vs (r ∷ []) in let p = k.parts in omega arith);
  counts = λ y. (let t = total-set (dealt y) views port v l at in let t' = total-set (took y) views port v l at in let c = k.counts y in
      let a = total-append (dealt y) vs (r ∷ []) in let a' = total-append (took y) vs (r ∷ []) in omega arith);
  lengths = (let t = total-set dealt_len views port v l at in let t' = total-set took_len views port v l at in let c = k.lengths in
      let a = total-append dealt_len vs (r ∷ []) in let a' = total-append took_len vs (r ∷ []) in omega arith);
  idle = each_snoc (λ u. u.parts ≡ 0 → (u.dealt ≡ []) × (u.taken ≡ [])) vs r (each_set (λ u. u.parts ≡ 0 → (u.dealt ≡ []) × (u.taken ≡ [])) views port l (λ z. absurd (omega arith)) (λ j u _ e. k.idle j u e)) (λ z. (refl, refl));
  limits = each_snoc (λ u. 0 < u.parts → AllByRecursion (λ y. y < u.below) items) vs r
      (each_set (λ u. 0 < u.parts → AllByRecursion (λ y. y < u.below) items) views port l (λ z. k.limits port v at (omega arith)) (λ j u _ e. k.limits j u e)) (λ z. k.limits port v at (omega arith));
  rises = k.rises;
  above = each_snoc (λ u. AllByRecursion (λ y. AllByRecursion (λ z. z < y) u.taken) items) vs r
      (each_set (λ u. AllByRecursion (λ y. AllByRecursion (λ z. z < y) u.taken) items) views port l (k.above port v at) (λ j u _ e. k.above j u e)) (trivially items);
}

pub yields : (port : ℕ) (v : View) → 0 < v.parts → Forks Kept port v (view_with 0 0 [] []) v
yields port v some_part items views k at = let l : View = view_with 0 0 [] [] in let vs : List View = set views port l in record {
  parts = (let t = total-set parts views port v l at in let a = total-append parts vs (v ∷ []) in let p = k.parts in omega arith);
  counts = λ y. (let t = total-set (dealt y) views port v l at in let t' = total-set (took y) views port v l at in let c = k.counts y in
      let a = total-append (dealt y) vs (v ∷ []) in let a' = total-append (took y) vs (v ∷ []) in omega arith);
  lengths = (let t = total-set dealt_len views port v l at in let t' = total-set took_len views port v l at in let c = k.lengths in
      let a = total-append dealt_len vs (v ∷ []) in let a' = total-append took_len vs (v ∷ []) in omega arith);
  idle = each_snoc (λ u. u.parts ≡ 0 → (u.dealt ≡ []) × (u.taken ≡ [])) vs v (each_set (λ u. u.parts ≡ 0 → (u.dealt ≡ []) × (u.taken ≡ [])) views port l (λ z. (refl, refl)) (λ j u _ e. k.idle j u e)) (λ z. absurd (omega arith));
  limits = each_snoc (λ u. 0 < u.parts → AllByRecursion (λ y. y < u.below) items) vs v
      (each_set (λ u. 0 < u.parts → AllByRecursion (λ y. y < u.below) items) views port l (λ z. absurd (omega arith)) (λ j u _ e. k.limits j u e)) (k.limits port v at);
  rises = k.rises;
  above = each_snoc (λ u. AllByRecursion (λ y. AllByRecursion (λ z. z < y) u.taken) items) vs v
      (each_set (λ u. AllByRecursion (λ y. AllByRecursion (λ z. z < y) u.taken) items) views port l (trivially items) (λ j u _ e. k.above j u e)) (k.above port v at);
}

pub merges : (port : ℕ) (v : View) (other : ℕ) (w : View) → 0 < v.parts → Merges Kept port v other w (view_with (v.parts + w.parts) v.below (v.dealt ++ w.dealt) (v.taken ++ w.taken)) (view_with 0 0 [] [])
merges port v other w some_part items views k at apart at' = let b : View = view_with (v.parts + w.parts) v.below (v.dealt ++ w.dealt) (v.taken ++ w.taken) in let z : View = view_with 0 0 [] [] in let vs : List View = set views port b in
    let was : get_elem? views other ≡ some w = ⊎_elim (λ (t : (other ≡ port) × (b ≡ w)). absurd (apart t.0)) (λ (t : (other ≢ port) × (get_elem? views other ≡ some w)). t.1) (at_set views port other b w at') in record {
      parts = (let t = total-set parts views port v b at in let t' = total-set parts vs other w z at' in let p = k.parts in omega arith);
      counts = λ y. (let t = total-set (dealt y) views port v b at in let t' = total-set (dealt y) vs other w z at' in let a = total-append (λ (i : ℕ). cond (eqb i y) 1 0) v.dealt w.dealt in
          let u = total-set (took y) views port v b at in let u' = total-set (took y) vs other w z at' in let a' = total-append (λ (i : ℕ). cond (eqb i y) 1 0) v.taken w.taken in let c = k.counts y in omega arith);
      lengths = (let t = total-set dealt_len views port v b at in let t' = total-set dealt_len vs other w z at' in let u = total-set took_len views port v b at in let u' = total-set took_len vs other w z at' in let c = k.lengths in
          omega (arith, length-append v.dealt w.dealt, length-append v.taken w.taken));
      idle = each_set (λ u. u.parts ≡ 0 → (u.dealt ≡ []) × (u.taken ≡ [])) vs other z (λ _. (refl, refl)) (λ j u _ e. each_set (λ u. u.parts ≡ 0 → (u.dealt ≡ []) × (u.taken ≡ [])) views port b (λ h. absurd (omega arith)) (λ j u _ e. k.idle j u e) j u e);
      limits = each_set (λ u. 0 < u.parts → AllByRecursion (λ y. y < u.below) items) vs other z (λ h. absurd (omega arith)) (λ j u _ e. each_set (λ u. 0 < u.parts → AllByRecursion (λ y. y < u.below) items) views port b (λ h. k.limits port v at some_part) (λ j u _ e. k.limits j u e) j u e);
      rises = k.rises;
      above = each_set (λ u. AllByRecursion (λ y. AllByRecursion (λ z. z < y) u.taken) items) vs other z (trivially items)
          (λ j u _ e. each_set (λ u. AllByRecursion (λ y. AllByRecursion (λ z. z < y) u.taken) items) views port b (over_append items v.taken w.taken (k.above port v at) (k.above other w was)) (λ j u _ e. k.above j u e) j u e);
    }

pub done_more : {X : Type 0} (gives : ℕ → X → Type 0) (xs ys : List (ℕ × X)) (e : ℕ × X) → All (λ e. gives e.0 e.1) xs → gives e.0 e.1 → ys ≡ xs ++ e ∷ [] → All (λ e. gives e.0 e.1) ys
done_more {X} gives xs ys e h g is = let P : ℕ × X → Type 0 = λ e. gives e.0 e.1 in subst (All P) (sym is) (All-append P xs (e ∷ []) h (All-cons P e [] g (All-nil P)))

pub all_popped : {A : Type 0} (P : A → Type 0) (xs ys : List A) (x : A) → All P xs → xs ≡ ys ++ x ∷ [] → All P ys × P x
all_popped P xs ys x h is = All-pop P xs ys (Some x) is h

pub append_nil : (xs : List ℕ) → xs ++ [] ≡ xs
append_nil [] = refl
append_nil (x ∷ xs) = ap (λ (l : List ℕ). x ∷ l) (append_nil xs)

pub all_more : {A : Type 0} (P : A → Type 0) (xs ys : List A) (x : A) → All P xs → P x → ys ≡ xs ++ x ∷ [] → All P ys
all_more P xs ys x h p is = subst (All P) (sym is) (All-append P xs (x ∷ []) h (All-cons P x [] p (All-nil P)))
