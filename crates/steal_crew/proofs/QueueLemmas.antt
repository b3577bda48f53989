-- What one step does to the queues of a crew.
use Rattle.std.proofs.Common.{◌≡◌, ◌≢◌, ℕ, zero, suc, ◌+◌, ◌-◌, ◌<◌, ◌≤◌, ◌%◌, Bool, true, false, cond, eqb, ◌==◌, List, [], ◌∷◌, ◌++◌, length, set, get_or, get_or-set_same, get_or-set_other, sym, ◌∙◌, ap, subst, refl, arith, length-set, length-append, add-one, ne_eqb, All, Result, Ok, Err, Vec, Global, vec_len}
use Rattle.std.proofs.lemmas.Bool.Decides.{nat_tests}
use Rattle.std.proofs.lemmas.List.{get_or_append_left}
use mathlib.Core.Logic.{dite}
use native.Mathlib.Decide.{ℕ_discrete}
use Rattle.std.specs.List.{AllByRecursion}
use Rattle.crossbeam_deque.specs.Handles.{view, IsPassOf, worker_view, worker_deque, worker_flavor, stealer_deque, stealer_flavor}
use Rattle.steal_crew.specs.declared.queues.View.{View}
use Rattle.crew_machine.specs.Counts.{total, times, once_below}
use Rattle.steal_crew.specs.QueueRule.{view_with}
use Rattle.steal_crew.specs.declared.queues.Queues.{Queues}
use Rattle.steal_crew.specs.Queues.{Handle, Owner, Place, dealt_to, once_dealt, IsPlace, Places, IsOwner, Owners, AreQueues, AreDealt, AreKnown, AreSpent, IsOfShares, IsShare, IsSpent, taken_by}
use Rattle.steal_crew.specs.declared.works.Share.{Share}
use Rattle.steal_crew.specs.Results.{AreDone}
use Rattle.std.proofs.lemmas.List.Elements.{All-contains}
use Rattle.std.specs.Result.{IfOk}
use Rattle.std.specs.declared.alloc.AllocError.{AllocError}
use Rattle.crew_machine.proofs.CountLemmas.{total-append, total_set_at, times-snoc, once_below-next, once_below-above, same_one}
use Rattle.steal_crew.proofs.QueueRuleLemmas.{all_snoc, all_map, append_nil}
use Rattle.steal_crew.proofs.BesideLemmas.{default, snoc_last, beside_at, beside_set, beside_more, beside_both, beside_less, beside_last}
use Rattle.steal_crew.specs.QueueRule.{part_count}
use Rattle.match_limits.specs.declared.TheConstants.{MOST_WORKERS}

-- the numbers dealt to a queue

dealt_step : (b : Bool) (xs : List ℕ) (n : ℕ) → AllByRecursion (λ y. y < n) xs → AllByRecursion (λ y. y < suc n) (cond b (xs ++ n ∷ []) xs)
dealt_step true xs n h = all_snoc (λ y. y < suc n) xs n (all_map (λ y. y < n) (λ y. y < suc n) (λ y k. omega arith) xs h) (omega arith)
dealt_step false xs n h = all_map (λ y. y < n) (λ y. y < suc n) (λ y k. omega arith) xs h

pub dealt_below : (w q n : ℕ) → AllByRecursion (λ y. y < n) (dealt_to w q n)
dealt_below w q zero = tt
dealt_below w q (suc n) = dealt_step (n % w == q) (dealt_to w q n) n (dealt_below w q n)

dealt_here : (w q n : ℕ) → q ≡ n % w → dealt_to w q (n + 1) ≡ dealt_to w q n ++ n ∷ []
dealt_here w q n e = ap (dealt_to w q) (add-one n) ∙ ap (λ (b : Bool). cond b (dealt_to w q n ++ n ∷ []) (dealt_to w q n)) (let t : (n % w == q) ≡ true = grind (arith, nat_tests) in t)

dealt_else : (w q n : ℕ) → q ≢ n % w → dealt_to w q (n + 1) ≡ dealt_to w q n
dealt_else w q n ne = ap (dealt_to w q) (add-one n) ∙ ap (λ (b : Bool). cond b (dealt_to w q n ++ n ∷ []) (dealt_to w q n)) (ne_eqb (n % w) q (λ e. ne (sym e)))

kept : (b : Bool) (xs : List ℕ) (n x : ℕ) → n ≢ x → times x (cond b (xs ++ n ∷ []) xs) ≡ times x xs
kept true xs n x ne = let a = times-snoc x xs n in let z : cond {A = ℕ} (eqb n x) 1 0 ≡ 0 = ap (λ (b : Bool). cond b 1 0) (ne_eqb n x ne) in omega arith
kept false xs n x ne = refl

mine : (b : Bool) (xs : List ℕ) (x f g : ℕ) → times x xs ≡ cond b f 0 → g ≡ f + 1 → times x (cond b (xs ++ x ∷ []) xs) ≡ cond b g 0
mine true xs x f g h e = let a = times-snoc x xs x in let z : cond {A = ℕ} (eqb x x) 1 0 ≡ 1 = same_one x in omega arith
mine false xs x f g h e = h

pub once_here : (q : ℕ) → once_below q (q + 1) ≡ once_below q q + 1
once_here q = let a = once_below-next q q in let z : cond {A = ℕ} (eqb q q) 1 0 ≡ 1 = same_one q in omega arith

pub once_else : (j q : ℕ) → j ≢ q → once_below j (q + 1) ≡ once_below j q
once_else j q ne = let a = once_below-next j q in let z : cond {A = ℕ} (eqb q j) 1 0 ≡ 0 = ap (λ (b : Bool). cond b 1 0) (ne_eqb q j (λ e. ne (sym e))) in omega arith

pub once_none : (j : ℕ) → once_below j 0 ≡ 0
once_none j = once_below-above j 0 (omega arith)

pub once_all : (j n : ℕ) → j < n → once_below j n ≡ 1
once_all j n lt = grind (arith, nat_tests)

both_none : (b : Bool) (k : ℕ) → k ≡ 0 → 0 ≡ cond b k 0
both_none true k e = sym e
both_none false k e = refl

pub dealt_once : (w q n x : ℕ) → times x (dealt_to w q n) ≡ once_dealt w q n x
dealt_once w q zero x = both_none (x % w == q) (once_below x 0) (once_none x)
dealt_once w q (suc n) x = dite (ℕ_discrete n x)
    (λ (e : n ≡ x). subst (λ (k : ℕ). times k (dealt_to w q (suc n)) ≡ once_dealt w q (suc n) k) e
    (mine (n % w == q) (dealt_to w q n) n (once_below n n) (once_below n (suc n)) (dealt_once w q n n) (sym (ap (once_below n) (add-one n)) ∙ once_here n)))
    (λ (ne : n ≢ x). kept (n % w == q) (dealt_to w q n) n x ne ∙ dealt_once w q n x ∙ ap (λ (k : ℕ). cond (x % w == q) k 0) (sym (once_else x n (λ e. ne (sym e))) ∙ ap (once_below x) (add-one n)))

-- one queue

-- what a method of the queue leaves as it was
abbrev pub Same : Owner → Owner → Type 0
Same o o' = (worker_deque o' ≡ worker_deque o) × (worker_flavor o' ≡ worker_flavor o)

owner_out : (k k' w n q : ℕ) (t : Handle) (o : Owner) → k ≡ k' → IsOwner k w n q t o → IsOwner k' w n q t o
owner_out k k' w n q t o e h = subst (λ (i : ℕ). IsOwner i w n q t o) e h

owner_dealt : (w n q : ℕ) (t : Handle) (o o' : Owner) → q ≡ n % w → Same o o' → worker_view o' ≡ view_with (worker_view o).parts (n + 1) ((worker_view o).dealt ++ n ∷ []) (worker_view o).taken → IsOwner 0 w n q t o → IsOwner 0 w (n + 1) q t o'
owner_dealt w n q t o o' e same became h = record {
  deque = same.0 ∙ h.deque;
  fifo = same.1 ∙ h.fifo;
  handle_fifo = h.handle_fifo;
  parts = ap (λ (u : View). u.parts + 0) became ∙ h.parts;
  below = (let b : (worker_view o').below ≡ n + 1 = ap (λ (u : View). u.below) became in omega arith);
  dealt = ap (λ (u : View). u.dealt) became ∙ ap (λ (l : List ℕ). l ++ n ∷ []) h.dealt ∙ sym (dealt_here w q n e);
}

owner_else : (w n q : ℕ) (t : Handle) (o : Owner) → q ≢ n % w → IsOwner 0 w n q t o → IsOwner 0 w (n + 1) q t o
owner_else w n q t o ne h = record {
  deque = h.deque;
  fifo = h.fifo;
  handle_fifo = h.handle_fifo;
  parts = h.parts;
  below = (let b = h.below in omega arith);
  dealt = h.dealt ∙ sym (dealt_else w q n ne);
}

owner_cut : (k k' w n q : ℕ) (t : Handle) (o o' : Owner) → k' ≡ k + 1 → k < MOST_WORKERS → Same o o' → worker_view o' ≡ view_with ((worker_view o).parts - 1) (worker_view o).below (worker_view o).dealt (worker_view o).taken → IsOwner k w n q t o → IsOwner k' w n q t o'
owner_cut k k' w n q t o o' more few same became h = record {
  deque = same.0 ∙ h.deque;
  fifo = same.1 ∙ h.fifo;
  handle_fifo = h.handle_fifo;
  parts = (let p : (worker_view o').parts ≡ (worker_view o).parts - 1 = ap (λ (u : View). u.parts) became in let q = h.parts in omega arith);
  below = (let b : (worker_view o').below ≡ (worker_view o).below = ap (λ (u : View). u.below) became in let c = h.below in omega arith);
  dealt = ap (λ (u : View). u.dealt) became ∙ h.dealt;
}

place_cut : (k w n q : ℕ) (t : Handle) (o : Owner) (p : Place) → IsPassOf (worker_deque o) p → view p ≡ view_with 1 (worker_view o).below [] [] → IsOwner k w n q t o → IsPlace n t p
place_cut k w n q t o p pass is h = record {
  pass = subst (λ (d : _). IsPassOf d p) h.deque pass;
  fifo = h.handle_fifo;
  part = ap (λ (u : View). u.parts) is;
  below = (let b : (view p).below ≡ (worker_view o).below = ap (λ (u : View). u.below) is in let c = h.below in omega arith);
  dealt = ap (λ (u : View). u.dealt) is;
}

owner_took_in : (k k' w n q : ℕ) (t : Handle) (o o' : Owner) (p : Place) → k ≡ k' + 1 → IsPlace n t p → Same o o'
    → worker_view o' ≡ view_with ((worker_view o).parts + (view p).parts) (worker_view o).below ((worker_view o).dealt ++ (view p).dealt) ((worker_view o).taken ++ (view p).taken) → IsOwner k w n q t o → IsOwner k' w n q t o'
owner_took_in k k' w n q t o o' p less place same became h = record {
  deque = same.0 ∙ h.deque;
  fifo = same.1 ∙ h.fifo;
  handle_fifo = h.handle_fifo;
  parts = (let a : (worker_view o').parts ≡ (worker_view o).parts + (view p).parts = ap (λ (u : View). u.parts) became in let b = h.parts in let c = place.part in omega arith);
  below = (let b : (worker_view o').below ≡ (worker_view o).below = ap (λ (u : View). u.below) became in let c = h.below in omega arith);
  dealt = ap (λ (u : View). u.dealt) became ∙ ap (λ (l : List ℕ). (worker_view o).dealt ++ l) place.dealt ∙ append_nil (worker_view o).dealt ∙ h.dealt;
}

-- all queues

owners_set : (k k' : ℕ → ℕ) (w n n' : ℕ) (ts : List Handle) (os : List Owner) (at : ℕ) (o o' : Owner) → Owners k w n ts os → at < w → o ≡ get_or os at o → ((t : Handle) → IsOwner (k at) w n at t o → IsOwner (k' at) w n' at t o')
    → ((j : ℕ) (t : Handle) (u : Owner) → j ≢ at → IsOwner (k j) w n j t u → IsOwner (k' j) w n' j t u) → Owners k' w n' ts (set os at o')
owners_set k k' w n n' ts os at o o' h inside is changed others = record {
  handles = h.handles;
  len = length-set os at o' ∙ h.len;
  each = beside_set (λ j t u. IsOwner (k j) w n j t u) (λ j t u. IsOwner (k' j) w n' j t u) w ts os at o' h.each inside h.len
      (λ t. changed (get_or ts at t) (beside_at (λ j t u. IsOwner (k j) w n j t u) w ts os at t o h.each inside is)) others;
}

pub owners_out : (k k' : ℕ → ℕ) (w n : ℕ) (ts : List Handle) (os : List Owner) → ((j : ℕ) → j < w → k j ≡ k' j) → Owners k w n ts os → Owners k' w n ts os
owners_out k k' w n ts os e h = record {
  handles = h.handles;
  len = h.len;
  each = λ q t o lt. owner_out (k q) (k' q) w n q _ _ (e q lt) (h.each q t o lt);
}

pub owners_more : (n n' : ℕ) (ts : List Handle) (os : List Owner) (t : Handle) (o : Owner) → n' ≡ n + 1 → Owners (λ _. 0) n 0 ts os → stealer_deque t ≡ worker_deque o → stealer_flavor t ≡ worker_flavor o → worker_flavor o ≡ 0 → worker_view o ≡ view_with part_count 0 [] []
    → Owners (λ _. 0) n' 0 (ts ++ t ∷ []) (os ++ o ∷ [])
owners_more n n' ts os t o more h deque flavor fifo is = subst (λ (m : ℕ). Owners (λ _. 0) m 0 (ts ++ t ∷ []) (os ++ o ∷ [])) (sym more) (record {
  handles = (let a = length-append ts (t ∷ []) in let b = h.handles in omega arith);
  len = (let a = length-append os (o ∷ []) in let b = h.len in omega arith);
  each = beside_both (λ q t o. IsOwner 0 (n + 1) 0 q t o) n ts os t o
      (λ q t o lt. let i = h.each q t o lt in record { deque = i.deque; fifo = i.fifo; handle_fifo = i.handle_fifo; parts = i.parts; below = i.below; dealt = i.dealt }) h.handles h.len
      (record {
        deque = sym deque;
        fifo = fifo;
        handle_fifo = flavor ∙ fifo;
        parts = ap (λ (u : View). u.parts + 0) is;
        below = (let b : (worker_view o).below ≡ 0 = ap (λ (u : View). u.below) is in omega arith);
        dealt = ap (λ (u : View). u.dealt) is;
      });
})

pub owners_dealt : (w n at : ℕ) (ts : List Handle) (os : List Owner) (o o' : Owner) → Owners (λ _. 0) w n ts os → at < w → at ≡ n % w → o ≡ get_or os at o → Same o o'
    → worker_view o' ≡ view_with (worker_view o).parts (n + 1) ((worker_view o).dealt ++ n ∷ []) (worker_view o).taken → Owners (λ _. 0) w (n + 1) ts (set os at o')
owners_dealt w n at ts os o o' h inside e is same became = owners_set (λ _. 0) (λ _. 0) w n (n + 1) ts os at o o' h inside is
    (λ t i. owner_dealt w n at t o o' e same became i) (λ j t u ne i. owner_else w n j t u (λ same. ne (same ∙ sym e)) i)

pub owners_cut : (k w n q : ℕ) (ts : List Handle) (os : List Owner) (o o' : Owner) → Owners (λ j. k + once_below j q) w n ts os → q < w → k < MOST_WORKERS → o ≡ get_or os q o → Same o o'
    → worker_view o' ≡ view_with ((worker_view o).parts - 1) (worker_view o).below (worker_view o).dealt (worker_view o).taken → Owners (λ j. k + once_below j (q + 1)) w n ts (set os q o')
owners_cut k w n q ts os o o' h inside few is same became = owners_set (λ j. k + once_below j q) (λ j. k + once_below j (q + 1)) w n n ts os q o o' h inside is
    (λ t i. let a = once_here q in let z = once_below-above q q (omega arith) in owner_cut (k + once_below q q) (k + once_below q (q + 1)) w n q t o o' (omega arith) (omega arith) same became i)
    (λ j t u ne i. owner_out (k + once_below j q) (k + once_below j (q + 1)) w n j t u (ap (λ (i : ℕ). k + i) (sym (once_else j q ne))) i)

pub owners_took_in : (k w n q : ℕ) (ts : List Handle) (os : List Owner) (o o' : Owner) (p : Place) → Owners (λ j. k + once_below j (q + 1)) w n ts os → q < w → o ≡ get_or os q o → ((t : Handle) → IsPlace n (get_or ts q t) p) → Same o o'
    → worker_view o' ≡ view_with ((worker_view o).parts + (view p).parts) (worker_view o).below ((worker_view o).dealt ++ (view p).dealt) ((worker_view o).taken ++ (view p).taken) → Owners (λ j. k + once_below j q) w n ts (set os q o')
owners_took_in k w n q ts os o o' p h inside is place same became = record {
  handles = h.handles;
  len = length-set os q o' ∙ h.len;
  each = beside_set (λ j t u. IsOwner (k + once_below j (q + 1)) w n j t u) (λ j t u. IsOwner (k + once_below j q) w n j t u) w ts os q o' h.each inside h.len
      (λ t. owner_took_in (k + once_below q (q + 1)) (k + once_below q q) w n q (get_or ts q t) o o' p (let a = once_here q in omega arith) (place t) same became
      (beside_at (λ j t u. IsOwner (k + once_below j (q + 1)) w n j t u) w ts os q t o h.each inside is))
      (λ j t u ne i. owner_out (k + once_below j (q + 1)) (k + once_below j q) w n j t u (ap (λ (i : ℕ). k + i) (once_else j q ne)) i);
}

-- what a queue at a place is, where its handle doesn't matter
pub owner_at : (k : ℕ → ℕ) (w n at : ℕ) (ts : List Handle) (os : List Owner) (o : Owner) (t : Handle) → Owners k w n ts os → at < w → o ≡ get_or os at o → IsOwner (k at) w n at (get_or ts at t) o
owner_at k w n at ts os o t h inside is = beside_at (λ j t u. IsOwner (k j) w n j t u) w ts os at t o h.each inside is

pub places_cut : (k : ℕ → ℕ) (w n q : ℕ) (ts : List Handle) (os : List Owner) (ps : List Place) (o : Owner) (p : Place) → Owners k w n ts os → q < w → o ≡ get_or os q o → IsPassOf (worker_deque o) p → view p ≡ view_with 1 (worker_view o).below [] [] → Places q n ts ps → Places (q + 1) n ts (ps ++ p ∷ [])
places_cut k w n q ts os ps o p h inside is pass became places = record {
  len = (let a = length-append ps (p ∷ []) in let b = places.len in omega arith);
  each = beside_more (λ _ t p. IsPlace n t p) q ts ps p places.each places.len (λ t. place_cut (k q) w n q (get_or ts q t) o p pass became (owner_at k w n q ts os o t h inside is));
}

pub places_none : (n : ℕ) (ts : List Handle) → Places 0 n ts []
places_none n ts = record { len = refl; each = λ q t p lt. absurd (omega arith) }

pub places_set : (m n : ℕ) (ts : List Handle) (ps : List Place) (at : ℕ) (t : Handle) (p : Place) → Places m n ts ps → at < m → m ≡ length ts → t ≡ get_or ts at t → IsPlace n t p → Places m n ts (set ps at p)
places_set m n ts ps at t p h inside len is place = record {
  len = length-set ps at p ∙ h.len;
  each = beside_set (λ _ t p. IsPlace n t p) (λ _ t p. IsPlace n t p) m ts ps at p h.each inside h.len
      (λ d. subst (λ (z : Handle). IsPlace n z p) (is ∙ default ts at t d (omega arith)) place) (λ j a b _ i. i);
}

-- what was taken by the places, when by one of them more is
pub taken_set : (ps : List Place) (at : ℕ) (old new : Place) (more : List ℕ) → at < length ps → old ≡ get_or ps at old → (view new).taken ≡ (view old).taken ++ more
    → (x : ℕ) → taken_by x (set ps at new) ≡ taken_by x ps + times x more
taken_set ps at old new more inside is grown x =
    let f : Place → ℕ = λ p. times x (view p).taken in
    let t = total_set_at f ps at old new inside in
    let o : f old ≡ f (get_or ps at old) = ap f is in
    let e : f new ≡ times x ((view old).taken ++ more) = ap (times x) grown in
    let a = total-append (λ (y : ℕ). cond (y == x) 1 0) (view old).taken more in
    omega arith

-- one place more, by which nothing was taken
pub taken_none : (ps ps' : List Place) (p : Place) → ps' ≡ ps ++ p ∷ [] → (view p).taken ≡ [] → ((x : ℕ) → taken_by x ps ≡ 0) → (x : ℕ) → taken_by x ps' ≡ 0
taken_none ps ps' p is none before x =
    let f : Place → ℕ = λ p. times x (view p).taken in
    let e : total f ps' ≡ total f (ps ++ p ∷ []) = ap (total f) is in
    let a = total-append f ps (p ∷ []) in
    let z : f p ≡ 0 = ap (times x) none in
    let b = before x in
    omega arith

pub places_popped : (n m m' : ℕ) (ts : List Handle) (ps ps' : List Place) (p : Place) → Places m' n ts ps' → ps' ≡ ps ++ p ∷ [] → m' ≡ m + 1 → Places m n ts ps × ((t : Handle) → IsPlace n (get_or ts m t) p)
places_popped n m m' ts ps ps' p h is more =
    let l = ap length is in let a = length-append ps (p ∷ []) in let b = h.len in let len : length ps ≡ m = omega arith in
    let each = subst (λ (z : List Place). (q : ℕ) (t : Handle) (y : Place) → q < m + 1 → IsPlace n (get_or ts q t) (get_or z q y)) is (λ q t y lt. h.each q t y (omega arith)) in (
      record { len = len; each = beside_less (λ _ t p. IsPlace n t p) m ts ps p each len },
      beside_last (λ _ t p. IsPlace n t p) m ts ps p each len,
    )

-- what is known of a queue without its handle
pub owner_known : (k : ℕ → ℕ) (w n at : ℕ) (ts : List Handle) (os : List Owner) (o : Owner) → Owners k w n ts os → at < w → o ≡ get_or os at o → ((worker_view o).parts + k at ≡ part_count) × ((worker_view o).dealt ≡ dealt_to w at n) × (worker_flavor o ≡ 0)
owner_known k w n at [] os o h inside is = let l = h.handles in absurd (omega arith)
owner_known k w n at (t ∷ ts) os o h inside is = let i = owner_at k w n at (t ∷ ts) os o t h inside is in (i.parts, i.dealt, i.fifo)

-- a place at the handle's queue is a pass of the queue beside it
pub place_of : (k : ℕ → ℕ) (w n at : ℕ) (ts : List Handle) (os : List Owner) (o : Owner) (p : Place) → Owners k w n ts os → at < w → o ≡ get_or os at o → ((t : Handle) → IsPlace n (get_or ts at t) p) → IsPassOf (worker_deque o) p
place_of k w n at [] os o p h inside is place = let l = h.handles in absurd (omega arith)
place_of k w n at (t ∷ ts) os o p h inside is place = subst (λ (d : _). IsPassOf d p) (sym (owner_at k w n at (t ∷ ts) os o t h inside is).deque) (place t).pass

pub owners_opened : (n : ℕ) (ts ts' : List Handle) (os os' : List Owner) (t : Handle) (o : Owner) → Owners (λ _. 0) n 0 ts os → ts' ≡ ts ++ t ∷ [] → os' ≡ os ++ o ∷ [] → stealer_deque t ≡ worker_deque o → stealer_flavor t ≡ worker_flavor o → worker_flavor o ≡ 0 → worker_view o ≡ view_with part_count 0 [] []
    → Owners (λ _. 0) (n + 1) 0 ts' os'
owners_opened n ts ts' os os' t o h e f deque flavor fifo is = subst (λ (z : List Handle). Owners (λ _. 0) (n + 1) 0 z os') (sym e) (subst (λ (z : List Owner). Owners (λ _. 0) (n + 1) 0 (ts ++ t ∷ []) z) (sym f) (owners_more n (n + 1) ts os t o refl h deque flavor fifo is))

-- the last place of a worker is taken in
pub owners_less : (k w n q m m' : ℕ) (ts : List Handle) (os : List Owner) (o o' : Owner) (p : Place) → Owners (λ j. k + once_below j m) w n ts os → q ≡ m' → m ≡ m' + 1 → q < w → o ≡ get_or os q o → ((t : Handle) → IsPlace n (get_or ts q t) p) → Same o o'
    → worker_view o' ≡ view_with ((worker_view o).parts + (view p).parts) (worker_view o).below ((worker_view o).dealt ++ (view p).dealt) ((worker_view o).taken ++ (view p).taken) → Owners (λ j. k + once_below j m') w n ts (set os q o')
owners_less k w n q m m' ts os o o' p h e f inside is place same became = owners_out (λ j. k + once_below j q) (λ j. k + once_below j m') w n ts (set os q o') (λ j _. ap (λ (i : ℕ). k + once_below j i) e)
    (owners_took_in k w n q ts os o o' p (owners_out (λ j. k + once_below j m) (λ j. k + once_below j (q + 1)) w n ts os (λ j _. ap (λ (i : ℕ). k + once_below j i) (f ∙ ap (λ (i : ℕ). i + 1) (sym e))) h) inside is place same became)

pub place_at : (n q m : ℕ) (ts : List Handle) (p : Place) → q ≡ m → ((t : Handle) → IsPlace n (get_or ts m t) p) → (t : Handle) → IsPlace n (get_or ts q t) p
place_at n q m ts p e h t = subst (λ (i : ℕ). IsPlace n (get_or ts i t) p) (sym e) (h t)

pub places_len : (m m' n : ℕ) (ts : List Handle) (ps ps' : List Place) → m ≡ m' → ps' ≡ ps → Places m n ts ps → Places m' n ts ps'
places_len m m' n ts ps ps' e f h = subst (λ (i : ℕ). Places i n ts ps') e (subst (λ (z : List Place). Places m n ts z) (sym f) h)

pub owners_drained : (w n at : ℕ) (ts : List Handle) (os : List Owner) (o o' : Owner) → Owners (λ _. 0) w n ts os → at < w → o ≡ get_or os at o → worker_deque o' ≡ worker_deque o → worker_flavor o' ≡ 0 → (worker_view o').parts ≡ part_count → (worker_view o').below ≡ (worker_view o).below → (worker_view o').dealt ≡ (worker_view o).dealt
    → Owners (λ _. 0) w n ts (set os at o')
owners_drained w n at ts os o o' h inside is deque fifo whole below dealt = owners_set (λ _. 0) (λ _. 0) w n n ts os at o o' h inside is
    (λ t i. record { deque = deque ∙ i.deque; fifo = fifo; handle_fifo = i.handle_fifo; parts = omega arith; below = (let b = i.below in omega arith); dealt = dealt ∙ i.dealt })
    (λ j t u ne i. i)

-- one more queue is spent
pub spent_more : (w n at : ℕ) (os : List Owner) (o' : Owner) → ((j : ℕ) (o : Owner) → j < at → IsSpent w n j (worker_view (get_or os j o))) → at < length os → (worker_view o').parts ≡ part_count → (worker_view o').dealt ≡ dealt_to w at n → ((x : ℕ) → times x (worker_view o').taken ≡ times x (worker_view o').dealt)
    → (j : ℕ) (o : Owner) → j < at + 1 → IsSpent w n j (worker_view (get_or (set os at o') j o))
spent_more w n at os o' h inside whole dealt taken j o lt = dite (ℕ_discrete j at)
    (λ (e : j ≡ at). subst (λ (i : ℕ). IsSpent w n i (worker_view (get_or (set os at o') i o))) (sym e) (subst (λ (z : Owner). IsSpent w n at (worker_view z)) (sym (get_or-set_same os at o' o inside))
    (record { whole = whole; dealt = dealt; taken = taken; once = λ x. taken x ∙ ap (times x) dealt ∙ dealt_once w at n x })))
    (λ (ne : j ≢ at). subst (λ (z : Owner). IsSpent w n j (worker_view z)) (sym (get_or-set_other os at j o' o ne)) (h j o (omega arith)))

-- one more queue is let go, and what it knew stands in the list
pub histories_more : (w n q : ℕ) (ps ps' : List Place) (p : Place) → ((j : ℕ) (d : Place) → j < q → IsSpent w n j (view (get_or ps j d))) → length ps ≡ q → ps' ≡ ps ++ p ∷ [] → IsSpent w n q (view p) → (j : ℕ) (d : Place) → j < q + 1 → IsSpent w n j (view (get_or ps' j d))
histories_more w n q ps ps' p h len is spent j d lt = subst (λ (z : List Place). IsSpent w n j (view (get_or z j d))) (sym is) (dite (ℕ_discrete j q)
    (λ (e : j ≡ q). subst (λ (i : ℕ). IsSpent w n i (view (get_or (ps ++ p ∷ []) i d))) (sym e) (subst (λ (z : Place). IsSpent w n q (view z)) (sym (snoc_last ps p q d len)) spent))
    (λ (ne : j ≢ q). subst (λ (z : Place). IsSpent w n j (view z)) (sym (get_or_append_left ps (p ∷ []) d j (omega arith))) (h j d (omega arith))))

pub left_more : (w n q : ℕ) (os : List Owner) (o' : Owner) → ((j : ℕ) (o : Owner) → q ≤ j → j < w → IsSpent w n j (worker_view (get_or os j o))) → (j : ℕ) (o : Owner) → q + 1 ≤ j → j < w → IsSpent w n j (worker_view (get_or (set os q o') j o))
left_more w n q os o' h j o le lt = subst (λ (z : Owner). IsSpent w n j (worker_view z)) (sym (get_or-set_other os q j o' o (λ (e : j ≡ q). omega arith))) (h j o (omega arith) lt)

-- the queues are counted otherwise
pub owners_counted : (k : ℕ → ℕ) (w w' n n' : ℕ) (ts : List Handle) (os : List Owner) → w ≡ w' → n ≡ n' → Owners k w n ts os → Owners k w' n' ts os
owners_counted k w w' n n' ts os e f h = subst (λ (i : ℕ). Owners k i n' ts os) e (subst (λ (i : ℕ). Owners k w i ts os) f h)

-- the queues as they say of themselves
pub stand_here : (handles : Vec Handle Global) (n out : ℕ) (q : Queues) → AreDealt handles n out q → AreQueues q
stand_here handles n out q h = subst (λ (ts : Vec Handle Global). Owners (λ _. q.out) (vec_len ts) q.count ts.items q.owners.items) (sym h.same)
    (owners_out (λ _. out) (λ _. q.out) (vec_len handles) q.count handles.items q.owners.items (λ _ _. sym h.out) (owners_counted (λ _. out) (vec_len handles) (vec_len handles) n q.count handles.items q.owners.items refl (sym h.count) h.owners))

-- what stands as they said of themselves
pub stand_from : (handles : Vec Handle Global) (n out out' : ℕ) (q q' : Queues) → AreDealt handles n out q → AreDealt q.handles q.count out' q' → AreDealt handles n out' q'
stand_from handles n out out' q q' h h' = subst (λ (ts : Vec Handle Global). AreDealt ts n out' q') h.same (subst (λ (m : ℕ). AreDealt q.handles m out' q') h.count h')

-- places at the queues as they say of themselves
pub places_from : (handles : Vec Handle Global) (n out : ℕ) (q : Queues) (ps : List Place) → AreDealt handles n out q → Places (vec_len q.handles) q.count q.handles.items ps → Places (vec_len handles) n handles.items ps
places_from handles n out q ps h places = subst (λ (ts : Vec Handle Global). Places (vec_len ts) n ts.items ps) h.same (subst (λ (m : ℕ). Places (vec_len q.handles) m q.handles.items ps) h.count places)

pub places_here : (handles : Vec Handle Global) (n out : ℕ) (q : Queues) (ps : List Place) → AreDealt handles n out q → Places (vec_len handles) n handles.items ps → Places (vec_len q.handles) q.count q.handles.items ps
places_here handles n out q ps h places = subst (λ (ts : Vec Handle Global). Places (vec_len ts) q.count ts.items ps) (sym h.same) (subst (λ (m : ℕ). Places (vec_len handles) m handles.items ps) (sym h.count) places)

pub dealt_self : (handles : Vec Handle Global) (n out out' : ℕ) (q : Queues) → AreDealt handles n out q → out ≡ out' → AreDealt q.handles q.count out' q
dealt_self handles n out out' q h e = record { same = refl; count = refl; out = h.out ∙ e; owners = owners_out (λ _. q.out) (λ _. out') _ _ _ _ (λ _ _. h.out ∙ e) (stand_here handles n out q h) }

pub known_self : (handles : Vec Handle Global) (n : ℕ) (q : Queues) → AreKnown handles n q → AreKnown q.handles q.count q
known_self handles n q h = record {
  same = refl;
  count = refl;
  len = h.len ∙ ap (λ (ts : Vec Handle Global). vec_len ts) (sym h.same);
  spent = subst (λ (ts : Vec Handle Global). AreSpent (vec_len ts) q.count q.owners.items) (sym h.same) (subst (λ (m : ℕ). AreSpent (vec_len handles) m q.owners.items) (sym h.count) h.spent);
}

-- ---- what is brought

ok_with : {X : Type 0} (P Q : X → Type 0) (r : Result X AllocError) → ((x : X) → P x → Q x) → IfOk r P → IfOk r Q
ok_with P Q (Ok x) f h = f x h
ok_with P Q (Err e) f h = tt

-- the shares have places
pub shares_placed : {X : Type 0} (w n : ℕ) (ts : List Handle) (gives : ℕ → X → Type 0) (shares : List (Result (Share X) AllocError)) → All (λ t. IfOk t (IsShare w n ts gives)) shares → All (λ t. IfOk t (λ (share : Share X). Places w n ts share.places.items)) shares
shares_placed w n ts gives shares all k d lt = ok_with _ _ (get_or shares k d) (λ share h. h.places) (all k d lt)

-- what was done belongs to its number
pub brought_done : {X : Type 0} (w n : ℕ) (ts : List Handle) (gives : ℕ → X → Type 0) (shares : List (Result (Share X) AllocError)) (brought : List (Vec (ℕ × X) Global)) → All (λ t. IfOk t (IsShare w n ts gives)) shares → All (IsOfShares shares) brought → All (λ (done : Vec (ℕ × X) Global). AreDone gives done.items) brought
brought_done {X} w n ts gives shares brought all of k d lt =
    let here = of k d lt in
    subst (λ (done : Vec (ℕ × X) Global). AreDone gives done.items) here.2 (All-contains (λ t. IfOk t (IsShare w n ts gives)) shares (Ok here.0) all here.1).done
