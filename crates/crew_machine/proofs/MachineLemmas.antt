-- Each event keeps what holds in every run.
use Rattle.std.proofs.Common.{◌≡◌, ℕ, zero, suc, ◌+◌, ◌<◌, ◌≤◌, Bool, true, false, cond, ◌==◌, nat_lt, List, [], ◌∷◌, ◌++◌, length, set, sym, refl, ap, ◌∙◌, arith, Option, Some, None, Result, Ok, Err, true≢false, add-one}
use Rattle.std.proofs.lemmas.Bool.Decides.{nat_tests}
use mathlib.Core.Logic.{dite}
use native.Mathlib.Decide.{ℕ_discrete}
use Rattle.std.proofs.Common.{ne_eqb}
use Rattle.crew_machine.specs.Machine.{Worker, State, Event, deal, take, draw, post, finish, stop, Fault, stopped_fault, busy_fault, full_fault, stands, nobody, worker_at, queue_at, with_worker, take_front, if_idle, post_number, finish_number, stepped, after, run, copies, opening, is_busy_with, Sound, EveryRun}
use Rattle.crew_machine.specs.Counts.{total, times, once_below}
use Rattle.crew_machine.proofs.CountLemmas.{total_set_at, times-snoc, once_below-next, same_one}

module _ {A : Type 0} where
  total-copies : (f : A → ℕ) (n : ℕ) (x : A) → f x ≡ 0 → total f (copies n x) ≡ 0
  total-copies f zero x z = refl
  total-copies f (suc n) x z = let r = total-copies f n x z in omega arith

-- a number that doesn't stand in a list stands there no time
absent_at : (x y : ℕ) (ys : List ℕ) (b : Bool) → (stands x ys ≡ false → times x ys ≡ 0) → (y == x) ≡ b → cond b true (stands x ys) ≡ false → cond (y == x) 1 0 + times x ys ≡ 0
absent_at x y ys true r e h = absurd (true≢false h)
absent_at x y ys false r e h = let z : cond {A = ℕ} (y == x) 1 0 ≡ 0 = ap (λ (b : Bool). cond b 1 0) e in let q = r h in omega arith

absent : (x : ℕ) (xs : List ℕ) → stands x xs ≡ false → times x xs ≡ 0
absent x [] h = refl
absent x (y ∷ ys) h = absent_at x y ys (y == x) (absent x ys) refl h

pub begins : (workers queues limit : ℕ) → Sound (opening workers queues limit)
begins workers queues limit = record {
  once = λ x. omega arith;
  placed = λ x. (let a = total-copies (times x) queues [] refl in let b = total-copies (λ (w : Worker). times x w.taken) workers nobody refl in omega arith);
  drawn = λ x. total-copies (λ (w : Worker). times x w.drawn) workers nobody refl ∙ (let e : once_below x 0 ≡ 0 = grind (arith, nat_tests) in sym e);
  bounded = omega arith;
  finished = λ x. (let a = total-copies (λ (w : Worker). is_busy_with x w.busy) workers nobody refl in let b = total-copies (λ (w : Worker). times x w.taken) workers nobody refl in omega arith);
  posted_once = λ x. omega arith;
  posted = λ x h. absurd (omega arith);
}

at_most_one : (b : Bool) → cond {A = ℕ} b 1 0 ≤ 1
at_most_one true = omega arith
at_most_one false = omega arith

-- one more of a number that wasn't there is there once
once_more : (xs : List ℕ) (x : ℕ) → ((y : ℕ) → times y xs ≤ 1) → times x xs ≡ 0 → (y : ℕ) → times y (xs ++ x ∷ []) ≤ 1
once_more xs x h none y = dite (ℕ_discrete x y)
    (λ e. let z : times y xs ≡ 0 = ap (λ (k : ℕ). times k xs) (sym e) ∙ none in let a = times-snoc y xs x in let c = at_most_one (x == y) in omega arith)
    (λ ne. let z : cond {A = ℕ} (x == y) 1 0 ≡ 0 = ap (λ (b : Bool). cond b 1 0) (ne_eqb x y ne) in let a = times-snoc y xs x in let c = h y in omega arith)

below_test : (x n : ℕ) → nat_lt x n ≡ true → x < n
below_test x n h = grind (arith, nat_tests)

after_cond : (b : Bool) (r t : Result State Fault) (s : State) → (b ≡ true → Sound (after r s)) → (b ≡ false → Sound (after t s)) → Sound (after (cond b r t) s)
after_cond true r t s then else' = then refl
after_cond false r t s then else' = else' refl

after_idle : (o : Option ℕ) (r t : Result State Fault) (s : State) → (o ≡ None → Sound (after r s)) → Sound (after t s) → Sound (after (if_idle o r t) s)
after_idle None r t s then else' = then refl
after_idle (Some x) r t s then else' = else'

module _ (s : State) (k : Sound s) where
  dealt : (q x : ℕ) → q < length s.queues → times x s.dealt ≡ 0
      → Sound (record { limit = s.limit; dealt = s.dealt ++ x ∷ []; queues = set s.queues q (queue_at s q ++ x ∷ []); workers = s.workers; next = s.next; posted = s.posted; done = s.done })
  dealt q x inside fresh = record {
    once = once_more s.dealt x k.once fresh;
    placed = λ y. (let a = times-snoc y s.dealt x in let b = times-snoc y (queue_at s q) x in let t = total_set_at (times y) s.queues q [] (queue_at s q ++ x ∷ []) inside in let p = k.placed y in omega arith);
    drawn = k.drawn;
    bounded = k.bounded;
    finished = k.finished;
    posted_once = k.posted_once;
    posted = k.posted;
  }

  took : (w q x : ℕ) (xs : List ℕ) → w < length s.workers → q < length s.queues → (worker_at s w).busy ≡ None → queue_at s q ≡ x ∷ xs → Sound (after (take_front s w q (x ∷ xs)) s)
  took w q x xs inside queue idle is = let v = worker_at s w in let v' : Worker = record { taken = v.taken ++ x ∷ []; busy = Some x; drawn = v.drawn; stopped = v.stopped } in record {
    once = k.once;
    placed = λ y. (let a = times-snoc y v.taken x in let t = total_set_at (times y) s.queues q [] xs queue in let e : times y (queue_at s q) ≡ cond (x == y) 1 0 + times y xs = ap (times y) is in
        let u = total_set_at (λ (w : Worker). times y w.taken) s.workers w nobody v' inside in let p = k.placed y in omega arith);
    drawn = λ y. (let u = total_set_at (λ (w : Worker). times y w.drawn) s.workers w nobody v' inside in let p = k.drawn y in omega arith);
    bounded = k.bounded;
    finished = λ y. (let a = times-snoc y v.taken x in let u = total_set_at (λ (w : Worker). times y w.taken) s.workers w nobody v' inside in let b = total_set_at (λ (w : Worker). is_busy_with y w.busy) s.workers w nobody v' inside in
        let z = ap (is_busy_with y) idle in let p = k.finished y in omega arith);
    posted_once = k.posted_once;
    posted = λ y h. (let a = times-snoc y v.taken x in let u = total_set_at (λ (w : Worker). times y w.taken) s.workers w nobody v' inside in let p = k.posted y h in omega arith);
  }

  take_case : (w q : ℕ) (l : List ℕ) → w < length s.workers → q < length s.queues → (worker_at s w).busy ≡ None → queue_at s q ≡ l → Sound (after (take_front s w q l) s)
  take_case w q [] inside queue idle is = k
  take_case w q (x ∷ xs) inside queue idle is = took w q x xs inside queue idle is

  drew : (w : ℕ) → w < length s.workers → s.next < s.limit → (let v = worker_at s w in Sound (record {
    limit = s.limit;
    dealt = s.dealt;
    queues = s.queues;
    workers = set s.workers w (record { taken = v.taken; busy = v.busy; drawn = v.drawn ++ s.next ∷ []; stopped = v.stopped });
    next = s.next + 1;
    posted = s.posted;
    done = s.done;
  }))
  drew w inside low = let v = worker_at s w in let v' : Worker = record { taken = v.taken; busy = v.busy; drawn = v.drawn ++ s.next ∷ []; stopped = v.stopped } in record {
    once = k.once;
    placed = λ y. (let u = total_set_at (λ (w : Worker). times y w.taken) s.workers w nobody v' inside in let p = k.placed y in omega arith);
    drawn = λ y. (let a = times-snoc y v.drawn s.next in let u = total_set_at (λ (w : Worker). times y w.drawn) s.workers w nobody v' inside in let p = k.drawn y in let b = once_below-next y s.next in omega arith);
    bounded = omega arith;
    finished = λ y. (let u = total_set_at (λ (w : Worker). times y w.taken) s.workers w nobody v' inside in let b = total_set_at (λ (w : Worker). is_busy_with y w.busy) s.workers w nobody v' inside in let p = k.finished y in omega arith);
    posted_once = k.posted_once;
    posted = λ y h. (let u = total_set_at (λ (w : Worker). times y w.taken) s.workers w nobody v' inside in let p = k.posted y h in omega arith);
  }

  posted_case : (w : ℕ) (o : Option ℕ) → w < length s.workers → (worker_at s w).busy ≡ o → Sound (after (post_number s o) s)
  posted_case w None inside is = k
  posted_case w (Some x) inside is = after_cond _ _ _ s (λ _. k) (λ fresh. record {
    once = k.once;
    placed = k.placed;
    drawn = k.drawn;
    bounded = k.bounded;
    finished = k.finished;
    posted_once = once_more s.posted x k.posted_once (absent x s.posted fresh);
    posted = λ y h. dite (ℕ_discrete x y)
        (λ e. let u = total_set_at (λ (w : Worker). is_busy_with y w.busy) s.workers w nobody nobody inside in let z : is_busy_with y (worker_at s w).busy ≡ 1 = ap (is_busy_with y) is ∙ ap (λ (n : ℕ). cond (n == y) 1 0) e ∙ same_one y in let p = k.finished y in omega arith)
        (λ ne. let z : cond {A = ℕ} (x == y) 1 0 ≡ 0 = ap (λ (b : Bool). cond b 1 0) (ne_eqb x y ne) in let a = times-snoc y s.posted x in k.posted y (omega arith));
  })

  finish_case : (w : ℕ) (o : Option ℕ) → w < length s.workers → (worker_at s w).busy ≡ o → Sound (after (finish_number s w o) s)
  finish_case w None inside is = k
  finish_case w (Some x) inside is = let v = worker_at s w in let v' : Worker = record { taken = v.taken; busy = None; drawn = v.drawn; stopped = v.stopped } in record {
    once = k.once;
    placed = λ y. (let u = total_set_at (λ (w : Worker). times y w.taken) s.workers w nobody v' inside in let p = k.placed y in omega arith);
    drawn = λ y. (let u = total_set_at (λ (w : Worker). times y w.drawn) s.workers w nobody v' inside in let p = k.drawn y in omega arith);
    bounded = k.bounded;
    finished = λ y. (let a = times-snoc y s.done x in let u = total_set_at (λ (w : Worker). times y w.taken) s.workers w nobody v' inside in let b = total_set_at (λ (w : Worker). is_busy_with y w.busy) s.workers w nobody v' inside in
        let z = ap (is_busy_with y) is in let p = k.finished y in omega arith);
    posted_once = k.posted_once;
    posted = λ y h. (let u = total_set_at (λ (w : Worker). times y w.taken) s.workers w nobody v' inside in let p = k.posted y h in omega arith);
  }

  stopped_now : (w : ℕ) → w < length s.workers → (let v = worker_at s w in Sound (with_worker s w (record { taken = v.taken; busy = v.busy; drawn = v.drawn; stopped = true })))
  stopped_now w inside = let v = worker_at s w in let v' : Worker = record { taken = v.taken; busy = v.busy; drawn = v.drawn; stopped = true } in record {
    once = k.once;
    placed = λ y. (let u = total_set_at (λ (w : Worker). times y w.taken) s.workers w nobody v' inside in let p = k.placed y in omega arith);
    drawn = λ y. (let u = total_set_at (λ (w : Worker). times y w.drawn) s.workers w nobody v' inside in let p = k.drawn y in omega arith);
    bounded = k.bounded;
    finished = λ y. (let u = total_set_at (λ (w : Worker). times y w.taken) s.workers w nobody v' inside in let b = total_set_at (λ (w : Worker). is_busy_with y w.busy) s.workers w nobody v' inside in let p = k.finished y in omega arith);
    posted_once = k.posted_once;
    posted = λ y h. (let u = total_set_at (λ (w : Worker). times y w.taken) s.workers w nobody v' inside in let p = k.posted y h in omega arith);
  }

  pub keeps : (e : Event) → Sound (after (stepped s e) s)
  keeps (deal q x) = after_cond _ _ _ s (λ inside. after_cond _ _ _ s (λ _. k) (λ fresh. dealt q x (below_test q _ inside) (absent x s.dealt fresh))) (λ _. k)
  keeps (take w q) = after_cond _ _ _ s (λ inside. after_cond _ _ _ s (λ queue. after_cond (worker_at s w).stopped (Err stopped_fault) (if_idle (worker_at s w).busy (take_front s w q (queue_at s q)) (Err busy_fault)) s (λ _. k)
      (λ _. after_idle (worker_at s w).busy (take_front s w q (queue_at s q)) (Err busy_fault) s (λ idle. take_case w q (queue_at s q) (below_test w _ inside) (below_test q _ queue) idle refl) k)) (λ _. k)) (λ _. k)
  keeps (draw w) = let v = worker_at s w in
      let t : State = record { limit = s.limit; dealt = s.dealt; queues = s.queues; workers = set s.workers w (record { taken = v.taken; busy = v.busy; drawn = v.drawn ++ s.next ∷ []; stopped = v.stopped }); next = s.next + 1; posted = s.posted; done = s.done } in
      after_cond _ _ _ s (λ inside. after_cond (worker_at s w).stopped (Err stopped_fault) (cond (nat_lt s.next s.limit) (Ok t) (Err full_fault)) s (λ _. k)
      (λ _. after_cond (nat_lt s.next s.limit) (Ok t) (Err full_fault) s (λ low. drew w (below_test w _ inside) (below_test s.next s.limit low)) (λ _. k))) (λ _. k)
  keeps (post w) = after_cond _ _ _ s (λ inside. posted_case w (worker_at s w).busy (below_test w _ inside) refl) (λ _. k)
  keeps (finish w) = after_cond _ _ _ s (λ inside. finish_case w (worker_at s w).busy (below_test w _ inside) refl) (λ _. k)
  keeps (stop w) = let v = worker_at s w in let t : State = with_worker s w (record { taken = v.taken; busy = v.busy; drawn = v.drawn; stopped = true }) in
      after_cond _ _ _ s (λ inside. after_cond v.stopped (Err stopped_fault) (if_idle v.busy (Ok t) (Err busy_fault)) s (λ _. k) (λ _. after_idle v.busy (Ok t) (Err busy_fault) s (λ _. stopped_now w (below_test w _ inside)) k)) (λ _. k)

pub runs : (events : List Event) (s : State) → Sound s → Sound (run s events)
runs [] s k = k
runs (e ∷ es) s k = runs es (after (stepped s e) s) (keeps s k e)

pub every_run : EveryRun
every_run workers queues limit events = runs events (opening workers queues limit) (begins workers queues limit)

-- one more of the same

copies_snoc : {A : Type 0} (n : ℕ) (x : A) → copies n x ++ x ∷ [] ≡ copies (suc n) x
copies_snoc zero x = refl
copies_snoc (suc n) x = ap (λ (l : List _). x ∷ l) (copies_snoc n x)

pub one_more : {A : Type 0} (n : ℕ) (x y : A) (xs ys : List A) → xs ≡ copies n x → ys ≡ xs ++ y ∷ [] → y ≡ x → ys ≡ copies (n + 1) x
one_more {A} n x y xs ys is more same = more ∙ ap (λ (l : List A). l ++ y ∷ []) is ∙ ap (λ (z : A). copies n x ++ z ∷ []) same ∙ copies_snoc n x ∙ ap (λ (k : ℕ). copies k x) (sym (add-one n))
