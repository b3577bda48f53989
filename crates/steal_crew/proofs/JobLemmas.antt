-- Each step of the queue keeps its rule.
use Rattle.std.proofs.Common.{◌≡◌, ◌≢◌, ℕ, zero, suc, ◌+◌, ◌-◌, ◌<◌, cond, eqb, ◌==◌, List, [], ◌∷◌, ◌++◌, set, sym}
use Rattle.std.proofs.Common.{refl, ap, ◌∙◌, subst, arith, ⊎_elim}
use mathlib.Core.List.{map-append}
use mathlib.Core.Option.{some, some-injective, some-ne-none}
use lib.ListN.{get_elem?}
use Rattle.crossbeam_deque.specs.Tasks.{Pushes, Takes, Finds, Forks, Merges}
use Rattle.crossbeam_deque.proofs.Lists.{at_set, at_snoc}
use Rattle.steal_crew.specs.declared.jobs.JobView.{JobView}
use Rattle.steal_crew.specs.declared.jobs.NumberedJob.{NumberedJob}
use Rattle.steal_crew.specs.Jobs.{job_view_with, job_numbers, JobsKept}
use Rattle.steal_crew.specs.QueueRule.{part_count}
use Rattle.crew_machine.specs.Counts.{total, times}
use Rattle.crew_machine.proofs.CountLemmas.{total-set, total-append, total-alone, times-snoc}

abbrev parts : JobView → ℕ
parts v = v.parts

abbrev dealt : ℕ → JobView → ℕ
dealt x v = times x v.dealt

abbrev took : ℕ → JobView → ℕ
took x v = times x v.taken

each_set : (P : JobView → Type 0) (views : List JobView) (id : ℕ) (w : JobView) → P w
    → ((j : ℕ) (u : JobView) → j ≢ id → get_elem? views j ≡ some u → P u) → (j : ℕ) (u : JobView)
    → get_elem? (set views id w) j ≡ some u → P u
each_set P views id w mine others j u e =
    ⊎_elim (λ (t : (j ≡ id) × (w ≡ u)). subst P t.1 mine)
    (λ (t : (j ≢ id) × (get_elem? views j ≡ some u)). others j u t.0 t.1) (at_set views id j w u e)

each_snoc : (P : JobView → Type 0) (views : List JobView) (w : JobView)
    → ((j : ℕ) (u : JobView) → get_elem? views j ≡ some u → P u) → P w → (j : ℕ) (u : JobView)
    → get_elem? (views ++ w ∷ []) j ≡ some u → P u
each_snoc P views w all one j u e = ⊎_elim (λ (t : get_elem? views j ≡ some u). all j u t)
    (λ (t : w ≡ u). subst P t one) (at_snoc views w u j e)

each_one : (P : JobView → Type 0) (v : JobView) → P v → (j : ℕ) (u : JobView) → get_elem? (v ∷ []) j ≡ some u → P u
each_one P v p zero u e = subst P (some-injective v u e) p
each_one P v p (suc j) u e = absurd (some-ne-none u (sym e))

module _ {J : Type 0} where
  pub begins : JobsKept {J = J} [] (job_view_with part_count [] [] ∷ [])
  begins = record {
    parts = refl;
    counts = λ x. refl;
    idle = each_one (λ v. v.parts ≡ 0 → (v.dealt ≡ []) × (v.taken ≡ [])) (job_view_with part_count [] [])
        (λ z. (refl, refl));
  }

  pub deals : (port : ℕ) (v : JobView) (t : NumberedJob J) → 0 < v.parts
      → Pushes (JobsKept {J = J}) port v (t ∷ [])
      (λ w. w ≡ job_view_with v.parts (v.dealt ++ job_numbers (t ∷ [])) v.taken)
  deals port v t some_part items views k at = let w : JobView =
      job_view_with v.parts (v.dealt ++ t.number ∷ []) v.taken in (
        w,
        record {
          parts = (let t = total-set parts views port v w at in let p = k.parts in omega arith);
          counts = λ y. (let a = total-set (dealt y) views port v w at in
              let b = total-set (took y) views port v w at in
              let c = k.counts y in
              let d = times-snoc y v.dealt t.number in let e = times-snoc y (job_numbers items) t.number in
              let f = ap (times y) (map-append (λ (t : NumberedJob J). t.number) items (t ∷ [])) in omega arith);
          idle = each_set (λ u. u.parts ≡ 0 → (u.dealt ≡ []) × (u.taken ≡ [])) views port w (λ z. absurd (omega arith))
              (λ j u _ e. k.idle j u e);
        },
        refl,
      )

  pub takes : (port : ℕ) (v : JobView) → 0 < v.parts
      → Takes (JobsKept {J = J}) port v 1 (λ xs w. w ≡ job_view_with v.parts v.dealt (v.taken ++ job_numbers xs))
  takes port v some_part [] items views full few k at = absurd (omega arith)
  takes port v some_part (x ∷ y ∷ xs) items views full few k at = absurd (omega arith)
  takes port v some_part (x ∷ []) items views full few k at = let w : JobView =
      job_view_with v.parts v.dealt (v.taken ++ x.number ∷ []) in (
        w,
        record {
          parts = (let t = total-set parts views port v w at in let p = k.parts in omega arith);
          counts = λ y. (let a = total-set (dealt y) views port v w at in
              let b = total-set (took y) views port v w at in
              let c : total (dealt y) views ≡ total (took y) views +
              (cond (x.number == y) 1 0 + times y (job_numbers items)) = k.counts y in
              let d = times-snoc y v.taken x.number in omega arith);
          idle = each_set (λ u. u.parts ≡ 0 → (u.dealt ≡ []) × (u.taken ≡ [])) views port w (λ z. absurd (omega arith))
              (λ j u _ e. k.idle j u e);
        },
        refl,
      )

  pub finds : (port : ℕ) (v : JobView) → Finds (JobsKept {J = J}) port v
      (v.parts ≡ part_count → (x : ℕ) → times x v.dealt ≡ times x v.taken)
  finds port v views k at whole x = let c = k.counts x in
      let a = total-alone (dealt x) parts views port v at (λ j u e z. ap (times x) (k.idle j u e z).0)
      (k.parts ∙ sym whole) in
      let b = total-alone (took x) parts views port v at (λ j u e z. ap (times x) (k.idle j u e z).1)
      (k.parts ∙ sym whole) in omega arith

  pub forks : (port : ℕ) (v : JobView) → 1 < v.parts
      → Forks (JobsKept {J = J}) port v (job_view_with (v.parts - 1) v.dealt v.taken) (job_view_with 1 [] [])
  forks port v many items views k at = let l : JobView = job_view_with (v.parts - 1) v.dealt v.taken in
      let r : JobView = job_view_with 1 [] [] in let vs : List JobView = set views port l in record {
        parts = (let t = total-set parts views port v l at in let a = total-append parts vs (r ∷ []) in
            let p = k.parts in
            omega arith);
        counts = λ y. (let t = total-set (dealt y) views port v l at in let u = total-set (took y) views port v l at in
            let c = k.counts y in
            let a = total-append (dealt y) vs (r ∷ []) in let b = total-append (took y) vs (r ∷ []) in omega arith);
        idle = each_snoc (λ u. u.parts ≡ 0 → (u.dealt ≡ []) × (u.taken ≡ [])) vs r
            (each_set (λ u. u.parts ≡ 0 → (u.dealt ≡ []) × (u.taken ≡ [])) views port l (λ z. absurd (omega arith))
            (λ j u _ e. k.idle j u e)) (λ z. (refl, refl));
      }

  pub merges : (port : ℕ) (v : JobView) (other : ℕ) (w : JobView) → 0 < v.parts
      → Merges (JobsKept {J = J}) port v other w
      (job_view_with (v.parts + w.parts) (v.dealt ++ w.dealt) (v.taken ++ w.taken)) (job_view_with 0 [] [])
  merges port v other w some_part items views k at apart at' = let b : JobView =
      job_view_with (v.parts + w.parts) (v.dealt ++ w.dealt) (v.taken ++ w.taken) in
      let z : JobView = job_view_with 0 [] [] in let vs : List JobView = set views port b in record {
        parts = (let t = total-set parts views port v b at in let t' = total-set parts vs other w z at' in
            let p = k.parts in omega arith);
        counts = λ y. (let t = total-set (dealt y) views port v b at in let t' = total-set (dealt y) vs other w z at' in
            let a = total-append (λ (i : ℕ). cond (eqb i y) 1 0) v.dealt w.dealt in
            let u = total-set (took y) views port v b at in let u' = total-set (took y) vs other w z at' in
            let a' = total-append (λ (i : ℕ). cond (eqb i y) 1 0) v.taken w.taken in let c = k.counts y in omega arith);
        idle = each_set (λ u. u.parts ≡ 0 → (u.dealt ≡ []) × (u.taken ≡ [])) vs other z (λ _. (refl, refl))
            (λ j u _ e. each_set (λ u. u.parts ≡ 0 → (u.dealt ≡ []) × (u.taken ≡ [])) views port b
            (λ h. absurd (omega arith)) (λ j u _ e. k.idle j u e) j u e);
      }
