-- A node is taken out of its list.
use Rattle.std.proofs.Common.{◌≡◌, ◌≢◌, ◌⊎◌, ◌<◌, ◌≤◌, ℕ, zero, suc, Bool, true, false, cond, arith, refl, ap, sym, ◌∙◌, subst, inl, inr, ⊎_elim}
use Rattle.std.proofs.lemmas.Bool.{cases_eq, cases_lt}
use Rattle.xcc_links.specs.NodeLists.{IsIn, IsLast, IsAfter, Linked, count}

module _ (items : ℕ) (column : ℕ → ℕ) (own : (i : ℕ) → i < items → column i ≡ i) (small : (n : ℕ) → column n < items)
    (shown shown' : ℕ → Bool) (up down up' down' : ℕ → ℕ) (nodes : (n : ℕ) → shown n ≡ true → items ≤ n)
    (linked : Linked items column shown up down) (m : ℕ) (sm : shown m ≡ true)
    (s1 : shown' m ≡ false) (s2 : (k : ℕ) → k ≢ m → shown' k ≡ shown k)
    (d1 : down' (up m) ≡ down m) (d2 : (k : ℕ) → k ≢ up m → down' k ≡ down k)
    (u1 : up' (down m) ≡ up m) (u2 : (k : ℕ) → k ≢ down m → up' k ≡ up k) where
  pub still_shown : (k : ℕ) → shown' k ≡ true → (shown k ≡ true) × (k ≢ m)
  still_shown k e = ⊎_elim (λ (same : k ≡ m). absurd (let f : shown' k ≡ false = ap shown' same ∙ s1 in let bad : true ≡ false = sym e ∙ f in cc)) (λ (ne : k ≢ m). (sym (s2 k ne) ∙ e, ne)) (cases_eq k m)

  pub was_in : (n : ℕ) → IsIn items shown' n → IsIn items shown n × (n ≢ m)
  was_in n h = ⊎_elim (λ (lt : n < items). (inl lt, λ e. let le = nodes m sm in omega (arith, e))) (λ e. (inr (still_shown n e).0, (still_shown n e).1)) h

  pub still_in : (n : ℕ) → IsIn items shown n → n ≢ m → IsIn items shown' n
  still_in n h ne = ⊎_elim (λ (lt : n < items). inl lt) (λ e. inr (s2 n ne ∙ e)) h

  -- the list after n, where the next is not m
  kept_last : (n d : ℕ) → IsLast column shown n d → IsLast column shown' n d
  kept_last n d l = record { own = l.own; none_after = λ k e same. l.none_after k (still_shown k e).0 same }

  kept_after : (n d : ℕ) → d ≢ m → IsAfter column shown n d → IsAfter column shown' n d
  kept_after n d ne l = record {
    shown_there = s2 d ne ∙ l.shown_there;
    same = l.same;
    after = l.after;
    none_between = λ k e same lt. l.none_between k (still_shown k e).0 same lt;
  }

  -- past m
  past_m : (n : ℕ) → IsAfter column shown n m → IsLast column shown m (down m) ⊎ IsAfter column shown m (down m) → IsLast column shown' n (down m) ⊎ IsAfter column shown' n (down m)
  past_m n a h = ⊎_elim
      (λ (l : IsLast column shown m (down m)). inl (record {
        own = l.own ∙ a.same;
        none_after = λ k e same. let w = still_shown k e in let le = l.none_after k w.0 (same ∙ sym a.same) in ⊎_elim (λ (lt : n < k). absurd (w.1 (omega (arith, a.none_between k w.0 same lt)))) (λ (le2 : k ≤ n). le2) (cases_lt n k);
      }))
      (λ (l : IsAfter column shown m (down m)). inr (record {
        shown_there = s2 (down m) (λ e. let lt = l.after in omega (arith, e)) ∙ l.shown_there;
        same = l.same ∙ a.same;
        after = let x = l.after in let y = a.after in omega arith;
        none_between = λ k e same lt. let w = still_shown k e in l.none_between k w.0 (same ∙ sym a.same) (let le = a.none_between k w.0 same lt in let ne = w.1 in omega arith);
      }))
      h

  m_in : IsIn items shown m
  m_in = inr sm

  to_m : IsAfter column shown (up m) m
  to_m = ⊎_elim
      (λ (l : IsLast column shown (up m) (down (up m))). absurd (let e = l.own in let f = linked.forth m m_in in let le = nodes m sm in let lt = small (up m) in omega arith))
      (λ (l : IsAfter column shown (up m) (down (up m))). subst (λ d. IsAfter column shown (up m) d) (linked.forth m m_in) l)
      (linked.next (up m) (linked.before m m_in))

  pub moves : up m ≢ m
  moves e = let lt = to_m.after in omega (arith, e)

  column_down : column (down m) ≡ column m
  column_down = ⊎_elim (λ (l : IsLast column shown m (down m)). ap column l.own ∙ own (column m) (small m)) (λ (l : IsAfter column shown m (down m)). l.same) (linked.next m m_in)

  next' : (n : ℕ) → IsIn items shown' n → IsLast column shown' n (down' n) ⊎ IsAfter column shown' n (down' n)
  next' n h = ⊎_elim
      (λ (e : n ≡ up m). subst (λ k. IsLast column shown' k (down' k) ⊎ IsAfter column shown' k (down' k)) (sym e) (subst (λ d. IsLast column shown' (up m) d ⊎ IsAfter column shown' (up m) d) (sym d1) (past_m (up m) to_m (linked.next m m_in))))
      (λ (ne : n ≢ up m). subst (λ d. IsLast column shown' n d ⊎ IsAfter column shown' n d) (sym (d2 n ne))
      (⊎_elim (λ (l : IsLast column shown n (down n)). inl (kept_last n (down n) l)) (λ (l : IsAfter column shown n (down n)). inr (kept_after n (down n) (λ e. ne (sym (linked.back_up n (was_in n h).0) ∙ ap up e)) l)) (linked.next n (was_in n h).0)))
      (cases_eq n (up m))

  back' : (n : ℕ) → IsIn items shown' n → up' (down' n) ≡ n
  back' n h = ⊎_elim
      (λ (e : n ≡ up m). ap up' (ap down' e ∙ d1) ∙ u1 ∙ sym e)
      (λ (ne : n ≢ up m). let b = linked.back_up n (was_in n h).0 in ap up' (d2 n ne) ∙ u2 (down n) (λ e. (was_in n h).1 (sym b ∙ ap up e ∙ linked.back_up m m_in)) ∙ b)
      (cases_eq n (up m))

  forth' : (n : ℕ) → IsIn items shown' n → down' (up' n) ≡ n
  forth' n h = ⊎_elim
      (λ (e : n ≡ down m). ap down' (ap up' e ∙ u1) ∙ d1 ∙ sym e)
      (λ (ne : n ≢ down m). let b = linked.forth n (was_in n h).0 in ap down' (u2 n ne) ∙ d2 (up n) (λ e. (was_in n h).1 (sym b ∙ ap down e ∙ linked.forth m m_in)) ∙ b)
      (cases_eq n (down m))

  before' : (n : ℕ) → IsIn items shown' n → IsIn items shown' (up' n)
  before' n h = ⊎_elim
      (λ (e : n ≡ down m). subst (IsIn items shown') (sym (ap up' e ∙ u1)) (still_in (up m) (linked.before m m_in) moves))
      (λ (ne : n ≢ down m). subst (IsIn items shown') (sym (u2 n ne)) (still_in (up n) (linked.before n (was_in n h).0) (λ e. ne (sym (linked.forth n (was_in n h).0) ∙ ap down e))))
      (cases_eq n (down m))

  same' : (n : ℕ) → IsIn items shown' n → column (up' n) ≡ column n
  same' n h = ⊎_elim
      (λ (e : n ≡ down m). ap column (ap up' e ∙ u1) ∙ linked.before_same m m_in ∙ sym (ap column e ∙ column_down))
      (λ (ne : n ≢ down m). ap column (u2 n ne) ∙ linked.before_same n (was_in n h).0)
      (cases_eq n (down m))

  pub linked_without : Linked items column shown' up' down'
  linked_without = record { next = next'; back_up = back'; forth = forth'; before = before'; before_same = same' }

-- Counting.
pub count_same : (t t' : ℕ → Bool) (n : ℕ) → ((k : ℕ) → k < n → t' k ≡ t k) → count t' n ≡ count t n
count_same t t' zero same = refl
count_same t t' (suc n) same = let e = same n (omega arith) in let h = count_same t t' n (λ k lt. same k (omega arith)) in rw (e, h)

pub count_less : (t t' : ℕ → Bool) (n m : ℕ) → m < n → t m ≡ true → t' m ≡ false → ((k : ℕ) → k ≢ m → t' k ≡ t k) → suc (count t' n) ≡ count t n
count_less t t' zero m lt there gone same = absurd (omega arith)
count_less t t' (suc n) m lt there gone same = ⊎_elim
    (λ (e : n ≡ m). let h = count_same t t' n (λ k less. same k (omega (arith, e))) in let y : t n ≡ true = ap t e ∙ there in let z : t' n ≡ false = ap t' e ∙ gone in rw (y, z, h))
    (λ (ne : n ≢ m). let h = count_less t t' n m (omega (arith, ne)) there gone same in let e = same n ne in rw (e) (by_cases (t n) (count t' n) (count t n) h))
    (cases_eq n m)
  where
    by_cases : (b : Bool) (x y : ℕ) → suc x ≡ y → suc (cond b (suc x) x) ≡ cond b (suc y) y
    by_cases true x y h = ap suc h
    by_cases false x y h = h
