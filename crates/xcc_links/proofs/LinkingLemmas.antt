-- A node is put last into its list.
use Rattle.std.proofs.Common.{◌≡◌, ◌≢◌, ◌⊎◌, ◌<◌, ◌≤◌, ℕ, Bool, true, arith, ap, sym, ◌∙◌, subst, inl, inr, ⊎_elim}
use Rattle.std.proofs.lemmas.Bool.{cases_eq}
use Rattle.xcc_links.specs.NodeLists.{IsIn, IsLast, IsAfter, Linked}

module _ (items : ℕ) (column : ℕ → ℕ) (own : (i : ℕ) → i < items → column i ≡ i) (small : (n : ℕ) → column n < items)
    (shown shown' : ℕ → Bool) (up down up' down' : ℕ → ℕ) (nodes : (n : ℕ) → shown n ≡ true → items ≤ n)
    (linked : Linked items column shown up down) (m : ℕ) (from : items ≤ m) (below : (n : ℕ) → shown n ≡ true → n < m)
    (s1 : shown' m ≡ true) (s2 : (k : ℕ) → k ≢ m → shown' k ≡ shown k)
    (dm : down' m ≡ column m) (d1 : down' (up (column m)) ≡ m) (d2 : (k : ℕ) → k ≢ m → k ≢ up (column m) → down' k ≡ down k)
    (um : up' m ≡ up (column m)) (u1 : up' (column m) ≡ m) (u2 : (k : ℕ) → k ≢ m → k ≢ column m → up' k ≡ up k) where
  was : (k : ℕ) → k ≢ m → shown' k ≡ true → shown k ≡ true
  was k ne e = sym (s2 k ne) ∙ e

  now_in : (n : ℕ) → IsIn items shown n → IsIn items shown' n
  now_in n h = ⊎_elim (λ (lt : n < items). inl lt) (λ (e : shown n ≡ true). inr (s2 n (λ same. let lt = below n e in omega (arith, lt, same)) ∙ e)) h

  was_in : (n : ℕ) → n ≢ m → IsIn items shown' n → IsIn items shown n
  was_in n ne h = ⊎_elim (λ (lt : n < items). inl lt) (λ (e : shown' n ≡ true). inr (was n ne e)) h

  in_below : (n : ℕ) → IsIn items shown n → n < m
  in_below n h = ⊎_elim (λ (lt : n < items). omega (arith, from)) (λ (e : shown n ≡ true). below n e) h

  item_in : IsIn items shown (column m)
  item_in = inl (small m)

  last_in : IsIn items shown (up (column m))
  last_in = linked.before (column m) item_in

  last_column : column (up (column m)) ≡ column m
  last_column = linked.before_same (column m) item_in ∙ own (column m) (small m)

  -- nothing is shown after the last
  last_none : (k : ℕ) → shown k ≡ true → column k ≡ column m → k ≤ up (column m)
  last_none k e same = ⊎_elim
      (λ (l : IsLast column shown (up (column m)) (down (up (column m)))). l.none_after k e (same ∙ sym last_column))
      (λ (l : IsAfter column shown (up (column m)) (down (up (column m)))). absurd (let h = nodes (down (up (column m))) l.shown_there in let f = linked.forth (column m) item_in in let s = small m in omega (arith, h, f, s)))
      (linked.next (up (column m)) last_in)

  next' : (n : ℕ) → IsIn items shown' n → IsLast column shown' n (down' n) ⊎ IsAfter column shown' n (down' n)
  next' n h = ⊎_elim
      (λ (e : n ≡ m). inl (record {
        own = ap down' e ∙ dm ∙ sym (ap column e);
        none_after = λ k s same. ⊎_elim (λ (w : k ≡ m). omega (arith, w, e)) (λ (ne : k ≢ m). let lt = below k (was k ne s) in omega (arith, lt, e)) (cases_eq k m);
      }))
      (λ (ne : n ≢ m). ⊎_elim
      (λ (e : n ≡ up (column m)). subst (λ d. IsLast column shown' n d ⊎ IsAfter column shown' n d) (sym (ap down' e ∙ d1)) (inr (record {
        shown_there = s1;
        same = sym (ap column e ∙ last_column);
        after = in_below n (was_in n ne h);
        none_between = λ k s same lt. ⊎_elim (λ (w : k ≡ m). omega (arith, w)) (λ (off : k ≢ m). absurd (let l = last_none k (was k off s) (same ∙ ap column e ∙ last_column) in omega (arith, l, lt, e))) (cases_eq k m);
      })))
      (λ (off : n ≢ up (column m)). subst (λ d. IsLast column shown' n d ⊎ IsAfter column shown' n d) (sym (d2 n ne off)) (⊎_elim
      (λ (l : IsLast column shown n (down n)). inl (record {
        own = l.own;
        none_after = λ k s same. ⊎_elim
            (λ (w : k ≡ m). absurd (off (sym (linked.back_up n (was_in n ne h)) ∙ ap up (l.own ∙ sym same ∙ ap column w))))
            (λ (ne2 : k ≢ m). l.none_after k (was k ne2 s) same)
            (cases_eq k m);
      }))
      (λ (l : IsAfter column shown n (down n)). inr (record {
        shown_there = s2 (down n) (λ w. let lt = below (down n) l.shown_there in omega (arith, lt, w)) ∙ l.shown_there;
        same = l.same;
        after = l.after;
        none_between = λ k s same lt. ⊎_elim
            (λ (w : k ≡ m). let b = below (down n) l.shown_there in omega (arith, b, w))
            (λ (ne2 : k ≢ m). l.none_between k (was k ne2 s) same lt)
            (cases_eq k m);
      }))
      (linked.next n (was_in n ne h))))
      (cases_eq n (up (column m))))
      (cases_eq n m)

  down_in : (n : ℕ) → IsIn items shown n → down n < m
  down_in n h = ⊎_elim
      (λ (l : IsLast column shown n (down n)). let o = l.own in let s = small n in omega (arith, o, s, from))
      (λ (l : IsAfter column shown n (down n)). below (down n) l.shown_there)
      (linked.next n h)

  back' : (n : ℕ) → IsIn items shown' n → up' (down' n) ≡ n
  back' n h = ⊎_elim
      (λ (e : n ≡ m). ap up' (ap down' e ∙ dm) ∙ u1 ∙ sym e)
      (λ (ne : n ≢ m). ⊎_elim
      (λ (e : n ≡ up (column m)). ap up' (ap down' e ∙ d1) ∙ um ∙ sym e)
      (λ (off : n ≢ up (column m)).
      let b = linked.back_up n (was_in n ne h) in
      let d = down_in n (was_in n ne h) in
      ap up' (d2 n ne off) ∙ u2 (down n) (λ w. omega (arith, w, d)) (λ w. off (sym b ∙ ap up w)) ∙ b)
      (cases_eq n (up (column m))))
      (cases_eq n m)

  forth' : (n : ℕ) → IsIn items shown' n → down' (up' n) ≡ n
  forth' n h = ⊎_elim
      (λ (e : n ≡ m). ap down' (ap up' e ∙ um) ∙ d1 ∙ sym e)
      (λ (ne : n ≢ m). ⊎_elim
      (λ (e : n ≡ column m). ap down' (ap up' e ∙ u1) ∙ dm ∙ sym e)
      (λ (off : n ≢ column m).
      let b = linked.forth n (was_in n ne h) in
      let d = in_below (up n) (linked.before n (was_in n ne h)) in
      ap down' (u2 n ne off) ∙ d2 (up n) (λ w. omega (arith, w, d)) (λ w. off (sym b ∙ ap down w ∙ linked.forth (column m) item_in)) ∙ b)
      (cases_eq n (column m)))
      (cases_eq n m)

  before' : (n : ℕ) → IsIn items shown' n → IsIn items shown' (up' n)
  before' n h = ⊎_elim
      (λ (e : n ≡ m). subst (IsIn items shown') (sym (ap up' e ∙ um)) (now_in (up (column m)) last_in))
      (λ (ne : n ≢ m). ⊎_elim
      (λ (e : n ≡ column m). subst (IsIn items shown') (sym (ap up' e ∙ u1)) (inr s1))
      (λ (off : n ≢ column m). subst (IsIn items shown') (sym (u2 n ne off)) (now_in (up n) (linked.before n (was_in n ne h))))
      (cases_eq n (column m)))
      (cases_eq n m)

  same' : (n : ℕ) → IsIn items shown' n → column (up' n) ≡ column n
  same' n h = ⊎_elim
      (λ (e : n ≡ m). ap column (ap up' e ∙ um) ∙ last_column ∙ sym (ap column e))
      (λ (ne : n ≢ m). ⊎_elim
      (λ (e : n ≡ column m). ap column (ap up' e ∙ u1) ∙ sym (own (column m) (small m)) ∙ sym (ap column e))
      (λ (off : n ≢ column m). ap column (u2 n ne off) ∙ linked.before_same n (was_in n ne h))
      (cases_eq n (column m)))
      (cases_eq n m)

  pub linked_with : Linked items column shown' up' down'
  linked_with = record { next = next'; back_up = back'; forth = forth'; before = before'; before_same = same' }
