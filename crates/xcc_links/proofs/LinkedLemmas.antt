-- The links and the sizes stay right where a node is taken out, and are as they were once it is put back.
use Rattle.std.proofs.Common.{◌≡◌, ◌≢◌, ◌<◌, ◌≤◌, ◌+◌, ◌-◌, ◌%◌, ◌^◌, ℕ, zero, suc, Bool, true, false, cond, ◌&&◌, ◌==◌, List, length, length-set, set, get_or, arith, refl, ap, sym, ◌∙◌, inr, ⊎_elim}
use Rattle.std.proofs.lemmas.Bool.{cases_eq}
use Rattle.std.proofs.lemmas.List.{get_or-set_same, get_or-set_other, set-set, set-get_or}
use Rattle.std.proofs.lemmas.Bool.Decides.{eqb_tells}
use Rattle.xcc_links.specs.NodeLists.{IsLast, IsAfter, count, in_list}
use Rattle.xcc_links.specs.Rings.{up_of, down_of, item_of, unlinked, relinked, fewer_at, more_at, hidden_links, shown_links, hidden_sizes, shown_sizes}
use Rattle.xcc_links.specs.NodeTables.{IsNodeTable, AreLinked, AreCounted, Without, hidden}
use Rattle.xcc_links.specs.declared.links.arrays.Link.{Link}
use Rattle.xcc_links.specs.declared.links.tables.Entry.{Entry}
use Rattle.xcc_links.proofs.UnlinkingLemmas.{linked_without, count_same, count_less}
use Rattle.xcc_links.proofs.RingLemmas.{joined_length, joined_down_here, joined_down_there, joined_up_here, joined_up_there, relinked_exact}

and_false : (a : Bool) → a && false ≡ false
and_false true = refl
and_false false = refl

pub some_there : (t : ℕ → Bool) (n k : ℕ) → k < n → t k ≡ true → 1 ≤ count t n
some_there t zero k lt e = absurd (omega arith)
some_there t (suc n) k lt e = ⊎_elim
    (λ (same : k ≡ n). let here : t n ≡ true = ap t (sym same) ∙ e in rw (here) (omega arith))
    (λ (ne : k ≢ n). let h = some_there t n k (omega (arith, ne)) e in more (t n) (count t n) h)
    (cases_eq k n)
  where
    more : (b : Bool) (x : ℕ) → 1 ≤ x → 1 ≤ cond b (suc x) x
    more true x h = omega arith
    more false x h = h

pub count_below : (t : ℕ → Bool) (n : ℕ) → count t n ≤ n
count_below t zero = omega arith
count_below t (suc n) = let h = count_below t n in by (t n) (count t n) h
  where
    by : (b : Bool) (x : ℕ) → x ≤ n → cond b (suc x) x ≤ suc n
    by true x h = omega arith
    by false x h = omega arith

module _ (takable items options : ℕ) (entries : List Entry) (starts : List ℕ) (table : IsNodeTable takable items options entries starts) (shown : ℕ → Bool) (m : ℕ) (links : List Link) (kept : AreLinked items entries shown links) (sm : shown m ≡ true) where
  pub node_in : m < length links
  node_in = let h = kept.high m sm in omega (arith, h, kept.long)

  pub next_in : down_of links m < length links
  next_in = ⊎_elim
      (λ (l : IsLast (item_of entries) shown m (down_of links m)). let e = l.own in let h = table.small m in omega (arith, e, h, kept.own_high, kept.long))
      (λ (l : IsAfter (item_of entries) shown m (down_of links m)). let h = kept.high (down_of links m) l.shown_there in omega (arith, h, kept.long))
      (kept.linked.next m (inr sm))

  pub last_in : up_of links m < length links
  last_in = ⊎_elim
      (λ (lt : up_of links m < items). omega (arith, kept.own_high, kept.long))
      (λ (s : shown (up_of links m) ≡ true). let h = kept.high (up_of links m) s in omega (arith, h, kept.long))
      (kept.linked.before m (inr sm))

  off_up : m ≢ up_of links m
  off_up e =
      let d : down_of links m ≡ m = ap (down_of links) e ∙ kept.linked.forth m (inr sm) in
      ⊎_elim
      (λ (l : IsLast (item_of entries) shown m (down_of links m)). let o = l.own in let h = table.small m in let b = kept.low m sm in omega (arith, d, o, h, b))
      (λ (l : IsAfter (item_of entries) shown m (down_of links m)). let a = l.after in omega (arith, d, a))
      (kept.linked.next m (inr sm))

  off_down : m ≢ down_of links m
  off_down e = off_up (sym (kept.linked.back_up m (inr sm)) ∙ ap (up_of links) (sym e))

  pub kept_without : (shown' : ℕ → Bool) → Without shown m shown' → AreLinked items entries shown' (unlinked links m)
  kept_without shown' less = record {
    long = joined_length links (up_of links m) (down_of links m) (down_of links m) (up_of links m) last_in next_in ∙ kept.long;
    low = λ n e. kept.low n (was n e);
    high = λ n e. kept.high n (was n e);
    own_high = kept.own_high;
    linked = linked_without items (item_of entries) table.own table.small shown shown' (up_of links) (down_of links) (up_of (unlinked links m)) (down_of (unlinked links m)) kept.low kept.linked m sm less.gone less.others
        (joined_down_here links (up_of links m) (down_of links m) (down_of links m) (up_of links m) last_in next_in)
        (joined_down_there links (up_of links m) (down_of links m) (down_of links m) (up_of links m) last_in next_in)
        (joined_up_here links (up_of links m) (down_of links m) (down_of links m) (up_of links m) last_in next_in)
        (joined_up_there links (up_of links m) (down_of links m) (down_of links m) (up_of links m) last_in next_in);
  }
    where
      was : (n : ℕ) → shown' n ≡ true → shown n ≡ true
      was n e = ⊎_elim (λ (same : n ≡ m). absurd (let f : shown' n ≡ false = ap shown' same ∙ less.gone in let bad : true ≡ false = sym e ∙ f in cc)) (λ (ne : n ≢ m). sym (less.others n ne) ∙ e) (cases_eq n m)

  pub unlinked_back : relinked (unlinked links m) m ≡ links
  unlinked_back = relinked_exact links m last_in next_in off_up off_down (kept.linked.forth m (inr sm)) (kept.linked.back_up m (inr sm))

module _ (takable items options : ℕ) (entries : List Entry) (starts : List ℕ) (table : IsNodeTable takable items options entries starts) (shown : ℕ → Bool) (m : ℕ) (sizes : List ℕ) (counted : AreCounted items entries shown sizes) (sm : shown m ≡ true) (lm : m < length entries) where
  pub own_in : item_of entries m < length sizes
  own_in = let h = table.small m in omega (arith, h, counted.long)

  in_own : in_list (item_of entries) shown (item_of entries m) m ≡ true
  in_own = ⊎_elim (λ w. rw (sm, w.0) refl) (λ w. absurd (w.1 refl)) (eqb_tells (item_of entries m) (item_of entries m))

  pub size_some : 1 ≤ get_or sizes (item_of entries m) 0
  size_some =
      let t = in_list (item_of entries) shown (item_of entries m) in
      let h = some_there t (length entries) m lm in_own in
      omega (arith, counted.sized (item_of entries m) (table.small m), h)

  pub sizes_back : more_at (fewer_at sizes (item_of entries m)) (item_of entries m) ≡ sizes
  sizes_back =
      let i = item_of entries m in
      let x = get_or sizes i 0 in
      let s = size_some in
      let f = table.few in
      let b = count_below (in_list (item_of entries) shown i) (length entries) in
      let lt : x < 2 ^ 32 = omega (arith, b, f, counted.sized i (table.small m)) in
      let e : get_or (set sizes i (x - 1)) i 0 ≡ x - 1 = get_or-set_same sizes i (x - 1) 0 own_in in
      let v : (get_or (set sizes i (x - 1)) i 0 + 1) % 2 ^ 32 ≡ x = omega (arith, e, lt, s) in
      set-set sizes i (x - 1) _ ∙ ap (set sizes i) v ∙ set-get_or sizes i 0

  pub counted_without : (shown' : ℕ → Bool) → Without shown m shown' → AreCounted items entries shown' (fewer_at sizes (item_of entries m))
  counted_without shown' less = record {
    long = length-set sizes (item_of entries m) _ ∙ counted.long;
    sized = λ i lt. ⊎_elim
        (λ (e : i ≡ item_of entries m). here i e)
        (λ (ne : i ≢ item_of entries m). get_or-set_other sizes (item_of entries m) i _ 0 ne ∙ counted.sized i lt ∙ sym (count_same (in_list (item_of entries) shown i) (in_list (item_of entries) shown' i) (length entries) (λ k _. other i k ne)))
        (cases_eq i (item_of entries m));
  }
    where
      other : (i k : ℕ) → i ≢ item_of entries m → in_list (item_of entries) shown' i k ≡ in_list (item_of entries) shown i k
      other i k ne = ⊎_elim
          (λ (e : k ≡ m). ⊎_elim (λ w. absurd (ne (sym w.1 ∙ ap (item_of entries) e))) (λ w. rw (w.0) (and_false (shown' k) ∙ sym (and_false (shown k)))) (eqb_tells (item_of entries k) i))
          (λ (e : k ≢ m). ap (λ b. b && (item_of entries k == i)) (less.others k e))
          (cases_eq k m)

      here : (i : ℕ) → i ≡ item_of entries m → get_or (fewer_at sizes (item_of entries m)) i 0 ≡ count (in_list (item_of entries) shown' i) (length entries)
      here i e =
          let own_test = in_list (item_of entries) shown (item_of entries m) in
          let new_test = in_list (item_of entries) shown' (item_of entries m) in
          let c : suc (count new_test (length entries)) ≡ count own_test (length entries) = count_less own_test new_test (length entries) m lm in_own (ap (λ b. b && (item_of entries m == item_of entries m)) less.gone) (λ k ne. ap (λ b. b && (item_of entries k == item_of entries m)) (less.others k ne)) in
          let w = get_or-set_same sizes (item_of entries m) (get_or sizes (item_of entries m) 0 - 1) 0 own_in in
          let s : get_or (fewer_at sizes (item_of entries m)) (item_of entries m) 0 ≡ count new_test (length entries) = omega (arith, c, w, counted.sized (item_of entries m) (table.small m)) in
          ap (λ k. get_or (fewer_at sizes (item_of entries m)) k 0) e ∙ s ∙ ap (λ n. count (in_list (item_of entries) shown' n) (length entries)) (sym e)

-- Nodes hidden one after another.
pub hidden_still : (shown : ℕ → Bool) (a n k : ℕ) → a + n ≤ k → hidden shown a n k ≡ shown k
hidden_still shown a zero k le = refl
hidden_still shown a (suc n) k le = ⊎_elim (λ w. absurd (omega (arith, w.1))) (λ w. rw (w.0) (hidden_still shown a n k (omega arith))) (eqb_tells k (a + n))

pub hidden_low : (shown : ℕ → Bool) (a n k : ℕ) → k < a → hidden shown a n k ≡ shown k
hidden_low shown a zero k lt = refl
hidden_low shown a (suc n) k lt = ⊎_elim (λ w. absurd (omega (arith, w.1))) (λ w. rw (w.0) (hidden_low shown a n k lt)) (eqb_tells k (a + n))

pub hidden_in : (shown : ℕ → Bool) (a n k : ℕ) → a ≤ k → k < a + n → hidden shown a n k ≡ false
hidden_in shown a zero k le lt = absurd (omega arith)
hidden_in shown a (suc n) k le lt = ⊎_elim (λ w. rw (w.0) refl) (λ w. rw (w.0) (hidden_in shown a n k le (let ne = w.1 in omega arith))) (eqb_tells k (a + n))

pub hidden_step : (shown : ℕ → Bool) (a n : ℕ) → Without (hidden shown a n) (a + n) (hidden shown a (suc n))
hidden_step shown a n = record {
  gone = ⊎_elim (λ w. rw (w.0) refl) (λ w. absurd (w.1 refl)) (eqb_tells (a + n) (a + n));
  others = λ k ne. ⊎_elim (λ w. absurd (ne w.1)) (λ w. rw (w.0) refl) (eqb_tells k (a + n));
}

module _ (takable items options : ℕ) (entries : List Entry) (starts : List ℕ) (table : IsNodeTable takable items options entries starts) (shown : ℕ → Bool) (links : List Link) (sizes : List ℕ) (kept : AreLinked items entries shown links) (counted : AreCounted items entries shown sizes) (a w : ℕ) (there : (k : ℕ) → a ≤ k → k < a + w → shown k ≡ true) where
  still : (n : ℕ) → n < w → hidden shown a n (a + n) ≡ true
  still n lt = hidden_still shown a n (a + n) (omega arith) ∙ there (a + n) (omega arith) (omega arith)

  pub stage : (n : ℕ) → n ≤ w → AreLinked items entries (hidden shown a n) (hidden_links links a n)
  stage zero le = kept
  stage (suc n) le = kept_without takable items options entries starts table (hidden shown a n) (a + n) (hidden_links links a n) (stage n (omega arith)) (still n (omega arith)) (hidden shown a (suc n)) (hidden_step shown a n)

  high : (n : ℕ) → n < w → a + n < length entries
  high n lt = kept.high (a + n) (there (a + n) (omega arith) (omega arith))

  pub stage_sizes : (n : ℕ) → n ≤ w → AreCounted items entries (hidden shown a n) (hidden_sizes entries sizes a n)
  stage_sizes zero le = counted
  stage_sizes (suc n) le = counted_without takable items options entries starts table (hidden shown a n) (a + n) (hidden_sizes entries sizes a n) (stage_sizes n (omega arith)) (still n (omega arith)) (high n (omega arith)) (hidden shown a (suc n)) (hidden_step shown a n)

  pub links_back : (n : ℕ) → n ≤ w → shown_links (hidden_links links a n) a n ≡ links
  links_back zero le = refl
  links_back (suc n) le = ap (λ l. shown_links l a n) (unlinked_back takable items options entries starts table (hidden shown a n) (a + n) (hidden_links links a n) (stage n (omega arith)) (still n (omega arith))) ∙ links_back n (omega arith)

  pub all_sizes_back : (n : ℕ) → n ≤ w → shown_sizes entries (hidden_sizes entries sizes a n) a n ≡ sizes
  all_sizes_back zero le = refl
  all_sizes_back (suc n) le = ap (λ l. shown_sizes entries l a n) (sizes_back takable items options entries starts table (hidden shown a n) (a + n) (hidden_sizes entries sizes a n) (stage_sizes n (omega arith)) (still n (omega arith)) (high n (omega arith))) ∙ all_sizes_back n (omega arith)

  -- what taking out the next node needs
  module _ (n : ℕ) (lt : n < w) where
    pub can_node : a + n < length (hidden_links links a n)
    can_node = node_in takable items options entries starts table (hidden shown a n) (a + n) (hidden_links links a n) (stage n (omega arith)) (still n lt)

    pub can_item : item_of entries (a + n) < length (hidden_sizes entries sizes a n)
    can_item = own_in takable items options entries starts table (hidden shown a n) (a + n) (hidden_sizes entries sizes a n) (stage_sizes n (omega arith)) (still n lt) (high n lt)

    pub can_size : 1 ≤ get_or (hidden_sizes entries sizes a n) (item_of entries (a + n)) 0
    can_size = size_some takable items options entries starts table (hidden shown a n) (a + n) (hidden_sizes entries sizes a n) (stage_sizes n (omega arith)) (still n lt) (high n lt)
