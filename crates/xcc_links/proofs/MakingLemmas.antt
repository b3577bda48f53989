-- The arrays are made node by node.
use Rattle.std.proofs.Common.{true≢false, ◌≡◌, ◌≢◌, ◌⊎◌, ◌<◌, ◌≤◌, ◌+◌, ◌&&◌, ◌==◌, not, nat_lt, ℕ, zero, suc, Bool, true, false, List, [], ◌∷◌, ◌++◌, length, length-set, length-append, replicate, set, get_or, arith, refl, ap, sym, ◌∙◌, subst, inl, ⊎_elim}
use Rattle.std.proofs.lemmas.Bool.{cases_eq, and_parts, and_from, not-true, not_from_false, lt-ltb, le-ltb, ltb-true, ltb-false, false_from_ne_true}
use Rattle.std.proofs.lemmas.Bool.Decides.{eqb_tells}
use Rattle.std.proofs.lemmas.List.{get_or-set_same, get_or-set_other, get_or_append_left, get_or_push, get_or-replicate, length-replicate}
use Rattle.xcc_links.specs.NodeLists.{count, in_list}
use Rattle.xcc_links.specs.Rings.{AreAlone, Inside, no_link, up_of, down_of, item_of, joined, relinked, more_at}
use Rattle.xcc_links.specs.NodeTables.{IsNodeTable, AreRight, AreLinked, AreCounted, shown_by}
use Rattle.xcc_links.proofs.MakingWords.{first_nodes, IsBuilt}
use Rattle.xcc_links.specs.declared.links.arrays.Link.{Link}
use Rattle.xcc_links.specs.declared.links.tables.Entry.{Entry}
use Rattle.xcc_links.proofs.UnlinkingLemmas.{count_same, count_less}
use Rattle.xcc_links.proofs.LinkedLemmas.{count_below}
use Rattle.xcc_links.proofs.RingLemmas.{part_here, part_there, joined_length, joined_inside, joined_down_here, joined_down_there, joined_up_here, joined_up_there}
use Rattle.xcc_links.proofs.HidingLemmas.{shown_true, shown_parts, both_at}
use Rattle.xcc_links.proofs.LinkingLemmas.{linked_with}

same_tests : (a b : Bool) → (a ≡ true → b ≡ true) → (b ≡ true → a ≡ true) → a ≡ b
same_tests true b f g = sym (f refl)
same_tests false true f g = g refl
same_tests false false f g = refl

pub first_true : (items n k : ℕ) → items ≤ k → k < n → first_nodes items n k ≡ true
unfolding first_nodes
first_true items n k le lt = and_from (not (nat_lt k items)) (nat_lt k n) (not_from_false (nat_lt k items) (le-ltb k items le)) (lt-ltb k n lt)

pub first_parts : (items n k : ℕ) → first_nodes items n k ≡ true → (items ≤ k) × (k < n)
unfolding first_nodes
first_parts items n k e = let p = and_parts (not (nat_lt k items)) (nat_lt k n) e in (ltb-false k items (not-true (nat_lt k items) p.0), ltb-true k n p.1)

pub first_other : (items m k : ℕ) → k ≢ m → first_nodes items (m + 1) k ≡ first_nodes items m k
first_other items m k ne = same_tests (first_nodes items (m + 1) k) (first_nodes items m k)
    (λ e. let p = first_parts items (m + 1) k e in let x = p.1 in first_true items m k p.0 (omega (arith, x, ne)))
    (λ e. let p = first_parts items m k e in let x = p.1 in first_true items (m + 1) k p.0 (omega (arith, x)))

pub alone_more : (links : List Link) (n : ℕ) (links' : List Link) → links' ≡ links ++ (record { up = n; down = n }) ∷ [] → AreAlone links n → AreAlone links' (n + 1)
alone_more links n links' e a = subst (λ l. AreAlone l (n + 1)) (sym e) (record {
  long = length-append links ((record { up = n; down = n }) ∷ []) ∙ ap (λ k. k + 1) a.long;
  up = λ k lt. at (λ (l : Link). l.up) refl a.up k lt;
  down = λ k lt. at (λ (l : Link). l.down) refl a.down k lt;
})
  where
    x : Link
    x = record { up = n; down = n }

    at : (f : Link → ℕ) → f (record { up = n; down = n }) ≡ n → ((k : ℕ) → k < n → f (get_or links k no_link) ≡ k) → (k : ℕ) → k < n + 1 → f (get_or (links ++ (record { up = n; down = n }) ∷ []) k no_link) ≡ k
    at f here h k lt = ⊎_elim
        (λ (same : k ≡ n). ap f (get_or_push links (record { up = n; down = n }) no_link k (omega (arith, a.long, same))) ∙ here ∙ sym same)
        (λ (ne : k ≢ n). let inner : k < length links = omega (arith, a.long, lt, ne) in ap f (get_or_append_left links ((record { up = n; down = n }) ∷ []) no_link k inner) ∙ h k (omega (arith, lt, ne)))
        (cases_eq k n)

module _ (takable items options : ℕ) (entries : List Entry) (starts : List ℕ) (table : IsNodeTable takable items options entries starts) where
  pub items_in : items ≤ length entries
  items_in = let e = table.starts_long in let h = table.runs.high 0 (omega (arith, e)) in let l = table.runs.low 0 (omega (arith, e)) in omega (arith, h, l)

  none_first : (k : ℕ) → first_nodes items items k ≡ true → ⊥
  none_first k e = let p = first_parts items items k e in let x = p.0 in let y = p.1 in omega (arith, x, y)

  count_none : (t : ℕ → Bool) (n : ℕ) → ((k : ℕ) → t k ≡ true → ⊥) → count t n ≡ 0
  count_none t zero never = refl
  count_none t (suc n) never = let e = false_from_ne_true (t n) (never n) in rw (e) (count_none t n never)

  pub built_first : (links : List Link) (sizes : List ℕ) → AreAlone links (length entries) → sizes ≡ replicate items 0 → IsBuilt items entries links sizes items
  built_first links sizes a z = record {
    from = omega arith;
    to = items_in;
    fits = record {
      long = a.long;
      sizes_long = ap length z ∙ length-replicate items 0;
      inside = record { up = λ k lt. let e = a.up k (omega (arith, lt, a.long)) in omega (arith, e, lt); down = λ k lt. let e = a.down k (omega (arith, lt, a.long)) in omega (arith, e, lt) };
    };
    kept = record {
      long = a.long;
      low = λ n e. absurd (none_first n e);
      high = λ n e. absurd (none_first n e);
      own_high = items_in;
      linked = record {
        next = λ n h. inl (record { own = a.down n (low n h) ∙ sym (table.own n (items_of n h)); none_after = λ k e same. absurd (none_first k e) });
        back_up = λ n h. let e = a.down n (low n h) in ap (up_of links) e ∙ a.up n (low n h);
        forth = λ n h. let e = a.up n (low n h) in ap (down_of links) e ∙ a.down n (low n h);
        before = λ n h. inl (let e = a.up n (low n h) in let lt = items_of n h in omega (arith, e, lt));
        before_same = λ n h. ap (item_of entries) (a.up n (low n h));
      };
    };
    counted = record {
      long = ap length z ∙ length-replicate items 0;
      sized = λ i lt. ap (λ s. get_or s i 0) z ∙ get_or-replicate items i 0 0 lt ∙ sym (count_none (in_list (item_of entries) (first_nodes items items) i) (length entries) (λ k e. none_first k (and_parts (first_nodes items items k) (item_of entries k == i) e).0));
    };
  }
    where
      items_of : (n : ℕ) → (n < items) ⊎ (first_nodes items items n ≡ true) → n < items
      items_of n h = ⊎_elim (λ (lt : n < items). lt) (λ (e : first_nodes items items n ≡ true). absurd (none_first n e)) h

      low : (n : ℕ) → (n < items) ⊎ (first_nodes items items n ≡ true) → n < length entries
      low n h = let lt = items_of n h in let le = items_in in omega (arith, lt, le)

  -- the next node
  module _ (links : List Link) (sizes : List ℕ) (m : ℕ) (b : IsBuilt items entries links sizes m) (lt : m < length entries) where
    pub at_in : m < length links
    at_in = omega (arith, b.fits.long, lt)

    pub item_below : item_of entries m < length links
    item_below = let s = table.small m in omega (arith, b.fits.long, b.kept.own_high, s)

    pub item_sized : item_of entries m < length sizes
    item_sized = let s = table.small m in omega (arith, b.fits.sizes_long, s)

    last_below : up_of links (item_of entries m) < m
    last_below = ⊎_elim (λ (l : up_of links (item_of entries m) < items). omega (arith, b.from)) (λ (e : first_nodes items m (up_of links (item_of entries m)) ≡ true). (first_parts items m (up_of links (item_of entries m)) e).1) (b.kept.linked.before (item_of entries m) (inl (table.small m)))

    module _ (l0 : List Link) (w : l0 ≡ set links m (record { up = up_of links (item_of entries m); down = item_of entries m })) where
      long0 : length l0 ≡ length links
      long0 = ap length w ∙ length-set links m _

      up_here : up_of l0 m ≡ up_of links (item_of entries m)
      up_here = ap (λ l. up_of l m) w ∙ part_here (λ (l : Link). l.up) links m _ at_in

      down_here : down_of l0 m ≡ item_of entries m
      down_here = ap (λ l. down_of l m) w ∙ part_here (λ (l : Link). l.down) links m _ at_in

      up_there : (k : ℕ) → k ≢ m → up_of l0 k ≡ up_of links k
      up_there k ne = ap (λ l. up_of l k) w ∙ part_there (λ (l : Link). l.up) links m _ at_in k ne

      down_there : (k : ℕ) → k ≢ m → down_of l0 k ≡ down_of links k
      down_there k ne = ap (λ l. down_of l k) w ∙ part_there (λ (l : Link). l.down) links m _ at_in k ne

      iu : up_of l0 m < length l0
      iu = let l = last_below in omega (arith, l, up_here, long0, at_in)

      id : down_of l0 m < length l0
      id = let l = item_below in omega (arith, l, down_here, long0)

      pub inside0 : Inside l0
      inside0 = record {
        up = λ k kt. ⊎_elim (λ (e : k ≡ m). let x : up_of l0 k ≡ up_of l0 m = ap (up_of l0) e in omega (arith, x, iu)) (λ (ne : k ≢ m). let x = up_there k ne in let h = b.fits.inside.up k (omega (arith, kt, long0)) in omega (arith, x, h, long0)) (cases_eq k m);
        down = λ k kt. ⊎_elim (λ (e : k ≡ m). let x : down_of l0 k ≡ down_of l0 m = ap (down_of l0) e in omega (arith, x, id)) (λ (ne : k ≢ m). let x = down_there k ne in let h = b.fits.inside.down k (omega (arith, kt, long0)) in omega (arith, x, h, long0)) (cases_eq k m);
      }

      pub node_in0 : m < length l0
      node_in0 = omega (arith, long0, at_in)

      l1 : List Link
      unfolding joined
      l1 = relinked l0 m

      pub kept_with : AreLinked items entries (first_nodes items (m + 1)) (relinked l0 m)
      kept_with = record {
        long = joined_length l0 (up_of l0 m) (down_of l0 m) m m iu id ∙ long0 ∙ b.fits.long;
        low = λ n e. (first_parts items (m + 1) n e).0;
        high = λ n e. let p = first_parts items (m + 1) n e in let x = p.1 in omega (arith, x, lt);
        own_high = b.kept.own_high;
        linked = linked_with items (item_of entries) table.own table.small (first_nodes items m) (first_nodes items (m + 1)) (up_of links) (down_of links) (up_of (relinked l0 m)) (down_of (relinked l0 m))
            b.kept.low b.kept.linked m b.from (λ n e. (first_parts items m n e).1)
            (first_true items (m + 1) m b.from (omega arith)) (first_other items m)
            (joined_down_there l0 (up_of l0 m) (down_of l0 m) m m iu id m (λ e. let l = last_below in omega (arith, e, up_here, l)) ∙ down_here)
            (ap (down_of (relinked l0 m)) (sym up_here) ∙ joined_down_here l0 (up_of l0 m) (down_of l0 m) m m iu id)
            (λ k ne off. joined_down_there l0 (up_of l0 m) (down_of l0 m) m m iu id k (λ e. off (e ∙ up_here)) ∙ down_there k ne)
            (joined_up_there l0 (up_of l0 m) (down_of l0 m) m m iu id m (λ e. let s = table.small m in let f = b.from in omega (arith, e, down_here, s, f)) ∙ up_here)
            (ap (up_of (relinked l0 m)) (sym down_here) ∙ joined_up_here l0 (up_of l0 m) (down_of l0 m) m m iu id)
            (λ k ne off. joined_up_there l0 (up_of l0 m) (down_of l0 m) m m iu id k (λ e. off (e ∙ down_here)) ∙ up_there k ne);
      }

      pub counted_with : AreCounted items entries (first_nodes items (m + 1)) (more_at sizes (item_of entries m))
      counted_with = record {
        long = length-set sizes (item_of entries m) _ ∙ b.counted.long;
        sized = λ i il. ⊎_elim
            (λ (e : i ≡ item_of entries m). subst (λ j. get_or (more_at sizes (item_of entries m)) j 0 ≡ count (in_list (item_of entries) (first_nodes items (m + 1)) j) (length entries)) (sym e) here)
            (λ (ne : i ≢ item_of entries m). get_or-set_other sizes (item_of entries m) i _ 0 ne ∙ b.counted.sized i il ∙ count_same (in_list (item_of entries) (first_nodes items (m + 1)) i) (in_list (item_of entries) (first_nodes items m) i) (length entries) (λ k _. other i ne k))
            (cases_eq i (item_of entries m));
      }
        where
          and_no : (a : Bool) → a && false ≡ false
          and_no true = refl
          and_no false = refl

          other : (i : ℕ) → i ≢ item_of entries m → (k : ℕ) → in_list (item_of entries) (first_nodes items m) i k ≡ in_list (item_of entries) (first_nodes items (m + 1)) i k
          other i ne k = ⊎_elim
              (λ (e : k ≡ m). ⊎_elim (λ v. absurd (ne (sym v.1 ∙ ap (item_of entries) e))) (λ v. rw (v.0) (and_no (first_nodes items m k) ∙ sym (and_no (first_nodes items (m + 1) k)))) (eqb_tells (item_of entries k) i))
              (λ (off : k ≢ m). ap (λ x. x && (item_of entries k == i)) (sym (first_other items m k off)))
              (cases_eq k m)

          here : get_or (more_at sizes (item_of entries m)) (item_of entries m) 0 ≡ count (in_list (item_of entries) (first_nodes items (m + 1)) (item_of entries m)) (length entries)
          here =
              let i = item_of entries m in
              let new_test = in_list (item_of entries) (first_nodes items (m + 1)) i in
              let old_test = in_list (item_of entries) (first_nodes items m) i in
              let t : (item_of entries m == i) ≡ true = ⊎_elim (λ v. v.0) (λ v. absurd (v.1 refl)) (eqb_tells (item_of entries m) i) in
              let gone : first_nodes items m m ≡ false = false_from_ne_true (first_nodes items m m) (λ e. let p = first_parts items m m e in let x = p.1 in omega (arith, x)) in
              let c : suc (count old_test (length entries)) ≡ count new_test (length entries) = count_less new_test old_test (length entries) m lt
              (and_from (first_nodes items (m + 1) m) (item_of entries m == i) (first_true items (m + 1) m b.from (omega arith)) t)
              (ap (λ x. x && (item_of entries m == i)) gone)
              (λ k ne. ap (λ x. x && (item_of entries k == i)) (sym (first_other items m k ne))) in
              let most = count_below new_test (length entries) in
              let few = table.few in
              let s = b.counted.sized i (table.small m) in
              get_or-set_same sizes i _ 0 item_sized ∙ omega (arith, c, most, few, s)

      pub built_more : IsBuilt items entries (relinked l0 m) (more_at sizes (item_of entries m)) (m + 1)
      built_more = record {
        from = omega (arith, b.from);
        to = omega (arith, lt);
        fits = record {
          long = joined_length l0 (up_of l0 m) (down_of l0 m) m m iu id ∙ long0 ∙ b.fits.long;
          sizes_long = length-set sizes (item_of entries m) _ ∙ b.fits.sizes_long;
          inside = joined_inside l0 (up_of l0 m) (down_of l0 m) m m iu id node_in0 node_in0 inside0;
        };
        kept = kept_with;
        counted = counted_with;
      }

  -- all nodes are there
  pub built_right : (links : List Link) (sizes : List ℕ) (n : ℕ) → n ≡ length entries → IsBuilt items entries links sizes n → AreRight items entries starts links sizes []
  built_right links sizes n e b = record {
    fits = b.fits;
    options = λ o h. absurd (true≢false (sym h));
    kept = subst (λ s. AreLinked items entries s links) all b.kept;
    counted = subst (λ s. AreCounted items entries s sizes) all b.counted;
  }
    where
      all : first_nodes items n ≡ shown_by items entries []
      all = both_at (first_nodes items n) (shown_by items entries []) (λ k. same_tests (first_nodes items n k) (shown_by items entries [] k)
          (λ h. let p = first_parts items n k h in let x = p.1 in shown_true items entries [] k p.0 (omega (arith, x, e)) refl)
          (λ h. let p = shown_parts items entries [] k h in let x = p.1 in first_true items n k p.0 (omega (arith, x, e))))
