-- An item's size is how many open options have it.
use Rattle.std.proofs.Common.{true≢false, ◌≡◌, ◌<◌, ◌≤◌, ◌+◌, ◌-◌, ◌==◌, ℕ, zero, suc, Bool, true, false, List, Contains, length, arith, refl, ap, sym, ◌∙◌, subst, inl, inr, ⊎_elim}
use Rattle.std.proofs.lemmas.Bool.{cases_lt, cases_order, and_parts, and_from, eqb-true, eq-eqb, false_from_ne_true}
use Rattle.xcc_links.specs.NodeLists.{count, in_list}
use Rattle.xcc_links.specs.Rings.{item_of, option_of}
use Rattle.xcc_links.specs.NodeTables.{IsNodeTable, has, shown_by, start_of}
use Rattle.xcc_links.specs.NodeClashes.{NodeClashes, CoversItem, Excludes, NodesClash}
use Rattle.xcc_links.proofs.NodeWords.{HasNoChosenNode, IsFreeAt, HasChosenNode}
use Rattle.xcc_links.specs.Marks.{HidesJust}
use Rattle.match_limits.specs.Listing.{IsListing}
use Rattle.xcc_form.proofs.ListingMore.{listing_same}
use Rattle.xcc_links.specs.declared.links.tables.Entry.{Entry}
use Rattle.xcc_links.proofs.HidingLemmas.{shown_true, shown_parts}
use Rattle.xcc_links.proofs.CountLemmas.{IsPassed, passing, length_passing, listing_passing, count_listing}

module _ (takable items options : ℕ) (entries : List Entry) (starts : List ℕ) (table : IsNodeTable takable items options entries starts) where
  starts_rise : (d o : ℕ) → o + d < length starts → start_of starts o ≤ start_of starts (o + d)
  starts_rise zero o lt = let e : o ≡ o + 0 = omega arith in subst (λ k. start_of starts o ≤ start_of starts k) e (omega arith)
  starts_rise (suc d) o lt =
      let h = starts_rise d o (omega arith) in
      let r = table.runs.rising (o + d) (omega arith) in
      let e : (o + d) + 1 ≡ o + suc d = omega arith in
      subst (λ k. start_of starts o ≤ start_of starts k) e (omega (arith, h, r))

  pub starts_to : (o p : ℕ) → o ≤ p → p < length starts → start_of starts o ≤ start_of starts p
  starts_to o p le lt = let e : o + (p - o) ≡ p = omega arith in subst (λ k. start_of starts o ≤ start_of starts k) e (starts_rise (p - o) o (omega arith))

  pub options_rise : (a b : ℕ) → a < b → items ≤ a → b < length entries → item_of entries a ≡ item_of entries b → option_of entries a < option_of entries b
  options_rise a b lt from to same = ⊎_elim
      (λ (e : option_of entries a ≡ option_of entries b). absurd (let s = table.once a b from (omega (arith, lt, to)) (omega (arith, lt, from)) to e same in omega (arith, s, lt)))
      (λ o. ⊎_elim (λ l. l)
      (λ (l : option_of entries b < option_of entries a).
      let ra = table.runs.around a from (omega (arith, lt, to)) in
      let rb = table.runs.around b (omega (arith, lt, from)) to in
      let h = starts_to (option_of entries b + 1) (option_of entries a) (omega (arith, l)) (let x = ra.0 in omega (arith, x)) in
      let x = ra.1 in let y = rb.2 in
      absurd (omega (arith, h, x, y, lt)))
      o)
      (cases_order (option_of entries a) (option_of entries b))

  module _ (chosen trail : List ℕ) (hides : HidesJust takable items options entries chosen trail) where
    pub open_shown : (o : ℕ) → o < options → ((c : ℕ) → Contains chosen c → NodesClash takable items entries c o → ⊥) → has trail o ≡ false
    open_shown o lt free = false_from_ne_true (has trail o) (λ e. let w = hides.only o e in bad w.by w.among w.excludes)
      where
        bad : (c : ℕ) → Contains chosen c → Excludes takable items options entries c o → ⊥
        bad c among b = ⊎_elim
            (λ (h : NodeClashes takable items entries b.node o). free c among (record { node = b.node; from = b.from; to = b.to; option = b.option; clashes = h }))
            (λ (h : CoversItem takable options entries b.node o). let e = h.is in omega (arith, e, lt))
            b.excludes

    pub shown_open : (o : ℕ) → has trail o ≡ false → (c : ℕ) → Contains chosen c → NodesClash takable items entries c o → ⊥
    shown_open o e c among k = true≢false (sym (hides.all o (record { by = c; among = among; excludes = record { node = k.node; from = k.from; to = k.to; option = k.option; excludes = inl k.clashes } })) ∙ e)

    module _ (i : ℕ) (can_take : i < takable) where
      test : ℕ → Bool
      test = in_list (item_of entries) (shown_by items entries trail) i

      opened : (o : ℕ) → IsPassed (option_of entries) (in_list (item_of entries) (shown_by items entries trail) i) (length entries) o → IsFreeAt takable items options entries chosen i o
      opened o p =
          let t = and_parts (shown_by items entries trail p.place) (item_of entries p.place == i) p.passes in
          let q = shown_parts items entries trail p.place t.0 in
          let it = eqb-true (item_of entries p.place) i t.1 in
          let m = p.marked in
          record {
            small = ⊎_elim (λ l. l) (λ (ge : options ≤ o). absurd (let r = table.rooted p.place q.0 q.1 (omega (arith, m, ge)) in let s = table.some in omega (arith, r, it, s, can_take))) (cases_lt o options);
            free = shown_open o (ap (has trail) (sym m) ∙ q.2);
            at = record { node = p.place; from = q.0; to = q.1; option = m; item = it };
          }

      passed_by : (o : ℕ) → IsFreeAt takable items options entries chosen i o → IsPassed (option_of entries) (in_list (item_of entries) (shown_by items entries trail) i) (length entries) o
      passed_by o w = record {
        place = w.at.node;
        below = w.at.to;
        passes = and_from (shown_by items entries trail w.at.node) (item_of entries w.at.node == i) (shown_true items entries trail w.at.node w.at.from w.at.to (ap (has trail) w.at.option ∙ open_shown o w.small w.free)) (eq-eqb (item_of entries w.at.node) i w.at.item);
        marked = w.at.option;
      }

      -- a shown node of the item is an open option's
      pub opened_at : (n : ℕ) → shown_by items entries trail n ≡ true → item_of entries n ≡ i → IsFreeAt takable items options entries chosen i (option_of entries n)
      opened_at n s same = opened (option_of entries n) (record { place = n; below = (shown_parts items entries trail n s).1; passes = and_from (shown_by items entries trail n) (item_of entries n == i) s (eq-eqb (item_of entries n) i same); marked = refl })

      marks_rise : (a b : ℕ) → a < b → b < length entries → in_list (item_of entries) (shown_by items entries trail) i a ≡ true → in_list (item_of entries) (shown_by items entries trail) i b ≡ true → option_of entries a < option_of entries b
      marks_rise a b lt to ta tb =
          let pa = and_parts (shown_by items entries trail a) (item_of entries a == i) ta in
          let pb = and_parts (shown_by items entries trail b) (item_of entries b == i) tb in
          options_rise a b lt (shown_parts items entries trail a pa.0).0 to (eqb-true (item_of entries a) i pa.1 ∙ sym (eqb-true (item_of entries b) i pb.1))

      -- the open options of the item, as many as its shown nodes
      pub size_open : (xs : List ℕ) × IsListing ◌<◌ (IsFreeAt takable items options entries chosen i) xs × (length xs ≡ count (in_list (item_of entries) (shown_by items entries trail) i) (length entries))
      size_open =
          let passes = in_list (item_of entries) (shown_by items entries trail) i in (
            passing (option_of entries) passes (length entries),
            listing_same ◌<◌ (IsPassed (option_of entries) passes (length entries)) (IsFreeAt takable items options entries chosen i) (passing (option_of entries) passes (length entries)) opened passed_by (listing_passing (option_of entries) passes (length entries) marks_rise),
            length_passing (option_of entries) passes (length entries),
          )

      pub size_listing : (xs : List ℕ) → IsListing ◌<◌ (IsFreeAt takable items options entries chosen i) xs → count (in_list (item_of entries) (shown_by items entries trail) i) (length entries) ≡ length xs
      size_listing xs h = count_listing (option_of entries) (in_list (item_of entries) (shown_by items entries trail) i) (length entries) marks_rise
          (IsFreeAt takable items options entries chosen i) opened passed_by xs h

    -- an item's own option is shown just where it is uncovered
    pub uncovered_shown : (i : ℕ) → HasNoChosenNode items entries chosen i → ((o : ℕ) → Contains chosen o → o < options) → has trail (options + i) ≡ false
    uncovered_shown i free real = false_from_ne_true (has trail (options + i)) (λ e. let w = hides.only (options + i) e in bad w.by w.among w.excludes)
      where
        bad : (c : ℕ) → Contains chosen c → Excludes takable items options entries c (options + i) → ⊥
        bad c among b = ⊎_elim
            (λ (h : NodeClashes takable items entries b.node (options + i)).
            let r = table.rooted h.node h.from h.to (omega (arith, h.option)) in
            let j = table.real b.node b.from b.to (let lt = real c among in omega (arith, b.option, lt)) in
            omega (arith, r, j, h.item))
            (λ (h : CoversItem takable options entries b.node (options + i)). free c among (record { node = b.node; from = b.from; to = b.to; option = b.option; item = omega (arith, h.is) }))
            b.excludes

    pub shown_uncovered : (i : ℕ) → i < takable → has trail (options + i) ≡ false → HasNoChosenNode items entries chosen i
    shown_uncovered i can_take e c among h = true≢false (sym (hides.all (options + i) (record { by = c; among = among; excludes = record { node = h.node; from = h.from; to = h.to; option = h.option; excludes = inr (record { can_take = omega (arith, h.item, can_take); is = omega (arith, h.item) }) } })) ∙ e)

    -- a hidden item is covered
    pub hidden_covered : (i : ℕ) → has trail (options + i) ≡ true → ((o : ℕ) → Contains chosen o → o < options) → HasChosenNode items entries chosen i
    hidden_covered i e real = let w = hides.only (options + i) e in covers w.by w.among w.excludes
      where
        covers : (c : ℕ) → Contains chosen c → Excludes takable items options entries c (options + i) → HasChosenNode items entries chosen i
        covers c among b = ⊎_elim
            (λ (h : NodeClashes takable items entries b.node (options + i)).
            absurd (let r = table.rooted h.node h.from h.to (omega (arith, h.option)) in
            let j = table.real b.node b.from b.to (let lt = real c among in omega (arith, b.option, lt)) in
            omega (arith, r, j, h.item)))
            (λ (h : CoversItem takable options entries b.node (options + i)). record { by = c; among = among; at = record { node = b.node; from = b.from; to = b.to; option = b.option; item = omega (arith, h.is) } })
            b.excludes
