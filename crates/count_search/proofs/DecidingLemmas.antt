-- Whether options clash, and whether all items are covered.
use Rattle.std.proofs.Common.{◌≡◌, ◌≢◌, ◌⊎◌, ℕ, List, Some, Contains, length, slice_get, refl, sym, subst, inl, inr, ⊎_elim}
use Rattle.xcc_form.specs.ExactCover.{ItemSet, Cover, HasPrimary}
use Rattle.xcc_form.specs.declared.edges.Edge.{Edge}
use Rattle.count_search.proofs.SettledLemmas.{IsSettled, equal_or_not, below_or_not, both_or_not, not_or_so, either_or_not, settled_like, some_below, some_in, is_in, at_place}
use Rattle.xcc_form.specs.Clashes.{ShareAnItem, GiveTwoColours, Clash, IsOpen, IsOpenAt}
use Rattle.xcc_form.specs.Chosen.{IsCovered, IsUncovered, AreAllCovered}

module _ (x : Cover) where
  pub has_primary : (option item : ℕ) → IsSettled (HasPrimary x option item)
  has_primary option item = at_place (λ (o : ItemSet). Contains o.primary item) x.options option (λ o. is_in o.primary item)

  -- The one has an item that the other option has too.
  abbrev Shared : (other : ℕ) → ItemSet → Type 0
  Shared other o = (item : ℕ) × Contains o.primary item × HasPrimary x other item

  shares : (option other : ℕ) → IsSettled (ShareAnItem x option other)
  shares option other =
      settled_like there back
      (at_place (Shared other) x.options option (λ o. some_in (λ item. HasPrimary x other item) o.primary (λ item. has_primary other item)))
    where
      there : (o : ItemSet) × (slice_get x.options option ≡ Some o) × Shared other o → ShareAnItem x option other
      there w = let s : Shared other w.0 = w.2 in record { item = s.0; one = (w.0, w.1, s.1); two = s.2 }

      back : ShareAnItem x option other → (o : ItemSet) × (slice_get x.options option ≡ Some o) × Shared other o
      back s = let one = s.one in (one.0, one.1, (s.item, one.2, s.two))

  abbrev Unlike : Edge → Edge → Type 0
  Unlike e f = (e.item ≡ f.item) × (e.colour ≢ f.colour)

  abbrev HasUnlike : Edge → ItemSet → Type 0
  HasUnlike e q = (f : Edge) × Contains q.coloured f × Unlike e f

  abbrev Differs : (other : ℕ) → Edge → Type 0
  Differs other e = (q : ItemSet) × (slice_get x.options other ≡ Some q) × HasUnlike e q

  abbrev Gives : (other : ℕ) → ItemSet → Type 0
  Gives other o = (e : Edge) × Contains o.coloured e × Differs other e

  gives_two : (option other : ℕ) → IsSettled (GiveTwoColours x option other)
  gives_two option other =
      settled_like there back
      (at_place (Gives other) x.options option (λ o. some_in (Differs other) o.coloured (λ e. at_place (HasUnlike e) x.options other (λ q. some_in (Unlike e) q.coloured (λ f.
      both_or_not (equal_or_not e.item f.item) (not_or_so (equal_or_not e.colour f.colour)))))))
    where
      there : (o : ItemSet) × (slice_get x.options option ≡ Some o) × Gives other o → GiveTwoColours x option other
      there w =
          let g : Gives other w.0 = w.2 in
          let e = g.0 in
          let d : Differs other e = g.2 in
          let q = d.0 in
          let u : HasUnlike e q = d.2 in
          let f = u.0 in
          let unlike : Unlike e f = u.2 in
          record {
            item = e.item;
            colour = e.colour;
            other_colour = f.colour;
            one = (w.0, w.1, g.1);
            two = (q, d.1, subst (λ n. Contains q.coloured (record { item = n; colour = f.colour })) (sym unlike.0) u.1);
            differ = unlike.1;
          }

      back : GiveTwoColours x option other → (o : ItemSet) × (slice_get x.options option ≡ Some o) × Gives other o
      back s =
          let one = s.one in
          let two = s.two in
          (one.0, one.1, (record { item = s.item; colour = s.colour }, one.2, (two.0, two.1, (record { item = s.item; colour = s.other_colour }, two.2, (refl, s.differ)))))

  clashes : (option other : ℕ) → IsSettled (Clash x option other)
  clashes option other = either_or_not (shares option other) (gives_two option other)

  module _ (chosen : List ℕ) where
    goes_on : (option : ℕ) → IsSettled (IsOpen x chosen option)
    goes_on option =
        settled_like
        (λ w. record { real = w.0; free = λ other c clash. w.1 (other, c, clash) })
        (λ o. (o.real, λ w. o.free w.0 w.1 w.2))
        (both_or_not (below_or_not option (length x.options)) (not_or_so (some_in (λ other. Clash x other option) chosen (λ other. clashes other option))))

    pub goes_on_at : (item option : ℕ) → IsSettled (IsOpenAt x chosen item option)
    goes_on_at item option =
        settled_like (λ w. record { open_option = w.0; at = w.1 }) (λ o. (o.open_option, o.at)) (both_or_not (goes_on option) (has_primary option item))

    is_covered : (item : ℕ) → IsSettled (IsCovered x chosen item)
    is_covered item = some_in (λ option. HasPrimary x option item) chosen (λ option. has_primary option item)

    -- all items are covered, or one isn't
    pub covered_or_one : AreAllCovered x chosen ⊎ ((item : ℕ) × IsUncovered x chosen item)
    covered_or_one =
        ⊎_elim
        (λ w. inr (w.0, record { primary = w.1; uncovered = w.2 }))
        (λ none. inl (λ item lt. ⊎_elim (λ is. is) (λ no. absurd (none (item, lt, no))) (is_covered item)))
        (some_below (λ item. IsCovered x chosen item → ⊥) (λ item. not_or_so (is_covered item)) x.primaries)
