-- The walk along the list of items finds the one to branch on.
use Rattle.std.proofs.Common.{◌≡◌, ◌≢◌, ◌⊎◌, ◌<◌, ◌≤◌, ◌+◌, ◌-◌, ◌^◌, ℕ, List, Option, None, Some, MatchOption, length, get_or, arith, refl, inl, inr, ⊎_elim}
use Rattle.xcc_form.specs.Options.{Compiled, cover_of}
use Rattle.xcc_form.proofs.ListingMore.{listing_same}
use Rattle.xcc_form.specs.Clashes.{IsOpenAt}
use Rattle.xcc_form.specs.Chosen.{AreAllCovered, IsToBranchOn}
use Rattle.xcc_links.specs.NodeTables.{AreRight, start_of}
use Rattle.xcc_links.proofs.NodeWords.{IsFreeAt, IsWalking, left_to, HaveChosenNodes, HasLeastSize, IsBest}
use Rattle.xcc_links.specs.LinkStates.{AreLinksOf}
use Rattle.xcc_links.specs.declared.links.arrays.Link.{Link}
use Rattle.xcc_links.specs.declared.links.arrays.LinkArrays.{LinkArrays}
use Rattle.xcc_links.specs.declared.links.tables.Entry.{Entry}
use Rattle.xcc_links.specs.declared.links.tables.NodeTable.{NodeTable}
use Rattle.xcc_links.proofs.PurifyingLemmas.{begun}
use Rattle.xcc_links.proofs.FewestLemmas.{none_left, best_least, first_item, first_in, first_down, first_best, more_item, more_in, more_down, keeps, betters}
use Rattle.xcc_links.proofs.MeaningLemmas.{few_primary, takes_primary, node_covered, node_uncovered, uncovered_node, open_at_free, free_open_at}
use Rattle.xcc_links.proofs.LinkLemmas.{right_now}

-- the best of the items before the node in the list of items, a primary one; none, where there is none before it
abbrev pub IsBestSoFar : (primaries items : ℕ) → List Entry → (trail sizes : List ℕ) → (root first : ℕ) → Option ℕ → (fewest node : ℕ) → Type 0
IsBestSoFar primaries items entries trail sizes root first None fewest node = IsWalking items entries trail root (λ _. ⊥) node
IsBestSoFar primaries items entries trail sizes root first (Some best) fewest node = (best < primaries) × IsBest items entries trail sizes root first best fewest node

module _ {x : Compiled} {t : NodeTable} {a : LinkArrays} {marks chosen : List ℕ} (h : AreLinksOf x t a marks chosen) where
  abbrev SoFar : (first : ℕ) → Option ℕ → (fewest node : ℕ) → Type 0
  SoFar first best fewest node = IsBestSoFar t.primaries t.items t.entries.items a.trail.items a.sizes.items (t.items - 1) first best fewest node

  pub is_root : (t.items - 1) + 1 ≡ t.items
  is_root = let s = h.table.table.some in omega (arith, s)

  right : AreRight t.items t.entries.items t.starts.items a.links.items a.sizes.items a.trail.items
  right = (right_now x t a marks chosen h).right

  pub root_in : t.items - 1 < length a.links.items
  root_in = let e = is_root in let r = right.kept in let o = r.own_high in let l = r.long in omega (arith, e, o, l)

  pub first_start : t.options < length t.starts.items
  first_start = let s = h.table.table.starts_long in omega (arith, s)

  pub so_far_none : (first fewest : ℕ) (l : Link) → l ≡ get_or a.links.items (t.items - 1) l → SoFar first None fewest l.down
  so_far_none first fewest l r = begun t.takable t.items t.options t.entries.items t.starts.items h.table.table a.links.items a.sizes.items a.trail.items right (t.items - 1) (let e = is_root in omega (arith, e)) (λ _. ⊥) l r

  module _ (first : ℕ) (is_first : first ≡ start_of t.starts.items t.options) where
    -- the end of the primary items' nodes is a number of 32 bits
    pub end_fits : first + t.primaries < 2 ^ 32
    end_fits =
        let s = h.table.table.starts_long in
        let last = h.table.table.single t.takable (omega arith) in
        let high = h.table.table.runs.high (t.options + t.takable) (omega (arith, s)) in
        let few = few_primary x t h.table in
        omega (arith, last, high, few, is_first, h.table.table.few)

    module _ (fewest node : ℕ) (ne : node ≢ t.items - 1) where
      pub node_item : (best : Option ℕ) → SoFar first best fewest node → (first ≤ node) × (node - first < t.takable)
      node_item None w = first_item t.takable t.items t.options t.entries.items t.starts.items h.table.table a.links.items a.sizes.items a.trail.items right (t.items - 1) is_root first is_first node w ne
      node_item (Some best) w = more_item t.takable t.items t.options t.entries.items t.starts.items h.table.table a.links.items a.sizes.items a.trail.items right (t.items - 1) is_root first is_first best fewest node w.1 ne

      pub node_sized : (best : Option ℕ) → SoFar first best fewest node → node - first < length a.sizes.items
      node_sized best w = let i = (node_item best w).1 in let s = h.table.table.some in let l = right.counted.long in omega (arith, i, s, l)

      pub node_linked : (best : Option ℕ) → SoFar first best fewest node → node < length a.links.items
      node_linked None w = first_in t.takable t.items t.options t.entries.items t.starts.items h.table.table a.links.items a.sizes.items a.trail.items right (t.items - 1) is_root first is_first node w ne
      node_linked (Some best) w = more_in t.takable t.items t.options t.entries.items t.starts.items h.table.table a.links.items a.sizes.items a.trail.items right (t.items - 1) is_root first is_first best fewest node w.1 ne

      module _ (l : Link) (r : l ≡ get_or a.links.items node l) where
        pub node_down : (best : Option ℕ) → SoFar first best fewest node → left_to (length t.entries.items) (t.items - 1) l.down < left_to (length t.entries.items) (t.items - 1) node
        node_down None w = first_down t.takable t.items t.options t.entries.items t.starts.items h.table.table a.links.items a.sizes.items a.trail.items right (t.items - 1) is_root first is_first node w ne l r
        node_down (Some best) w = more_down t.takable t.items t.options t.entries.items t.starts.items h.table.table a.links.items a.sizes.items a.trail.items right (t.items - 1) is_root first is_first best fewest node w.1 ne l r

        module _ (below : node < first + t.primaries) (size : ℕ) (is_size : size ≡ get_or a.sizes.items (node - first) 0) where
          pub takes : (best : Option ℕ) → ((b : ℕ) → best ≡ Some b → size < fewest) → SoFar first best fewest node → SoFar first (Some (node - first)) size l.down
          takes None fewer w = (let le = (node_item None w).0 in omega (arith, le, below), first_best t.takable t.items t.options t.entries.items t.starts.items h.table.table a.links.items a.sizes.items a.trail.items right (t.items - 1) is_root first is_first node w ne l r size is_size)
          takes (Some best) fewer w = (let le = (node_item (Some best) w).0 in omega (arith, le, below), betters t.takable t.items t.options t.entries.items t.starts.items h.table.table a.links.items a.sizes.items a.trail.items right (t.items - 1) is_root first is_first best fewest node w.1 ne l r size is_size (fewer best refl))

          pub leaves : (best : Option ℕ) → (best ≡ None → ⊥) → fewest ≤ size → SoFar first best fewest node → SoFar first best fewest l.down
          leaves None some le w = absurd (some refl)
          leaves (Some best) some le w = (w.0, keeps t.takable t.items t.options t.entries.items t.starts.items h.table.table a.links.items a.sizes.items a.trail.items right (t.items - 1) is_root first is_first best fewest node w.1 ne l r (omega (arith, le, is_size)))

    can_take : (item : ℕ) → item < t.primaries → item < t.takable
    can_take item lt = let few = few_primary x t h.table in omega (arith, lt, few)

    all_covered : HaveChosenNodes t.primaries t.items t.entries.items chosen → AreAllCovered (cover_of x) chosen
    all_covered all item lt =
        node_covered x h.compiled t h.table chosen h.right.real item (takes_primary x t h.table item lt) (all item (omega (arith, lt, h.table.primaries)))

    to_branch_on : (item : ℕ) → HasLeastSize t.primaries t.takable t.items t.options t.entries.items chosen item → IsToBranchOn (cover_of x) chosen item
    to_branch_on item w = record {
      uncovered = node_uncovered x h.compiled t h.table chosen h.right.real item w.primary w.uncovered;
      fewest = λ other size other_size is has other_has.
          let primary : other < t.primaries = let p = is.primary in omega (arith, p, h.table.primaries) in
          let f = w.fewest other primary (uncovered_node x h.compiled t h.table chosen h.right.real other is) has.0 other_has.0
          (listing_same ◌<◌ (IsOpenAt (cover_of x) chosen item) (IsFreeAt t.takable t.items t.options t.entries.items chosen item) has.0 (open_at_free x h.compiled t h.table chosen h.right.real item) (λ o. free_open_at x h.compiled t h.table chosen h.right.real item o (can_take item w.primary)) has.1)
          (listing_same ◌<◌ (IsOpenAt (cover_of x) chosen other) (IsFreeAt t.takable t.items t.options t.entries.items chosen other) other_has.0 (open_at_free x h.compiled t h.table chosen h.right.real other) (λ o. free_open_at x h.compiled t h.table chosen h.right.real other o (can_take other primary)) other_has.1) in
          let s = has.2 in
          let z = other_has.2 in
          ⊎_elim (λ l. inl (omega (arith, l, s, z))) (λ e. let u = e.0 in inr (omega (arith, u, s, z), e.1)) f;
    }

    pub so_far_all : (best : Option ℕ) (fewest node : ℕ) → (node ≡ t.items - 1) ⊎ (first + t.primaries ≤ node) → SoFar first best fewest node → MatchOption best (AreAllCovered (cover_of x) chosen) (IsToBranchOn (cover_of x) chosen)
    so_far_all None fewest node e w = all_covered (none_left t.takable t.items t.options t.entries.items t.starts.items h.table.table a.links.items a.sizes.items a.trail.items right (t.items - 1) is_root first is_first chosen (right_now x t a marks chosen h).hides h.right.real t.primaries (few_primary x t h.table) node e w)
    so_far_all (Some best) fewest node e w = to_branch_on best (best_least t.takable t.items t.options t.entries.items t.starts.items h.table.table a.links.items a.sizes.items a.trail.items right (t.items - 1) is_root first is_first chosen (right_now x t a marks chosen h).hides h.right.real t.primaries (few_primary x t h.table) node e best fewest w.0 w.1)
