-- The next uncovered item is the next in the root's list, where that is a primary one.
use Rattle.std.proofs.Common.{◌≡◌, ◌≢◌, ◌⊎◌, ◌<◌, ◌≤◌, ◌+◌, ◌-◌, ℕ, List, Option, None, Some, IfSome, length, arith, ap, sym, ◌∙◌, subst, ⊎_elim}
use Rattle.xcc_form.specs.Options.{Compiled, cover_of}
use Rattle.xcc_form.specs.Chosen.{IsUncovered, ComesAfter, IsNextItem, IsLastItem}
use Rattle.xcc_links.specs.Rings.{down_of}
use Rattle.xcc_links.specs.NodeTables.{has, start_of}
use Rattle.xcc_links.specs.LinkStates.{AreLinksOf}
use Rattle.xcc_links.specs.declared.links.arrays.LinkArrays.{LinkArrays}
use Rattle.xcc_links.specs.declared.links.tables.NodeTable.{NodeTable}
use Rattle.xcc_links.proofs.HidingLemmas.{shown_parts}
use Rattle.xcc_links.proofs.FewestLemmas.{item_there, own_node}
use Rattle.xcc_links.proofs.NodeSizeLemmas.{uncovered_shown, shown_uncovered}
use Rattle.xcc_links.proofs.MeaningLemmas.{takes_primary, node_uncovered, uncovered_node}
use Rattle.xcc_links.proofs.LinkLemmas.{right_now}
use Rattle.xcc_links.proofs.FollowingLemmas.{IsListed, IsPlace, listed_within, listed_place, own_place, place_linked, ends, goes_on, next_listed}

module _ {x : Compiled} {t : NodeTable} {a : LinkArrays} {marks chosen : List ℕ} (h : AreLinksOf x t a marks chosen) (root : ℕ) (is_root : root + 1 ≡ t.items) (first : ℕ) (is_first : first ≡ start_of t.starts.items t.options) where
  root_in : root < t.items
  root_in = omega (arith, is_root)

  -- an uncovered item's node is listed
  listed : (item : ℕ) → IsUncovered (cover_of x) chosen item → IsListed t a root (first + item)
  listed item is =
      let now = right_now x t a marks chosen h in
      let w = own_node t.takable t.items t.options t.entries.items t.starts.items h.table.table a.links.items a.sizes.items a.trail.items now.right root is_root first is_first item (takes_primary x t h.table item is.primary)
      (uncovered_shown t.takable t.items t.options t.entries.items t.starts.items h.table.table chosen a.trail.items now.hides item (uncovered_node x h.compiled t h.table chosen h.right.real item is) h.right.real) in
      record { shown = w.0; at = w.1 }

  -- a listed node is that of an uncovered item, where it is a primary one
  uncovered : (n : ℕ) → IsListed t a root n → (first ≤ n) × (n < first + t.primaries → IsUncovered (cover_of x) chosen (n - first))
  uncovered n s =
      let now = right_now x t a marks chosen h in
      let w = item_there t.takable t.items t.options t.entries.items t.starts.items h.table.table a.links.items a.sizes.items a.trail.items now.right root is_root first is_first n s.shown s.at in (
        w.0,
        λ lt. node_uncovered x h.compiled t h.table chosen h.right.real (n - first) (let le = w.0 in omega (arith, lt, le))
            (shown_uncovered t.takable t.items t.options t.entries.items t.starts.items h.table.table chosen a.trail.items now.hides (n - first) w.1
            (ap (has a.trail.items) (sym w.2) ∙ (shown_parts t.items t.entries.items a.trail.items n s.shown).2)),
      )

  -- The node is that of the item after which the next is wanted, or the root's own.
  abbrev pub Begins : Option ℕ → ℕ → Type 0
  Begins None n = n ≡ root
  Begins (Some item) n = (n ≡ first + item) × IsListed t a root n

  pub begins_none : (after : Option ℕ) (n : ℕ) → after ≡ None → n ≡ root → Begins after n
  begins_none after n e is = subst (λ o. Begins o n) (sym e) is

  pub begins_some : (after : Option ℕ) (n item : ℕ) → after ≡ Some item → IfSome after (IsUncovered (cover_of x) chosen) → n ≡ first + item → Begins after n
  begins_some after n item e is same =
      let free : IsUncovered (cover_of x) chosen item = subst (λ o. IfSome o (IsUncovered (cover_of x) chosen)) e is in
      subst (λ o. Begins o n) (sym e) (same, subst (IsListed t a root) (sym same) (listed item free))

  place : (after : Option ℕ) (n : ℕ) → Begins after n → IsPlace t a root n
  place None n e = subst (IsPlace t a root) (sym e) (own_place h root root_in)
  place (Some item) n w = listed_place w.1

  -- what comes after it stands behind it
  behind : (after : Option ℕ) (n item : ℕ) → Begins after n → IsListed t a root (first + item) → ComesAfter after item → n < first + item
  behind None n item e s c = let f = (listed_within s).0 in omega (arith, f, is_root, e)
  behind (Some before) n item w s c = let e = w.0 in omega (arith, e, c)

  ahead : (after : Option ℕ) (n k : ℕ) → Begins after n → first ≤ k → n < k → ComesAfter after (k - first)
  ahead None n k e le lt = tt
  ahead (Some before) n k w le lt = let e = w.0 in omega (arith, e, le, lt)

  module _ (after : Option ℕ) (n : ℕ) (begins : Begins after n) where
    here : IsPlace t a root n
    here = place after n begins

    pub node_in : n < length a.links.items
    node_in = place_linked h root root_in n here

    -- the list ends, or goes on past the nodes of the primary items
    pub next_none : (down_of a.links.items n ≡ root) ⊎ ((down_of a.links.items n ≢ root) × (first + t.primaries ≤ down_of a.links.items n)) → IsLastItem (cover_of x) chosen after
    next_none done other is c =
        let w = listed other is in
        let lt = behind after n other begins w c in
        ⊎_elim
        (λ e. let le = (ends h root root_in n here e).none_after (first + other) w.shown (w.at ∙ sym here.at) in omega (arith, le, lt))
        (λ v.
        let le = (goes_on h root root_in n here v.0).none_between (first + other) w.shown (w.at ∙ sym here.at) lt in
        let over = v.1 in
        let primary = is.primary in
        omega (arith, le, over, primary, h.table.primaries))
        done

    pub next_from : down_of a.links.items n ≢ root → first ≤ down_of a.links.items n
    next_from ne = (uncovered (down_of a.links.items n) (next_listed h root root_in n here ne)).0

    pub next_some : down_of a.links.items n ≢ root → down_of a.links.items n < first + t.primaries → IsNextItem (cover_of x) chosen after (down_of a.links.items n - first)
    next_some ne below =
        let l = goes_on h root root_in n here ne in
        record {
          uncovered = (uncovered (down_of a.links.items n) (next_listed h root root_in n here ne)).1 below;
          after_it = ahead after n (down_of a.links.items n) begins (next_from ne) l.after;
          first = λ other is c.
              let w = listed other is in
              let lt = behind after n other begins w c in
              let le = l.none_between (first + other) w.shown (w.at ∙ sym here.at) lt in
              omega (arith, le);
        }
