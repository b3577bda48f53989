-- The next open option of an item is the next in its list.
use Rattle.std.proofs.Common.{◌≡◌, ◌≢◌, ◌<◌, ℕ, List, Option, None, Some, IfSome, length, arith, ap, sym, ◌∙◌, subst, ⊎_elim}
use Rattle.std.proofs.lemmas.Bool.{cases_eq, cases_order}
use Rattle.xcc_form.specs.Options.{Compiled, cover_of}
use Rattle.xcc_form.specs.Clashes.{IsOpenAt}
use Rattle.xcc_form.specs.Chosen.{ComesAfter, IsNext, IsLast}
use Rattle.xcc_links.specs.Rings.{option_of, down_of}
use Rattle.xcc_links.specs.NodeTables.{has}
use Rattle.xcc_links.specs.LinkStates.{AreLinksOf}
use Rattle.xcc_links.specs.TableLayout.{IsNodeAt}
use Rattle.xcc_links.specs.declared.links.arrays.LinkArrays.{LinkArrays}
use Rattle.xcc_links.specs.declared.links.tables.NodeTable.{NodeTable}
use Rattle.xcc_links.proofs.HidingLemmas.{shown_true}
use Rattle.xcc_links.proofs.NodeSizeLemmas.{options_rise, open_shown, opened_at}
use Rattle.xcc_links.proofs.MeaningLemmas.{open_at_free, free_open_at}
use Rattle.xcc_links.proofs.LinkLemmas.{right_now}
use Rattle.xcc_links.proofs.FollowingLemmas.{IsListed, IsPlace, listed_within, listed_place, own_place, place_linked, ends, goes_on, next_listed}

after_same : (after : Option ℕ) (o p : ℕ) → o ≡ p → ComesAfter after o → ComesAfter after p
after_same after o p e c = subst (ComesAfter after) e c

module _ {x : Compiled} {t : NodeTable} {a : LinkArrays} {marks chosen : List ℕ} (h : AreLinksOf x t a marks chosen) (item : ℕ) (can_take : item < t.takable) where
  item_in : item < t.items
  item_in = let s = h.table.table.some in omega (arith, s, can_take)

  rise : (m n : ℕ) → IsListed t a item m → IsListed t a item n → m < n → option_of t.entries.items m < option_of t.entries.items n
  rise m n p q lt = options_rise t.takable t.items t.options t.entries.items t.starts.items h.table.table m n lt (listed_within p).0 (listed_within q).1 (p.at ∙ sym q.at)

  opens : (n : ℕ) → IsListed t a item n → IsOpenAt (cover_of x) chosen item (option_of t.entries.items n)
  opens n s = free_open_at x h.compiled t h.table chosen h.right.real item (option_of t.entries.items n) can_take
      (opened_at t.takable t.items t.options t.entries.items t.starts.items h.table.table chosen a.trail.items (right_now x t a marks chosen h).hides item can_take n s.shown s.at)

  -- an open option's node is listed
  shows : (option n : ℕ) → IsOpenAt (cover_of x) chosen item option → IsNodeAt t option item n → IsListed t a item n
  shows option n is w =
      let f = open_at_free x h.compiled t h.table chosen h.right.real item option is in
      record {
        shown = shown_true t.items t.entries.items a.trail.items n w.from w.to (ap (has a.trail.items) w.of ∙ open_shown t.takable t.items t.options t.entries.items t.starts.items h.table.table chosen a.trail.items (right_now x t a marks chosen h).hides option f.small f.free);
        at = w.at;
      }

  node_for : (option : ℕ) → IsOpenAt (cover_of x) chosen item option → (n : ℕ) × IsListed t a item n × (option_of t.entries.items n ≡ option)
  node_for option is =
      let f = open_at_free x h.compiled t h.table chosen h.right.real item option is in
      (f.at.node, shows option f.at.node is (record { from = f.at.from; to = f.at.to; of = f.at.option; at = f.at.item }), f.at.option)

  -- The node is that of the option after which the next is wanted, or the item's own.
  abbrev pub Begins : Option ℕ → ℕ → Type 0
  Begins None n = n ≡ item
  Begins (Some option) n = IsListed t a item n × (option_of t.entries.items n ≡ option)

  pub begins_none : (after : Option ℕ) (n : ℕ) → after ≡ None → n ≡ item → Begins after n
  begins_none after n e is = subst (λ o. Begins o n) (sym e) is

  pub begins_some : (after : Option ℕ) (n option node : ℕ) → after ≡ Some option → IfSome after (IsOpenAt (cover_of x) chosen item) → n ≡ node → IsNodeAt t option item node → Begins after n
  begins_some after n option node e is same w =
      let is_open : IsOpenAt (cover_of x) chosen item option = subst (λ o. IfSome o (IsOpenAt (cover_of x) chosen item)) e is in
      subst (λ o. Begins o n) (sym e) (subst (Begins (Some option)) (sym same) (shows option node is_open w, w.of))

  place : (after : Option ℕ) (n : ℕ) → Begins after n → IsPlace t a item n
  place None n e = subst (IsPlace t a item) (sym e) (own_place h item item_in)
  place (Some option) n w = listed_place w.0

  -- what comes after it stands behind it
  behind : (after : Option ℕ) (n k : ℕ) → Begins after n → IsListed t a item k → ComesAfter after (option_of t.entries.items k) → n < k
  behind None n k e s c = let f = (listed_within s).0 in omega (arith, f, item_in, e)
  behind (Some option) n k w s c = ⊎_elim
      (λ (same : n ≡ k). absurd (let e = ap (option_of t.entries.items) same in let o = w.1 in omega (arith, e, o, c)))
      (λ o. ⊎_elim (λ l. l) (λ (l : k < n). absurd (let r = rise k n s w.0 l in let e = w.1 in omega (arith, r, e, c))) o)
      (cases_order n k)

  ahead : (after : Option ℕ) (n k : ℕ) → Begins after n → IsListed t a item k → n < k → ComesAfter after (option_of t.entries.items k)
  ahead None n k e s lt = tt
  ahead (Some option) n k w s lt = let r = rise n k w.0 s lt in let e = w.1 in omega (arith, r, e)

  module _ (after : Option ℕ) (n : ℕ) (begins : Begins after n) where
    here : IsPlace t a item n
    here = place after n begins

    pub node_in : n < length a.links.items
    node_in = place_linked h item item_in n here

    pub next_none : down_of a.links.items n ≡ item → IsLast (cover_of x) chosen item after
    next_none e other is c =
        let w = node_for other is in
        let le = (ends h item item_in n here e).none_after w.0 w.1.shown (w.1.at ∙ sym here.at) in
        let lt = behind after n w.0 begins w.1 (after_same after other (option_of t.entries.items w.0) (sym w.2) c) in
        omega (arith, le, lt)

    pub next_shown : down_of a.links.items n ≢ item → IsListed t a item (down_of a.links.items n)
    next_shown ne = next_listed h item item_in n here ne

    pub next_some : down_of a.links.items n ≢ item → IsNext (cover_of x) chosen item after (option_of t.entries.items (down_of a.links.items n))
    next_some ne =
        let s = next_shown ne in
        let l = goes_on h item item_in n here ne in
        record {
          open_option = opens (down_of a.links.items n) s;
          after_it = ahead after n (down_of a.links.items n) begins s l.after;
          first = λ other is c.
              let w = node_for other is in
              let lt = behind after n w.0 begins w.1 (after_same after other (option_of t.entries.items w.0) (sym w.2) c) in
              let le = l.none_between w.0 w.1.shown (w.1.at ∙ sym here.at) lt in
              ⊎_elim
              (λ (same : down_of a.links.items n ≡ w.0). let e = ap (option_of t.entries.items) same in let o = w.2 in omega (arith, e, o))
              (λ (off : down_of a.links.items n ≢ w.0). let r = rise (down_of a.links.items n) w.0 s w.1 (omega (arith, le, off)) in let o = w.2 in omega (arith, r, o))
              (cases_eq (down_of a.links.items n) w.0);
        }
