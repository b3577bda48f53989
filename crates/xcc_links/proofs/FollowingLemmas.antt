-- What follows a node in the list of an item.
use Rattle.std.proofs.Common.{◌≡◌, ◌≢◌, ◌⊎◌, ◌<◌, ◌≤◌, ℕ, true, List, length, arith, ◌∙◌, inl, inr, ⊎_elim}
use Rattle.xcc_form.specs.Options.{Compiled}
use Rattle.xcc_links.specs.Rings.{item_of, down_of}
use Rattle.xcc_links.specs.NodeLists.{IsIn, IsLast, IsAfter}
use Rattle.xcc_links.specs.NodeTables.{shown_by}
use Rattle.xcc_links.specs.LinkStates.{AreLinksOf}
use Rattle.xcc_links.specs.declared.links.arrays.LinkArrays.{LinkArrays}
use Rattle.xcc_links.specs.declared.links.tables.NodeTable.{NodeTable}
use Rattle.xcc_links.proofs.HidingLemmas.{shown_parts}
use Rattle.xcc_links.proofs.LinkLemmas.{right_now}

-- a shown node of the item's list
pub record IsListed (t : NodeTable) (a : LinkArrays) (item n : ℕ) : Type 0 where
  pub shown : shown_by t.items t.entries.items a.trail.items n ≡ true
  pub at : item_of t.entries.items n ≡ item

-- a node of the list, or the item's own
pub record IsPlace (t : NodeTable) (a : LinkArrays) (item n : ℕ) : Type 0 where
  pub is_in : IsIn t.items (shown_by t.items t.entries.items a.trail.items) n
  pub at : item_of t.entries.items n ≡ item

-- where a listed node stands
pub listed_within : {t : NodeTable} {a : LinkArrays} {item n : ℕ} → IsListed t a item n → (t.items ≤ n) × (n < length t.entries.items)
listed_within {t} {a} {item} {n} s = let w = shown_parts t.items t.entries.items a.trail.items n s.shown in (w.0, w.1)

pub listed_place : {t : NodeTable} {a : LinkArrays} {item n : ℕ} → IsListed t a item n → IsPlace t a item n
listed_place s = record { is_in = inr s.shown; at = s.at }

module _ {x : Compiled} {t : NodeTable} {a : LinkArrays} {marks chosen : List ℕ} (h : AreLinksOf x t a marks chosen) (item : ℕ) (item_in : item < t.items) where
  pub own_place : IsPlace t a item item
  own_place = record { is_in = inl item_in; at = h.table.table.own item item_in }

  module _ (n : ℕ) (place : IsPlace t a item n) where
    next : IsLast (item_of t.entries.items) (shown_by t.items t.entries.items a.trail.items) n (down_of a.links.items n) ⊎ IsAfter (item_of t.entries.items) (shown_by t.items t.entries.items a.trail.items) n (down_of a.links.items n)
    next = (right_now x t a marks chosen h).right.kept.linked.next n place.is_in

    pub place_linked : n < length a.links.items
    place_linked =
        let r = (right_now x t a marks chosen h).right.kept in
        let high = r.own_high in
        let long = r.long in
        ⊎_elim (λ (lt : n < t.items). omega (arith, lt, high, long)) (λ s. let k = r.high n s in omega (arith, k, long)) place.is_in

    -- the last node is followed by the item's own
    pub ends : down_of a.links.items n ≡ item → IsLast (item_of t.entries.items) (shown_by t.items t.entries.items a.trail.items) n (down_of a.links.items n)
    ends e = ⊎_elim
        (λ l. l)
        (λ (l : IsAfter (item_of t.entries.items) (shown_by t.items t.entries.items a.trail.items) n (down_of a.links.items n)).
        let f = (shown_parts t.items t.entries.items a.trail.items (down_of a.links.items n) l.shown_there).0 in
        absurd (omega (arith, f, e, item_in)))
        next

    -- another node by the next one
    pub goes_on : down_of a.links.items n ≢ item → IsAfter (item_of t.entries.items) (shown_by t.items t.entries.items a.trail.items) n (down_of a.links.items n)
    goes_on ne = ⊎_elim
        (λ (l : IsLast (item_of t.entries.items) (shown_by t.items t.entries.items a.trail.items) n (down_of a.links.items n)). absurd (ne (l.own ∙ place.at)))
        (λ l. l)
        next

    pub next_listed : down_of a.links.items n ≢ item → IsListed t a item (down_of a.links.items n)
    next_listed ne = let l = goes_on ne in record { shown = l.shown_there; at = l.same ∙ place.at }
