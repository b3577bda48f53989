-- Link arrays of a compiled puzzle, by what is chosen.
use Rattle.std.proofs.Common.{◌≡◌, ◌<◌, ℕ, List, length, get_or, take, drop, arith, ap, sym, ◌∙◌, subst}
use Rattle.std.proofs.lemmas.List.{take_all, drop_all}
use Rattle.std.proofs.lemmas.Option.{slice_get_within, get_or_from_slice_get}
use Rattle.xcc_form.specs.Options.{Compiled, cover_of}
use Rattle.xcc_form.proofs.ListingMore.{listing_same}
use Rattle.xcc_form.specs.Clashes.{IsOpenAt}
use Rattle.xcc_form.specs.Chosen.{IsSelection, IsUncovered, HasSize}
use Rattle.xcc_links.specs.Rings.{item_of}
use Rattle.xcc_links.specs.NodeLists.{count, in_list}
use Rattle.xcc_links.specs.NodeTables.{shown_by}
use Rattle.xcc_links.specs.NodeClashes.{NodesClash}
use Rattle.xcc_links.proofs.NodeWords.{IsFreeAt}
use Rattle.xcc_links.specs.Trails.{Arrays, back, LeadsBack}
use Rattle.xcc_links.specs.Marks.{AreRightFor}
use Rattle.xcc_links.specs.LinkStates.{AreLinksOf}
use Rattle.xcc_links.specs.declared.links.arrays.LinkArrays.{LinkArrays}
use Rattle.xcc_links.specs.declared.links.tables.NodeTable.{NodeTable}
use Rattle.xcc_links.proofs.TrailLemmas.{goes_back, goes_take}
use Rattle.xcc_links.proofs.ChoosingLemmas.{current}
use Rattle.xcc_links.proofs.NodeSizeLemmas.{size_open}
use Rattle.xcc_links.proofs.MeaningLemmas.{takes_primary, all_options, clash_nodes, free_open_at, open_at_free}

-- what was hidden since a state is put back
pub put_all_back : (step : ℕ → Arrays → Arrays) (a : Arrays) (t : List ℕ) (a' : Arrays) (t' : List ℕ) (mark : ℕ) → mark ≡ length t → LeadsBack step a t a' t' → back step (drop mark t') a' ≡ a
put_all_back step a t a' t' mark e g =
    goes_back step a t a' t' mark g (omega (arith, e)) ∙ ap (λ s. back step s a) (drop_all mark t (omega (arith, e)))

pub trail_put_back : (step : ℕ → Arrays → Arrays) (a : Arrays) (t : List ℕ) (a' : Arrays) (t' : List ℕ) (mark : ℕ) → mark ≡ length t → LeadsBack step a t a' t' → take mark t' ≡ t
trail_put_back step a t a' t' mark e g = goes_take step a t a' t' mark g (omega (arith, e)) ∙ take_all mark t (omega (arith, e))

module _ (x : Compiled) (t : NodeTable) (a : LinkArrays) (marks chosen : List ℕ) (h : AreLinksOf x t a marks chosen) where
  pub right_now : AreRightFor t.takable t.items t.options t.entries.items t.starts.items chosen (a.links.items, a.sizes.items) a.trail.items
  right_now = current t.takable t.items t.options t.entries.items t.starts.items (a.links.items, a.sizes.items) a.trail.items marks chosen h.right

  pub selection_is : IsSelection x chosen
  selection_is = record {
    compiled = h.compiled;
    partial = record {
      real = λ o among. all_options x h.compiled t h.table o (h.right.real o among);
      apart = λ place place' o p lt at at' clash.
          h.right.apart place place' o lt (slice_get_within chosen place' p at')
          (subst (λ q. NodesClash t.takable t.items t.entries.items q (get_or chosen place' o)) (sym (get_or_from_slice_get chosen place o o at))
          (subst (λ q. NodesClash t.takable t.items t.entries.items o q) (sym (get_or_from_slice_get chosen place' p o at')) (clash_nodes x h.compiled t h.table o p clash)));
    };
  }

  pub size_is : (item : ℕ) → IsUncovered (cover_of x) chosen item → HasSize (cover_of x) chosen item (count (in_list (item_of t.entries.items) (shown_by t.items t.entries.items a.trail.items) item) (length t.entries.items))
  size_is item is =
      let can_take = takes_primary x t h.table item is.primary in
      let w = size_open t.takable t.items t.options t.entries.items t.starts.items h.table.table chosen a.trail.items right_now.hides item can_take in (
        w.0,
        listing_same ◌<◌ (IsFreeAt t.takable t.items t.options t.entries.items chosen item) (IsOpenAt (cover_of x) chosen item) w.0
            (λ o. free_open_at x h.compiled t h.table chosen h.right.real item o can_take) (open_at_free x h.compiled t h.table chosen h.right.real item) w.1,
        w.2,
      )
