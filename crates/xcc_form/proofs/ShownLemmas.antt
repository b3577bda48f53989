-- The edges that a pair shows, as they are added one by one.
use Rattle.std.proofs.Common.{◌≡◌, ◌⊎◌, ◌<◌, ◌≤◌, ◌+◌, ℕ, List, [], ◌∷◌, ◌++◌, Some, length, slice_get, append_assoc, arith, ap, sym, ◌∙◌, subst, inl, inr, ⊎_elim}
use Rattle.std.proofs.lemmas.List.{append-nil, length_push}
use Rattle.std.proofs.lemmas.Option.{slice_get_within, slice_get-get_or}
use Rattle.std.proofs.lemmas.List.Elements.{Contains-get_or}
use Rattle.std.proofs.lemmas.Bool.Decides.{eqb_tells}
use Rattle.match_board.specs.Board.{side_count}
use Rattle.match_board.specs.declared.figures.Figure.{Figure}
use Rattle.match_limits.specs.Listing.{IsListing}
use Rattle.match_board.proofs.Places.{Meets-turned}
use Rattle.match_puzzle.specs.Puzzle.{Task, colour_of}
use Rattle.match_puzzle.specs.declared.placements.Pair.{Pair}
use Rattle.match_puzzle.proofs.Prefixes.{inside}
use Rattle.match_puzzle.proofs.ArrangementLemmas.{side_in_range}
use Rattle.xcc_form.specs.Options.{IsSharedEdge, AreSharedEdges, IsSideOf, IsShownEdge, colour_given, item_count}
use Rattle.xcc_form.specs.Layout.{AddsEdges}
use Rattle.xcc_form.specs.declared.edges.Edge.{Edge}
use Rattle.xcc_form.specs.declared.edges.SharedEdge.{SharedEdge}
use Rattle.xcc_form.proofs.EdgeLemmas.{other_cell}
use Rattle.xcc_form.proofs.ListingMore.{listing_same, listing_append, listing_one, listing_nothing}

-- by item
abbrev pub ItemComesBefore : (e f : Edge) → Type 0
ItemComesBefore e f = e.item < f.item

pub same_colours : {e f : Edge} → e.item ≡ f.item → e.colour ≡ f.colour → e ≡ f
same_colours {e} {f} i c =
    let of : ℕ → ℕ → Edge = λ a b. record { item = a; colour = b } in
    ap (λ a. of a e.colour) i ∙ ap (λ b. of f.item b) c

-- an edge is at most one side of a cell
pub one_side : (s : Figure) (e : SharedEdge) (cell side side' : ℕ) → IsSharedEdge s e → IsSideOf e cell side → IsSideOf e cell side' → side ≡ side'
one_side s e cell side side' is (inl a) (inl b) = sym a.1 ∙ b.1
one_side s e cell side side' is (inl a) (inr b) = absurd (other_cell is.0 (a.0 ∙ sym b.0))
one_side s e cell side side' is (inr a) (inl b) = absurd (other_cell is.0 (b.0 ∙ sym a.0))
one_side s e cell side side' is (inr a) (inr b) = sym a.1 ∙ b.1

pub side_of_in_range : (s : Figure) (e : SharedEdge) (cell side : ℕ) → IsSharedEdge s e → IsSideOf e cell side → side < side_count s
side_of_in_range s e cell side is (inl a) = let lt = side_in_range is.0 in omega (arith, lt, a.1)
side_of_in_range s e cell side is (inr a) = let lt = side_in_range (Meets-turned is.0) in omega (arith, lt, a.1)

-- what is in a list of shared edges is one
pub shared_at : (s : Figure) (shared : List SharedEdge) (number : ℕ) (e : SharedEdge) → AreSharedEdges s shared → slice_get shared number ≡ Some e → IsSharedEdge s e
shared_at s shared number e are at =
    let lt = slice_get_within shared number e at in
    let read = inside (sym (slice_get-get_or shared number e lt) ∙ at) in
    subst (IsSharedEdge s) read (are.only _ (Contains-get_or shared number e lt))

module _ (p : Task) (shared : List SharedEdge) (x : Pair) where
  -- among the first edges
  pub record IsShownBelow (k : ℕ) (e : Edge) : Type 0 where
    pub shown : IsShownEdge p shared x e
    pub below : shown.number < k

  -- those of the first edges were added
  pub record AreAdded (k : ℕ) (old new : List Edge) : Type 0 where
    pub more : List Edge
    pub added : new ≡ old ++ more
    pub listed : IsListing ItemComesBefore (IsShownBelow k) more
    pub few : length more ≤ k

  pub none_added : (old : List Edge) → AreAdded 0 old old
  none_added old = record {
    more = [];
    added = sym (append-nil old);
    listed = listing_nothing ItemComesBefore (IsShownBelow 0) (λ e is. omega (arith, is.below));
    few = omega arith;
  }

  pub all_added : (old new : List Edge) (k : ℕ) → length shared ≤ k → k ≤ length shared → AreAdded k old new → AddsEdges p shared x old new
  all_added old new k least most are = record {
    more = are.more;
    added = are.added;
    shown = listing_same ItemComesBefore (IsShownBelow k) (IsShownEdge p shared x) are.more (λ e is. is.shown) (λ e is. record { shown = is; below = let lt = slice_get_within shared is.number is.edge is.numbered in omega (arith, lt, least) }) are.listed;
    few = let few = are.few in omega (arith, few, most);
  }

  module _ (k : ℕ) (e : SharedEdge) (here : slice_get shared k ≡ Some e) where
    at_last : (f : Edge) (is : IsShownBelow (k + 1) f) → IsShownBelow k f ⊎ ((is.shown.number ≡ k) × (is.shown.edge ≡ e))
    at_last f is =
        ⊎_elim
        (λ same. inr (same.1, inside (sym is.shown.numbered ∙ ap (slice_get shared) same.1 ∙ here)))
        (λ other. inl (record { shown = is.shown; below = let below = is.below in omega (arith, below, other.1) }))
        (eqb_tells is.shown.number k)

    one_further : (f : Edge) → IsShownBelow k f → IsShownBelow (k + 1) f
    one_further f is = record { shown = is.shown; below = let below = is.below in omega (arith, below) }

    -- the next edge is none of the cell's
    pub none_more : (old new : List Edge) → ((side : ℕ) → IsSideOf e x.cell side → ⊥) → AreAdded k old new → AreAdded (k + 1) old new
    none_more old new none are = record {
      more = are.more;
      added = are.added;
      listed = listing_same ItemComesBefore (IsShownBelow k) (IsShownBelow (k + 1)) are.more one_further
          (λ f is. ⊎_elim (λ before. before) (λ last. absurd (none is.shown.side (subst (λ g. IsSideOf g x.cell is.shown.side) last.1 is.shown.side_of))) (at_last f is))
          are.listed;
      few = let few = are.few in omega (arith, few);
    }

    -- the next edge is one of the cell's
    pub one_more : (old new new' : List Edge) (side : ℕ) (y : Edge) → IsSharedEdge p.board e → IsSideOf e x.cell side → y.item ≡ item_count p + k → y.colour ≡ colour_given p e x.cell (colour_of p x.placement side) → new' ≡ new ++ y ∷ [] → AreAdded k old new → AreAdded (k + 1) old new'
    one_more old new new' side y is_edge at item colour pushed are = record {
      more = are.more ++ y ∷ [];
      added = pushed ∙ ap (λ (es : List Edge). es ++ y ∷ []) are.added ∙ append_assoc old are.more (y ∷ []);
      listed = listing_append ItemComesBefore (IsShownBelow k) (λ f. f ≡ y) (IsShownBelow (k + 1)) are.more (y ∷ []) are.listed (listing_one ItemComesBefore y)
          (λ f g is same. let number = is.shown.item in let below = is.below in let same_item = ap (λ (z : Edge). z.item) same in omega (arith, number, below, same_item, item))
          one_further
          (λ f same. subst (IsShownBelow (k + 1)) (sym same) (record { shown = record { number = k; edge = e; side = side; numbered = here; side_of = at; item = item; colour = colour }; below = omega arith }))
          (λ f is. ⊎_elim inl (λ last. inr (is_last f is.shown last.0 last.1)) (at_last f is));
      few = let few = are.few in let longer = length_push are.more y in omega (arith, few, longer);
    }
      where
        is_last : (f : Edge) (is : IsShownEdge p shared x f) → is.number ≡ k → is.edge ≡ e → f ≡ y
        is_last f is n g =
            let side_same : is.side ≡ side = one_side p.board e x.cell is.side side is_edge (subst (λ h. IsSideOf h x.cell is.side) g is.side_of) at in
            same_colours (is.item ∙ ap (λ i. item_count p + i) n ∙ sym item) (is.colour ∙ ap (λ h. colour_given p h x.cell (colour_of p x.placement is.side)) g ∙ ap (λ k. colour_given p e x.cell (colour_of p x.placement k)) side_same ∙ sym colour)
