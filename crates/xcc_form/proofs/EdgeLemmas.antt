-- Sides that meet, and the lists of shared edges.
use Rattle.std.proofs.Common.{◌≡◌, ◌≢◌, ◌<◌, ◌≤◌, ◌+◌, ℕ, List, [], ◌∷◌, ◌++◌, Option, Some, None, arith, ap, sym, ◌∙◌, subst, inl, inr, ⊎_elim}
use Rattle.std.proofs.lemmas.Option.{none-some, some_pair_parts}
use Rattle.match_board.specs.Board.{LiesBefore, StandsAt, Meets, cell_count, side_count}
use Rattle.match_board.specs.declared.figures.Figure.{Figure}
use Rattle.match_board.specs.declared.figures.Figure.TheVariants.{Rectangle, Triangle, Hexagon, Shape}
use Rattle.match_limits.specs.Listing.{IsListing, ByKey, HoldsBefore}
use Rattle.match_limits.proofs.Listings.{listing_push, listing_skip}
use Rattle.match_board.proofs.Places.{one_place, StandsAt-in_range}
use Rattle.match_puzzle.proofs.ArrangementLemmas.{side_in_range}
use Rattle.xcc_form.specs.Options.{IsSharedEdge, least_place}
use Rattle.xcc_form.specs.declared.edges.SharedEdge.{SharedEdge}

-- ---- a cell does not meet itself

elsewhere : (s : Figure) (row place side row' place' side' : ℕ) → LiesBefore s row place side row' place' side' → row ≡ row' → place ≡ place' → ⊥
elsewhere (Rectangle width height) row place side row' place' side' (inl b) r q = omega (arith, b.3, q)
elsewhere (Rectangle width height) row place side row' place' side' (inr b) r q = omega (arith, b.2, r)
elsewhere (Triangle size) row place side row' place' side' (inl b) r q = omega (arith, b.4, q)
elsewhere (Triangle size) row place side row' place' side' (inr (inl b)) r q = omega (arith, b.4, q)
elsewhere (Triangle size) row place side row' place' side' (inr (inr b)) r q = omega (arith, b.3, r)
elsewhere (Hexagon size) row place side row' place' side' (inl b) r q = omega (arith, b.4, q)
elsewhere (Hexagon size) row place side row' place' side' (inr (inl b)) r q = omega (arith, b.4, q)
elsewhere (Hexagon size) row place side row' place' side' (inr (inr b)) r q = omega (arith, b.3, r)
elsewhere (Shape width height mask) row place side row' place' side' (inl b) r q = omega (arith, b.3, q)
elsewhere (Shape width height mask) row place side row' place' side' (inr b) r q = omega (arith, b.2, r)

-- sides that meet are of different cells
pub other_cell : {s : Figure} {cell side cell' side' : ℕ} → Meets s cell side cell' side' → cell ≢ cell'
other_cell {s} {cell} {side} {cell'} {side'} m e =
    let there : StandsAt s cell m.row' m.place' = subst (λ c. StandsAt s c m.row' m.place') (sym e) m.there in
    let same = one_place m.here there in
    ⊎_elim
    (λ b. elsewhere s m.row m.place side m.row' m.place' side' b same.0 same.1)
    (λ b. elsewhere s m.row' m.place' side' m.row m.place side b (sym same.0) (sym same.1))
    m.against

-- sides that meet are of cells of the board
pub met_cells : {s : Figure} {cell side cell' side' : ℕ} → Meets s cell side cell' side' → (cell < cell_count s) × (cell' < cell_count s)
met_cells m = (StandsAt-in_range m.here, StandsAt-in_range m.there)

-- ---- the edge whose lesser place is known

abbrev edge : (cell side other_cell other_side : ℕ) → SharedEdge
edge cell side other_cell other_side = record { cell = cell; side = side; other_cell = other_cell; other_side = other_side }

same_edge : {e f : SharedEdge} → e.cell ≡ f.cell → e.side ≡ f.side → e.other_cell ≡ f.other_cell → e.other_side ≡ f.other_side → e ≡ f
same_edge {e} {f} a b c d =
    ap (λ k. edge k e.side e.other_cell e.other_side) a
    ∙ ap (λ k. edge f.cell k e.other_cell e.other_side) b
    ∙ ap (λ k. edge f.cell f.side k e.other_side) c
    ∙ ap (λ k. edge f.cell f.side f.other_cell k) d

both_same : {a b c d : ℕ} → ◌≡◌ {A = Option (ℕ × ℕ)} (Some (a, b)) (Some (c, d)) → (a ≡ c) × (b ≡ d)
both_same {a} {b} {c} {d} e = some_pair_parts a c b d e

-- what a side meets is known
abbrev pub MeetsOnly : Figure → (cell side : ℕ) → Option (ℕ × ℕ) → Type 0
MeetsOnly s cell side met = (c k : ℕ) → Meets s cell side c k → met ≡ Some (c, k)

at_place : (s : Figure) (cell side : ℕ) (met : Option (ℕ × ℕ)) (e : SharedEdge) → MeetsOnly s cell side met → IsSharedEdge s e → e.cell ≡ cell → e.side ≡ side → met ≡ Some (e.other_cell, e.other_side)
at_place s cell side met e only is c k =
    only e.other_cell e.other_side (subst (λ n. Meets s n side e.other_cell e.other_side) c (subst (λ n. Meets s e.cell n e.other_cell e.other_side) k is.0))

pub none_from : (s : Figure) (cell side : ℕ) → MeetsOnly s cell side None → (e : SharedEdge) → IsSharedEdge s e → e.cell ≡ cell → e.side ≡ side → ⊥
none_from s cell side only e is c k = none-some (e.other_cell, e.other_side) (at_place s cell side None e only is c k)

pub greater_from : (s : Figure) (cell side other other_side : ℕ) → MeetsOnly s cell side (Some (other, other_side)) → other ≤ cell → (e : SharedEdge) → IsSharedEdge s e → e.cell ≡ cell → e.side ≡ side → ⊥
greater_from s cell side other other_side only le e is c k =
    let same = both_same (at_place s cell side (Some (other, other_side)) e only is c k) in
    ⊎_elim (λ lt. omega (arith, lt, le, c, same.0)) (λ eq. other_cell is.0 eq.0) is.1

pub one_from : (s : Figure) (cell side other other_side : ℕ) → MeetsOnly s cell side (Some (other, other_side)) → (e f : SharedEdge) → e.cell ≡ cell → e.side ≡ side → e.other_cell ≡ other → e.other_side ≡ other_side → IsSharedEdge s f → f.cell ≡ cell → f.side ≡ side → f ≡ e
one_from s cell side other other_side only e f ec ek eo es is c k =
    let same = both_same (at_place s cell side (Some (other, other_side)) f only is c k) in
    same_edge (c ∙ sym ec) (k ∙ sym ek) (sym same.0 ∙ sym eo) (sym same.1 ∙ sym es)

-- ---- bounds of a listing

pub edge_sides : {s : Figure} {e : SharedEdge} → IsSharedEdge s e → e.side < side_count s
edge_sides is = side_in_range is.0

pub edge_cells : {s : Figure} {e : SharedEdge} → IsSharedEdge s e → e.cell < cell_count s
edge_cells is = (met_cells is.0).0

-- ---- one place more

abbrev pub AreEdgesBefore : Figure → ℕ × ℕ → List SharedEdge → Type 0
AreEdgesBefore s n edges = IsListing (ByKey least_place) (HoldsBefore least_place (IsSharedEdge s) n) edges

pub edge_more : (s : Figure) (cell side : ℕ) (old new : List SharedEdge) (e : SharedEdge) → IsSharedEdge s e → e.cell ≡ cell → e.side ≡ side → ((f : SharedEdge) → IsSharedEdge s f → f.cell ≡ cell → f.side ≡ side → f ≡ e) → new ≡ old ++ e ∷ [] → AreEdgesBefore s (cell, side) old → AreEdgesBefore s (cell, side + 1) new
edge_more s cell side old new e is c k one pushed before =
    subst (AreEdgesBefore s (cell, side + 1)) (sym pushed)
    (listing_push least_place (IsSharedEdge s) (cell, side) old e is (ap (λ (n : ℕ). (n, e.side)) c ∙ ap (λ (n : ℕ). (cell, n)) k) one before)

pub no_edge_more : (s : Figure) (cell side : ℕ) (old new : List SharedEdge) → ((f : SharedEdge) → IsSharedEdge s f → f.cell ≡ cell → f.side ≡ side → ⊥) → new ≡ old → AreEdgesBefore s (cell, side) old → AreEdgesBefore s (cell, side + 1) new
no_edge_more s cell side old new none same before =
    subst (AreEdgesBefore s (cell, side + 1)) (sym same) (listing_skip least_place (IsSharedEdge s) (cell, side) old none before)
