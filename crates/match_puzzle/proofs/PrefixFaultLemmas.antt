-- The first fault of a list of pairs.
use Rattle.std.proofs.Common.{◌≡◌, ◌≢◌, ◌⊎◌, ◌<◌, ◌≤◌, ◌+◌, ℕ, zero, suc, Bool, true, false, List, Some, length, length-set, map, set, get_or, slice_get, arith, refl, sym, ap, ◌∙◌, subst, inl, inr, ⊎_elim}
use Rattle.match_limits.specs.declared.TheConstants.{MOST_CELLS, MOST_TILES}
use Rattle.std.proofs.lemmas.Bool.Decides.{eqb_tells}
use Rattle.std.proofs.lemmas.List.{length-map, get_or-map}
use Rattle.std.proofs.lemmas.Option.{slice_get_within, slice_get-get_or, get_or_from_slice_get}
use Rattle.match_board.specs.Board.{cell_count}
use Rattle.match_limits.specs.First.{AtMost}
use Rattle.match_puzzle.specs.Puzzle.{Task, IsLegal, IsLegalTurn}
use Rattle.match_puzzle.specs.Arrangement.{Stands}
use Rattle.match_puzzle.specs.PrefixFaults.{IsPairList, PrefixFails, prefix_rank, IsPrefixFault, IsNextCell, IsNewTile}
use Rattle.match_puzzle.specs.declared.placements.Placement.{Placement}
use Rattle.match_puzzle.specs.declared.placements.Pair.{Pair}
use Rattle.match_puzzle.specs.declared.faults.PrefixFault.{PrefixFault}
use Rattle.match_puzzle.specs.declared.faults.PrefixFault.TheVariants.{Cell, Tile, Turn}
use Rattle.match_puzzle.proofs.Prefixes.{inside}
use Rattle.match_puzzle.proofs.ArrangementLemmas.{AreSeen, seen_none, seen_more, seen_tells}

-- the placements of the pairs
abbrev pub placed : List Pair → List Placement
placed pairs = map (λ (x : Pair). x.placement) pairs

at_mapped : (pairs : List Pair) (i : ℕ) (x : Pair) → slice_get pairs i ≡ Some x → Stands (placed pairs) i x.placement
at_mapped pairs i x there =
    let lt = slice_get_within pairs i x there in
    slice_get-get_or (placed pairs) i x.placement (omega (arith, lt, length-map pairs (λ (y : Pair). y.placement)))
    ∙ ap Some (get_or-map (λ (y : Pair). y.placement) pairs i x x.placement lt ∙ ap (λ (y : Pair). y.placement) (get_or_from_slice_get pairs i x x there))

from_mapped : (pairs : List Pair) (i : ℕ) (z : Placement) → Stands (placed pairs) i z → (x : Pair) × (slice_get pairs i ≡ Some x) × (x.placement ≡ z)
from_mapped pairs i z there =
    let lt = slice_get_within (placed pairs) i z there in
    let in_pairs : i < length pairs = omega (arith, lt, length-map pairs (λ (y : Pair). y.placement)) in
    let d : Pair = record { cell = 0; placement = z } in
    let at = slice_get-get_or pairs i d in_pairs in
    (get_or pairs i d, at, inside (sym (at_mapped pairs i (get_or pairs i d) at) ∙ there))

-- The first pairs are right.
pub record AreRight (p : Task) (pairs : List Pair) (n least : ℕ) (marks : List Bool) : Type 0 where
  pub cells : (i : ℕ) (x : Pair) → i < n → slice_get pairs i ≡ Some x → x.cell < cell_count p.board
  pub rising : (i j : ℕ) (x y : Pair) → i < j → j < n → slice_get pairs i ≡ Some x → slice_get pairs j ≡ Some y → x.cell < y.cell
  pub legal : (i : ℕ) (x : Pair) → i < n → slice_get pairs i ≡ Some x → IsLegal p x.placement
  pub once : (i j : ℕ) (x y : Pair) → i < j → j < n → slice_get pairs i ≡ Some x → slice_get pairs j ≡ Some y → x.placement.tile ≢ y.placement.tile
  pub before : (i : ℕ) (x : Pair) → i < n → slice_get pairs i ≡ Some x → x.cell < least
  pub last : (i : ℕ) (x : Pair) → n ≡ i + 1 → slice_get pairs i ≡ Some x → least ≡ x.cell + 1
  pub first : n ≡ 0 → least ≡ 0
  pub small : least ≤ cell_count p.board
  pub few : (n ≤ least) × (least ≤ MOST_CELLS)
  pub long : length marks ≡ MOST_TILES
  pub seen : AreSeen (placed pairs) n marks

module _ (p : Task) (pairs : List Pair) where
  pub right_none : (seen : List Bool) → length seen ≡ MOST_TILES → ((tile : ℕ) → tile < MOST_TILES → get_or seen tile false ≡ false) → AreRight p pairs 0 0 seen
  right_none seen long none = record {
    cells = λ i x lt. absurd (omega (arith, lt));
    rising = λ i j x y lt in_range. absurd (omega (arith, in_range));
    legal = λ i x lt. absurd (omega (arith, lt));
    once = λ i j x y lt in_range. absurd (omega (arith, in_range));
    before = λ i x lt. absurd (omega (arith, lt));
    last = λ i x e. absurd (omega (arith, e));
    first = λ e. refl;
    small = omega arith;
    few = (omega arith, omega arith);
    long = long;
    seen = seen_none (placed pairs) seen none;
  }

  -- one right pair more
  module _ (n least : ℕ) (seen : List Bool) (right : AreRight p pairs n least seen) (x : Pair) (there : slice_get pairs n ≡ Some x) where
    same : (y : Pair) → slice_get pairs n ≡ Some y → y ≡ x
    same y at = inside (sym at ∙ there)

    -- no tile of an earlier pair
    new_tile : IsNewTile p seen x.placement.tile → x.placement.tile < MOST_TILES → (i : ℕ) (y : Pair) → i < n → slice_get pairs i ≡ Some y → y.placement.tile ≢ x.placement.tile
    new_tile new small i y lt at = (seen_tells (placed pairs) n x.placement.tile seen small right.seen).1 new.2 i y.placement lt (at_mapped pairs i y at)

    pub right_more : IsNextCell p least x.cell → IsNewTile p seen x.placement.tile → x.placement.tile < MOST_TILES → IsLegal p x.placement → AreRight p pairs (n + 1) (x.cell + 1) (set seen x.placement.tile true)
    right_more next new small legal = record {
      cells = λ i y lt at. ⊎_elim (λ e. subst (λ (z : Pair). z.cell < cell_count p.board) (sym (same y (subst (λ k. slice_get pairs k ≡ Some y) e.1 at))) next.1) (λ ne. right.cells i y (omega (arith, lt, ne.1)) at) (eqb_tells i n);
      rising = λ i j y z lt in_range at_i at_j.
          ⊎_elim
          (λ e. let is = ap (λ (w : Pair). w.cell) (same z (subst (λ k. slice_get pairs k ≡ Some z) e.1 at_j)) in omega (arith, right.before i y (omega (arith, lt, e.1)) at_i, next.0, is))
          (λ ne. right.rising i j y z lt (omega (arith, in_range, ne.1)) at_i at_j)
          (eqb_tells j n);
      legal = λ i y lt at. ⊎_elim (λ e. subst (λ (z : Pair). IsLegal p z.placement) (sym (same y (subst (λ k. slice_get pairs k ≡ Some y) e.1 at))) legal) (λ ne. right.legal i y (omega (arith, lt, ne.1)) at) (eqb_tells i n);
      once = λ i j y z lt in_range at_i at_j.
          ⊎_elim
          (λ e.
          let is = ap (λ (w : Pair). w.placement.tile) (same z (subst (λ k. slice_get pairs k ≡ Some z) e.1 at_j)) in
          λ eq. new_tile new small i y (omega (arith, lt, e.1)) at_i (eq ∙ is))
          (λ ne. right.once i j y z lt (omega (arith, in_range, ne.1)) at_i at_j)
          (eqb_tells j n);
      before = λ i y lt at. ⊎_elim (λ e. let is = ap (λ (w : Pair). w.cell) (same y (subst (λ k. slice_get pairs k ≡ Some y) e.1 at)) in omega (arith, is)) (λ ne. omega (arith, right.before i y (omega (arith, lt, ne.1)) at, next.0)) (eqb_tells i n);
      last = λ i y e at. let is = ap (λ (w : Pair). w.cell) (same y (subst (λ k. slice_get pairs k ≡ Some y) (let s : i ≡ n = omega (arith, e) in s) at)) in omega (arith, is);
      first = λ e. absurd (omega (arith, e));
      small = omega (arith, next.1);
      few = (omega (arith, right.few.0, next.0), omega (arith, next.2));
      long = length-set seen x.placement.tile true ∙ right.long;
      seen = seen_more (placed pairs) n x.placement seen (at_mapped pairs n x there) right.long right.seen;
    }

    -- ---- which fault is first

    -- no fault at an earlier place
    none_before : (m : ℕ) → m < n → (PrefixFails p pairs (Cell m) → ⊥) × (PrefixFails p pairs (Tile m) → ⊥) × (PrefixFails p pairs (Turn m) → ⊥)
    none_before m lt = (
      λ o. ⊎_elim (λ w. omega (arith, w, right.cells m o.0 lt o.1)) (λ w. omega (arith, w.4, right.rising w.0 m w.1 o.0 (omega (arith, w.2)) lt w.3 o.1)) o.2,
      λ o. ⊎_elim (λ w. omega (arith, w, (right.legal m o.0 lt o.1).tile)) (λ w. right.once w.0 m w.1 o.0 w.2 lt w.3 o.1 (sym w.4)) o.2,
      λ o. o.2 (right.legal m o.0 lt o.1).turn,
    )

    -- no wrong cell where the cell is the next
    cell_right : IsNextCell p least x.cell → PrefixFails p pairs (Cell n) → ⊥
    cell_right next o =
        let is = ap (λ (w : Pair). w.cell) (same o.0 o.1) in
        ⊎_elim (λ w. omega (arith, w, is, next.1)) (λ w. omega (arith, w.4, is, next.0, right.last w.0 w.1 w.2 w.3)) o.2

    tile_right : IsNewTile p seen x.placement.tile → x.placement.tile < MOST_TILES → PrefixFails p pairs (Tile n) → ⊥
    tile_right new small o =
        let is = ap (λ (w : Pair). w.placement.tile) (same o.0 o.1) in
        ⊎_elim (λ w. omega (arith, w, is, new.0)) (λ w. new_tile new small w.0 w.1 w.2 w.3 (sym w.4 ∙ is)) o.2

    at_most : (kind m other : ℕ) → (m < n → ⊥) → (m ≡ n → kind ≤ other) → AtMost (record { first = n; second = kind; third = 0 }) (record { first = m; second = other; third = 0 })
    at_most kind m other not_before le = record { first = omega (arith, not_before); second = λ e. le (sym e); third = λ e f. omega arith }

    pub first_cell : ((x.cell < least) ⊎ (cell_count p.board ≤ x.cell)) → IsPrefixFault p pairs (Cell n)
    first_cell wrong = record { occurs = (x, there, ⊎_elim (λ lt. by_number n refl there lt) (λ le. inl le) wrong); first = by_kind }
      where
        by_number : (k : ℕ) → n ≡ k → slice_get pairs k ≡ Some x → x.cell < least → (cell_count p.board ≤ x.cell) ⊎ ((before : ℕ) × (y : Pair) × (n ≡ before + 1) × (slice_get pairs before ≡ Some y) × (x.cell ≤ y.cell))
        by_number zero e at lt = absurd (omega (arith, right.first e, lt))
        by_number (suc k) e at lt =
            let y = get_or pairs k x in
            let there = slice_get-get_or pairs k x (omega (arith, slice_get_within pairs (suc k) x at)) in
            inr (k, y, omega (arith, e), there, omega (arith, right.last k y (omega (arith, e)) there, lt))

        by_kind : (g : PrefixFault) → PrefixFails p pairs g → AtMost (prefix_rank (Cell n)) (prefix_rank g)
        by_kind (Cell m) o = at_most 1 m 1 (λ lt. (none_before m lt).0 o) (λ e. omega arith)
        by_kind (Tile m) o = at_most 1 m 2 (λ lt. (none_before m lt).1 o) (λ e. omega arith)
        by_kind (Turn m) o = at_most 1 m 3 (λ lt. (none_before m lt).2 o) (λ e. omega arith)

    pub first_tile : IsNextCell p least x.cell → ((length p.words ≤ x.placement.tile) ⊎ ((x.placement.tile < MOST_TILES) × (get_or seen x.placement.tile false ≡ true))) → IsPrefixFault p pairs (Tile n)
    first_tile next wrong = record { occurs = (x, there, ⊎_elim (λ le. inl le) (λ w. inr (earlier w.0 w.1)) wrong); first = by_kind }
      where
        earlier : x.placement.tile < MOST_TILES → get_or seen x.placement.tile false ≡ true → (before : ℕ) × (y : Pair) × (before < n) × (slice_get pairs before ≡ Some y) × (x.placement.tile ≡ y.placement.tile)
        earlier small is =
            let w = (seen_tells (placed pairs) n x.placement.tile seen small right.seen).0 is in
            let y = from_mapped pairs w.0 w.1 w.3 in
            (w.0, y.0, w.2, y.1, sym (ap (λ (z : Placement). z.tile) y.2 ∙ w.4))

        by_kind : (g : PrefixFault) → PrefixFails p pairs g → AtMost (prefix_rank (Tile n)) (prefix_rank g)
        by_kind (Cell m) o = at_most 2 m 1 (λ lt. (none_before m lt).0 o) (λ e. absurd (cell_right next (subst (λ k. PrefixFails p pairs (Cell k)) e o)))
        by_kind (Tile m) o = at_most 2 m 2 (λ lt. (none_before m lt).1 o) (λ e. omega arith)
        by_kind (Turn m) o = at_most 2 m 3 (λ lt. (none_before m lt).2 o) (λ e. omega arith)

    pub first_turn : IsNextCell p least x.cell → IsNewTile p seen x.placement.tile → x.placement.tile < MOST_TILES → (IsLegalTurn p x.placement → ⊥) → IsPrefixFault p pairs (Turn n)
    first_turn next new small wrong = record { occurs = (x, there, wrong); first = by_kind }
      where
        by_kind : (g : PrefixFault) → PrefixFails p pairs g → AtMost (prefix_rank (Turn n)) (prefix_rank g)
        by_kind (Cell m) o = at_most 3 m 1 (λ lt. (none_before m lt).0 o) (λ e. absurd (cell_right next (subst (λ k. PrefixFails p pairs (Cell k)) e o)))
        by_kind (Tile m) o = at_most 3 m 2 (λ lt. (none_before m lt).1 o) (λ e. absurd (tile_right new small (subst (λ k. PrefixFails p pairs (Tile k)) e o)))
        by_kind (Turn m) o = at_most 3 m 3 (λ lt. (none_before m lt).2 o) (λ e. omega arith)

  -- where all are right the list is a prefix
  pub right_all : (n least : ℕ) (seen : List Bool) → length pairs ≤ n → AreRight p pairs n least seen → IsPairList p pairs
  right_all n least seen all right = record {
    cells = λ i x at. right.cells i x (within i x at) at;
    rising = λ i j x y at_i at_j lt. right.rising i j x y lt (within j y at_j) at_i at_j;
    legal = λ i x at. right.legal i x (within i x at) at;
    once = λ i j x y at_i at_j same.
        let not_before : (i < j → ⊥) = λ lt. right.once i j x y lt (within j y at_j) at_i at_j same in
        let not_after : (j < i → ⊥) = λ lt. right.once j i y x lt (within i x at_i) at_j at_i (sym same) in
        omega (arith, not_before, not_after);
  }
    where
      within : (i : ℕ) (x : Pair) → slice_get pairs i ≡ Some x → i < n
      within i x at = omega (arith, slice_get_within pairs i x at, all)
