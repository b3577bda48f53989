-- The first fault of a list of placements.
use Rattle.std.proofs.Common.{◌≡◌, ◌≢◌, ◌<◌, ◌+◌, ℕ, Bool, true, false, MatchBool, List, Option, length, set, get_or, below_more, arith, sym, ap, ◌∙◌, subst, ⊎_elim}
use Rattle.match_limits.specs.declared.TheConstants.{MOST_TILES}
use Rattle.std.proofs.lemmas.Option.{slice_get-get_or, get_or_from_slice_get}
use Rattle.std.proofs.lemmas.List.{get_or-set_same, get_or-set_other}
use Rattle.std.proofs.lemmas.Bool.Decides.{eqb_tells}
use Rattle.match_puzzle.proofs.Prefixes.{inside}
use Rattle.match_board.proofs.Places.{against_in_range, Meets-turned}
use Rattle.match_board.specs.Board.{cell_count, side_count, Meets}
use Rattle.match_board.specs.declared.figures.Figure.{Figure}
use Rattle.match_limits.specs.First.{IsLeast, IsLeastPair, AtMost}
use Rattle.match_puzzle.specs.Puzzle.{Task, IsPuzzle, GoTogether, colour_of, mate_of}
use Rattle.match_puzzle.specs.Arrangement.{Stands, HaveTiles, AreLegal, StandOnce, ObeyBorder, MatchesEdgeAt, MatchEdges}
use Rattle.match_puzzle.specs.ArrangementFaults.{ArrangementFails, arrangement_rank, IsArrangementFault, HasNoTileAt, HasNoTurnAt, RepeatsTileAt, BreaksBorderAt, BreaksEdgeAt}
use Rattle.match_puzzle.specs.Tables.{IsSide}
use Rattle.match_puzzle.specs.declared.tables.Side.TheVariants.{Border}
use Rattle.match_puzzle.specs.declared.placements.Placement.{Placement}
use Rattle.match_puzzle.proofs.TogetherLemmas.{together_turned}
use Rattle.match_limits.proofs.FirstLemmas.{sooner, not_after_itself, not_after_number, not_after_pair}
use Rattle.match_puzzle.specs.declared.faults.ArrangementFault.{ArrangementFault}
use Rattle.match_puzzle.specs.declared.faults.ArrangementFault.TheVariants.{Length, TileRange, Turn, TileTwice, BorderBroken, EdgeBroken}

module _ (p : Task) (a : List Placement) where
  pub first_length : length a ≢ cell_count p.board → IsArrangementFault p a Length
  first_length wrong = record { occurs = wrong; first = λ g o. by_kind g }
    where
      by_kind : (g : ArrangementFault) → AtMost (arrangement_rank Length) (arrangement_rank g)
      by_kind Length = not_after_itself _
      by_kind g = sooner _ _ (omega arith)

  module _ (long : length a ≡ cell_count p.board) where
    pub first_range : (cell : ℕ) → IsLeast (HasNoTileAt p a) cell → IsArrangementFault p a (TileRange cell)
    first_range cell least = record { occurs = least.holds; first = by_kind }
      where
        by_kind : (g : ArrangementFault) → ArrangementFails p a g → AtMost (arrangement_rank (TileRange cell)) (arrangement_rank g)
        by_kind Length o = absurd (o long)
        by_kind (TileRange c) o = not_after_number _ 2 cell c least o
        by_kind g o = sooner _ _ (omega arith)

    module _ (no_range : (c : ℕ) → HasNoTileAt p a c → ⊥) where
      pub first_turn : (cell : ℕ) → IsLeast (HasNoTurnAt p a) cell → IsArrangementFault p a (Turn cell)
      first_turn cell least = record { occurs = least.holds; first = by_kind }
        where
          by_kind : (g : ArrangementFault) → ArrangementFails p a g → AtMost (arrangement_rank (Turn cell)) (arrangement_rank g)
          by_kind Length o = absurd (o long)
          by_kind (TileRange c) o = absurd (no_range c o)
          by_kind (Turn c) o = not_after_number _ 3 cell c least o
          by_kind g o = sooner _ _ (omega arith)

      module _ (no_turn : (c : ℕ) → HasNoTurnAt p a c → ⊥) where
        pub first_twice : (cell : ℕ) → IsLeast (RepeatsTileAt p a) cell → IsArrangementFault p a (TileTwice cell)
        first_twice cell least = record { occurs = least.holds; first = by_kind }
          where
            by_kind : (g : ArrangementFault) → ArrangementFails p a g → AtMost (arrangement_rank (TileTwice cell)) (arrangement_rank g)
            by_kind Length o = absurd (o long)
            by_kind (TileRange c) o = absurd (no_range c o)
            by_kind (Turn c) o = absurd (no_turn c o)
            by_kind (TileTwice c) o = not_after_number _ 4 cell c least o
            by_kind g o = sooner _ _ (omega arith)

        module _ (no_twice : (c : ℕ) → RepeatsTileAt p a c → ⊥) where
          pub first_border : (cell side : ℕ) → IsLeastPair (BreaksBorderAt p a) (cell, side) → IsArrangementFault p a (BorderBroken cell side)
          first_border cell side least = record { occurs = least.holds; first = by_kind }
            where
              by_kind : (g : ArrangementFault) → ArrangementFails p a g → AtMost (arrangement_rank (BorderBroken cell side)) (arrangement_rank g)
              by_kind Length o = absurd (o long)
              by_kind (TileRange c) o = absurd (no_range c o)
              by_kind (Turn c) o = absurd (no_turn c o)
              by_kind (TileTwice c) o = absurd (no_twice c o)
              by_kind (BorderBroken c k) o = not_after_pair _ 5 cell side c k least o
              by_kind g o = sooner _ _ (omega arith)

          module _ (no_border : (c k : ℕ) → BreaksBorderAt p a c k → ⊥) where
            pub first_edge : (cell side : ℕ) → IsLeastPair (BreaksEdgeAt p a) (cell, side) → IsArrangementFault p a (EdgeBroken cell side)
            first_edge cell side least = record { occurs = least.holds; first = by_kind }
              where
                by_kind : (g : ArrangementFault) → ArrangementFails p a g → AtMost (arrangement_rank (EdgeBroken cell side)) (arrangement_rank g)
                by_kind Length o = absurd (o long)
                by_kind (TileRange c) o = absurd (no_range c o)
                by_kind (Turn c) o = absurd (no_turn c o)
                by_kind (TileTwice c) o = absurd (no_twice c o)
                by_kind (BorderBroken c k) o = absurd (no_border c k o)
                by_kind (EdgeBroken c k) o = not_after_pair _ 6 cell side c k least o

-- ---- what a fault of one kind would be

module _ (p : Task) (a : List Placement) where
  pub no_range : HaveTiles p a → (c : ℕ) → HasNoTileAt p a c → ⊥
  no_range good c o = omega (arith, good c o.0 o.1, o.2)

  pub no_turn : AreLegal p a → (c : ℕ) → HasNoTurnAt p a c → ⊥
  no_turn good c o = o.2 (good c o.0 o.1).turn

  pub no_twice : StandOnce a → (c : ℕ) → RepeatsTileAt p a c → ⊥
  no_twice good c o = omega (arith, good c o.1 o.0 o.2 o.3 o.5 o.6, o.4)

  pub no_border : ObeyBorder p a → (c k : ℕ) → BreaksBorderAt p a c k → ⊥
  no_border good c k o = o.4 (good c k o.1 o.0 o.2 o.3)

  pub no_edge : MatchEdges p a → (c k : ℕ) → BreaksEdgeAt p a c k → ⊥
  no_edge good c k o = o.7 (good c k o.1 o.2 o.0 o.3 o.5 o.4 o.6)

  -- no tile at two cells, where none stands at an earlier cell too
  pub once_by_order : ((c : ℕ) → RepeatsTileAt p a c → ⊥) → StandOnce a
  once_by_order none cell cell' x y s t same =
      let not_before : (cell < cell' → ⊥) = λ lt. none cell' (y, cell, x, t, lt, s, sym same) in
      let not_after : (cell' < cell → ⊥) = λ lt. none cell (x, cell', y, s, lt, t, same) in
      omega (arith, not_before, not_after)

-- ---- what was read at a place

-- the placement that was read stands there
pub read_stands : (a : List Placement) (cell : ℕ) (d : Placement) → cell < length a → Stands a cell (get_or a cell d)
read_stands a cell d lt = slice_get-get_or a cell d lt

-- what stands at a cell is what is read there
pub standing_is : (a : List Placement) (cell : ℕ) (x d : Placement) → Stands a cell x → get_or a cell d ≡ x
standing_is a cell x d stands = get_or_from_slice_get a cell x d stands

-- what is read where no cell is
abbrev pub first_tile : Placement
first_tile = record { tile = 0; turn = 0 }

-- what holds of all that stands before a cell and of what is read there, holds of all that stands before the next
pub one_more_stands : (P : Placement → Type 0) (a : List Placement) (cell : ℕ) (d : Placement) → ((k : ℕ) → k < cell → (x : Placement) → Stands a k x → P x) → P (get_or a cell d) →
    (k : ℕ) → k < cell + 1 → (x : Placement) → Stands a k x → P x
one_more_stands P a cell d before here =
    below_more (λ k. (x : Placement) → Stands a k x → P x) cell before (λ x stands. subst P (standing_is a cell x d stands) here)

-- a side that meets another one
pub edge_matches : (p : Task) (a : List Placement) (cell side cell' side' : ℕ) (d : Placement) → cell < length a → cell' < length a → Meets p.board cell side cell' side' → ((c k : ℕ) → Meets p.board cell side c k → (c ≡ cell') × (k ≡ side')) →
    (GoTogether p (colour_of p (get_or a cell d) side) (colour_of p (get_or a cell' d) side') → MatchesEdgeAt p a cell side)
    × ((GoTogether p (colour_of p (get_or a cell d) side) (colour_of p (get_or a cell' d) side') → ⊥) → BreaksEdgeAt p a cell side)
edge_matches p a cell side cell' side' d lt lt' met one = (
  λ e c k x y meets here there.
      let same = one c k meets in
      let at : get_or a cell' d ≡ y = standing_is a cell' y d (subst (λ n. Stands a n y) same.0 there) in
      sym (ap (λ z. colour_of p z side) (standing_is a cell x d here)) ∙ e ∙ ap (λ z. mate_of p (colour_of p z side')) at ∙ ap (λ n. mate_of p (colour_of p y n)) (sym same.1),
  λ ne. (get_or a cell d, cell', side', get_or a cell' d, read_stands a cell d lt, met, read_stands a cell' d lt', ne),
)

-- a side that meets one that matches it
pub matches_turned : (p : Task) → IsPuzzle p → (a : List Placement) (cell side cell' side' : ℕ) → Meets p.board cell side cell' side' → ((c k : ℕ) → Meets p.board cell side c k → (c ≡ cell') × (k ≡ side')) → MatchesEdgeAt p a cell' side' → MatchesEdgeAt p a cell side
matches_turned p puzzle a cell side cell' side' met one matches c k x y meets here there =
    let same = one c k meets in
    let turned = matches cell side y x (Meets-turned met) (subst (λ n. Stands a n y) same.0 there) here in
    together_turned p puzzle (colour_of p y k) (colour_of p x side) (ap (λ n. colour_of p y n) same.1 ∙ turned)

-- a side that meets none
pub border_matches : (p : Task) (a : List Placement) (cell side : ℕ) (rule : Option ℕ) → IsSide p cell side (Border rule) → MatchesEdgeAt p a cell side
border_matches p a cell side rule is = λ c k x y meets here there. absurd (is.0.meets_nothing c k meets)

-- ---- which tiles stand at the cells before one

module _ (a : List Placement) where
  -- The tile stands at an earlier cell.
  abbrev pub StandsBefore : (cell tile : ℕ) → Type 0
  StandsBefore cell tile = (k : ℕ) × (x : Placement) × (k < cell) × Stands a k x × (x.tile ≡ tile)

  -- The tile stands at no earlier cell.
  abbrev pub NotBefore : (cell tile : ℕ) → Type 0
  NotBefore cell tile = (k : ℕ) (x : Placement) → k < cell → Stands a k x → x.tile ≢ tile

  -- The table says of each tile whether it stands at an earlier cell.
  abbrev pub AreSeen : (cell : ℕ) → List Bool → Type 0
  AreSeen cell seen = (tile : ℕ) → tile < MOST_TILES → MatchBool (get_or seen tile false) (StandsBefore cell tile) (NotBefore cell tile)

  pub seen_none : (seen : List Bool) → ((tile : ℕ) → tile < MOST_TILES → get_or seen tile false ≡ false) → AreSeen 0 seen
  seen_none seen none = λ tile lt. subst (λ b. MatchBool b (StandsBefore 0 tile) (NotBefore 0 tile)) (sym (none tile lt)) (λ k x before. absurd (omega arith))

  seen_on : (cell : ℕ) (x : Placement) → Stands a cell x → (b : Bool) (tile : ℕ) → tile ≢ x.tile → MatchBool b (StandsBefore cell tile) (NotBefore cell tile) → MatchBool b (StandsBefore (cell + 1) tile) (NotBefore (cell + 1) tile)
  seen_on cell x here true tile ne h = (h.0, h.1, omega (arith, h.2), h.3, h.4)
  seen_on cell x here false tile ne h = λ k y lt stands same.
      ⊎_elim
      (λ e. let at : y ≡ x = inside (sym (subst (λ n. Stands a n y) e.1 stands) ∙ here) in ne (sym same ∙ ap (λ (z : Placement). z.tile) at))
      (λ ne. h k y (omega (arith, ne.1)) stands same)
      (eqb_tells k cell)

  pub seen_more : (cell : ℕ) (x : Placement) (seen : List Bool) → Stands a cell x → length seen ≡ MOST_TILES → AreSeen cell seen → AreSeen (cell + 1) (set seen x.tile true)
  seen_more cell x seen here long so_far = λ tile lt.
      ⊎_elim
      (λ e. subst (λ b. MatchBool b (StandsBefore (cell + 1) tile) (NotBefore (cell + 1) tile)) (sym (ap (λ t. get_or (set seen x.tile true) t false) e.1 ∙ get_or-set_same seen x.tile true false (omega (arith, e.1, long))))
      (cell, x, omega arith, here, sym e.1))
      (λ ne. subst (λ b. MatchBool b (StandsBefore (cell + 1) tile) (NotBefore (cell + 1) tile)) (sym (get_or-set_other seen x.tile tile true false ne.1)) (seen_on cell x here (get_or seen tile false) tile ne.1 (so_far tile lt)))
      (eqb_tells tile x.tile)

  -- a tile that was seen is repeated
  pub seen_repeats : (p : Task) (cell : ℕ) (x : Placement) (seen : List Bool) → Stands a cell x → x.tile < MOST_TILES → AreSeen cell seen → get_or seen x.tile false ≡ true → RepeatsTileAt p a cell
  seen_repeats p cell x seen here lt so_far is =
      let w : StandsBefore cell x.tile = subst (λ b. MatchBool b (StandsBefore cell x.tile) (NotBefore cell x.tile)) is (so_far x.tile lt) in
      (x, w.0, w.1, here, w.2, w.3, sym w.4)

  -- a tile that was not seen is not repeated
  pub unseen_once : (p : Task) (cell : ℕ) (x : Placement) (seen : List Bool) → Stands a cell x → x.tile < MOST_TILES → AreSeen cell seen → get_or seen x.tile false ≡ false → RepeatsTileAt p a cell → ⊥
  unseen_once p cell x seen here lt so_far is o =
      let w : NotBefore cell x.tile = subst (λ b. MatchBool b (StandsBefore cell x.tile) (NotBefore cell x.tile)) is (so_far x.tile lt) in
      let at : o.0 ≡ x = inside (sym o.3 ∙ here) in
      w o.1 o.2 o.4 o.5 (sym o.6 ∙ ap (λ (z : Placement). z.tile) at)

-- a side that meets another is one of the cell's
pub side_in_range : {s : Figure} {cell side cell' side' : ℕ} → Meets s cell side cell' side' → side < side_count s
side_in_range {s} m = against_in_range s _ _ _ _ _ _ m.against

-- what the table says of a tile
pub seen_tells : (a : List Placement) (cell tile : ℕ) (seen : List Bool) → tile < MOST_TILES → AreSeen a cell seen → (get_or seen tile false ≡ true → StandsBefore a cell tile) × (get_or seen tile false ≡ false → NotBefore a cell tile)
seen_tells a cell tile seen lt so_far = (
  λ is. subst (λ b. MatchBool b (StandsBefore a cell tile) (NotBefore a cell tile)) is (so_far tile lt),
  λ is. subst (λ b. MatchBool b (StandsBefore a cell tile) (NotBefore a cell tile)) is (so_far tile lt),
)
