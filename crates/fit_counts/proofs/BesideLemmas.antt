-- Pairs beside one that is placed, as its sides are looked at one after the other.
use Rattle.std.proofs.Common.{◌≡◌, ◌≢◌, ◌⊎◌, ◌<◌, ◌≤◌, ◌+◌, ◌*◌, ◌/◌, ℕ, List, [], ◌∷◌, Contains, None, length, length-set, set, get_or, arith, refl, sym, ap, ◌∙◌, subst, inl, inr, ⊎_elim}
use Rattle.std.proofs.lemmas.List.{get_or-set_same, get_or-set_other}
use Rattle.std.proofs.lemmas.Option.{slice_get_within}
use Rattle.std.proofs.lemmas.Bool.Decides.{eqb_tells}
use Rattle.match_limits.specs.declared.TheConstants.{MOST_COLOURS}
use Rattle.match_board.specs.Board.{cell_count, side_count, Meets}
use Rattle.match_limits.specs.Listing.{IsListing, ByKey}
use Rattle.match_board.proofs.Places.{StandsAt-in_range, Meets-turned}
use Rattle.match_puzzle.specs.Puzzle.{Task, IsPuzzle, colour_of, mate_of}
use Rattle.match_puzzle.specs.Prefix.{Prefix, IsFree, with_pair}
use Rattle.match_puzzle.specs.Fitting.{Settles, IsUnsettled, item_key, numbered_pair}
use Rattle.match_puzzle.specs.PlacementSets.{AreFreeNumbers, AreShowing, numbered}
use Rattle.fit_counts.specs.FitRows.{StandsBeside}
use Rattle.fit_counts.specs.FitSizes.{AreSizesOf, AreCovered, FitsPair, FitsBeside}
use Rattle.match_limits.specs.NumberSets.{count_of_group}
use Rattle.fit_counts.specs.declared.fit_sizes.TheConstants.{STEP}
use Rattle.match_puzzle.specs.declared.placements.Pair.{Pair}
use Rattle.match_puzzle.specs.declared.items.Item.TheVariants.{Cell, Tile}
use Rattle.match_puzzle.proofs.Prefixes.{has_placed, has_new, has_still}
use Rattle.match_puzzle.proofs.ArrangementLemmas.{side_in_range}
use Rattle.match_puzzle.proofs.FittingLemmas.{fits_shown, shown_fits, small_turn, numbered_at, same_pair}
use Rattle.match_limits.proofs.SplitListings.{listing_as}
use Rattle.fit_counts.proofs.FitSizeLemmas.{AreGoneAt, enough_at_cell, enough_at_tile, sizes_without, covered_without}
use Rattle.fit_counts.proofs.PlacingLemmas.{free_before, free_still, unused_before, unused_still}

-- ---- one side more

module _ (p : Task) (q : Prefix) (x : Pair) (side : ℕ) (y : Pair) where
  pub beside_less : FitsBeside p q x (side + 1) y → FitsBeside p q x side y
  beside_less f = record {
    fits = f.fits;
    other_cell = f.other_cell;
    other_tile = f.other_tile;
    beside = λ k met lt meets. f.beside k met (omega (arith, lt)) meets;
  }

  pub beside_more : ((met : ℕ) → Meets p.board x.cell side y.cell met → colour_of p y.placement met ≡ mate_of p (colour_of p x.placement side)) → FitsBeside p q x side y → FitsBeside p q x (side + 1) y
  beside_more goes f = record {
    fits = f.fits;
    other_cell = f.other_cell;
    other_tile = f.other_tile;
    beside = λ k met lt meets.
        ⊎_elim
        (λ e. subst (λ j. colour_of p y.placement met ≡ mate_of p (colour_of p x.placement j)) (sym e.1) (goes met (subst (λ j. Meets p.board x.cell j y.cell met) e.1 meets)))
        (λ ne. let other = ne.1 in f.beside k met (omega (arith, lt, other)) meets)
        (eqb_tells k side);
  }

-- ---- all sides

module _ (p : Task) (q : Prefix) (x : Pair) (fits : FitsPair p q x) (y : Pair) where
  -- what goes with all sides fits beside the pair
  pub beside_fits : FitsBeside p q x (side_count p.board) y → FitsPair p (with_pair q x.cell x.placement) y
  beside_fits f = record {
    free = free_still p q x fits y.cell f.other_cell f.fits.free;
    unused = unused_still p q x fits y.placement.tile f.other_tile f.fits.unused;
    legal = f.fits.legal;
    border = f.fits.border;
    edges = λ side cell met z meets has.
        ⊎_elim
        (λ e.
        let back = Meets-turned (subst (λ k. Meets p.board y.cell side k met) e.0 meets) in
        f.beside met side (side_in_range back) back ∙ sym (ap (λ w. mate_of p (colour_of p w met)) e.1))
        (λ e. f.fits.edges side cell met z meets e.1)
        (has_placed q x.cell x.placement cell z fits.free has);
  }

  pub fits_beside : FitsPair p (with_pair q x.cell x.placement) y → FitsBeside p q x (side_count p.board) y
  fits_beside f = record {
    fits = record {
      free = (free_before p q x fits y.cell f.free).1;
      unused = (unused_before p q x fits y.placement.tile f.unused).1;
      legal = f.legal;
      border = f.border;
      edges = λ side cell met z meets has. f.edges side cell met z meets (has_still q x.cell x.placement cell z fits.free has);
    };
    other_cell = (free_before p q x fits y.cell f.free).0;
    other_tile = (unused_before p q x fits y.placement.tile f.unused).0;
    beside = λ side met lt meets. f.edges met x.cell side x.placement (Meets-turned meets) (has_new q x.cell x.placement fits.free);
  }

-- ---- what goes out at the cell that a side meets

-- The numbers that go out are those of the cell's row that don't show what is asked, and whose tiles are unused and not
-- the pair's.
pub record AreGone (p : Task) (q : Prefix) (x : Pair) (side cell met asked : ℕ) (kept row free_numbers without gone : List ℕ) : Type 0 where
  pub puzzle : IsPuzzle p
  pub fits : FitsPair p q x
  pub meets : Meets p.board x.cell side cell met
  pub one : (c k : ℕ) → Meets p.board x.cell side c k → (c ≡ cell) × (k ≡ met)
  pub mate : asked ≡ mate_of p (colour_of p x.placement side)
  pub few : asked < MOST_COLOURS
  pub showing : AreShowing p.words asked met kept
  pub in_row : IsListing ◌<◌ (StandsBeside p q x side cell) row
  pub are_free : AreFreeNumbers p q free_numbers
  pub are_without : IsListing ◌<◌ (λ n. Contains row n × (Contains kept n → ⊥) × Contains free_numbers n) without
  pub are_gone : IsListing ◌<◌ (λ n. Contains without n × (n / 4 ≢ x.placement.tile)) gone

module _ (p : Task) (q : Prefix) (x : Pair) (side cell met asked : ℕ) (kept row free_numbers without gone : List ℕ) (are : AreGone p q x side cell met asked kept row free_numbers without gone) where
  -- they fit beside the sides before
  pub gone_beside : (n : ℕ) → Contains gone n → FitsBeside p q x side (numbered_pair (Cell cell) n)
  gone_beside n c =
      let g = are.are_gone.only n c in
      let w = are.are_without.only n g.0 in
      let s = are.in_row.only n w.0 in
      let f = are.are_free.only n w.2 in
      record {
        fits = fits_shown p q cell (numbered n) (free_before p q x are.fits cell s.free).1 f.1 s.legal (λ k lt. s.shows k);
        other_cell = (free_before p q x are.fits cell s.free).0;
        other_tile = g.1;
        beside = s.beside;
      }

  -- and not beside this one
  pub gone_not : (n : ℕ) → Contains gone n → FitsBeside p q x (side + 1) (numbered_pair (Cell cell) n) → ⊥
  unfolding colour_of
  gone_not n c f =
      let w = are.are_without.only n (are.are_gone.only n c).0 in
      let tile_in = f.fits.legal.tile in
      let long = are.puzzle.sides (n / 4) tile_in in
      let met_in = side_in_range (Meets-turned are.meets) in
      w.1 (are.showing.all n (tile_in, λ some. (omega (arith, long, met_in), f.beside side met (omega arith) are.meets ∙ sym are.mate)))

  -- a number of what fits beside the sides before, and doesn't show what is asked, is gone
  other_gone : (n : ℕ) → FitsBeside p q x side (numbered_pair (Cell cell) n) → colour_of p (numbered n) met ≢ asked → Contains gone n
  unfolding colour_of
  other_gone n f differs =
      are.are_gone.all n (
        are.are_without.all n (
          are.in_row.all n (record {
            free = free_still p q x are.fits cell f.other_cell f.fits.free;
            legal = f.fits.legal;
            shows = shown_fits p q cell (numbered n) f.fits;
            beside = f.beside;
          }),
          λ k. let few = are.few in differs ((are.showing.only n k).1 (λ any. omega (arith, few, any))).1,
          are.are_free.all n (f.fits.legal, f.fits.unused),
        ),
        f.other_tile,
      )

  -- of the other pairs each stays or is gone
  pub kept_or_gone : (y : Pair) → FitsBeside p q x side y → FitsBeside p q x (side + 1) y ⊎ ((n : ℕ) × Contains gone n × (numbered_pair (Cell cell) n ≡ y))
  kept_or_gone y f =
      ⊎_elim
      (λ e.
      let n = 4 * y.placement.tile + y.placement.turn in
      let same : numbered_pair (Cell cell) n ≡ y = same_pair (sym e.1) (numbered_at y.placement.tile y.placement.turn (small_turn p y.placement are.puzzle f.fits.legal)) in
      ⊎_elim
      (λ shows. inl (beside_more p q x side y (λ k meets. ap (λ j. colour_of p y.placement j) (are.one y.cell k meets).1 ∙ ap (λ (z : Pair). colour_of p z.placement met) (sym same) ∙ shows.1 ∙ are.mate) f))
      (λ differs. inr (n, other_gone n (subst (FitsBeside p q x side) (sym same) f) differs.1, same))
      (eqb_tells (colour_of p (numbered n) met) asked))
      (λ ne. inl (beside_more p q x side y (λ k meets. absurd (ne.1 (are.one y.cell k meets).0)) f))
      (eqb_tells y.cell cell)

  pub gone_at : AreGoneAt p (with_pair q x.cell x.placement) cell (FitsBeside p q x side) (FitsBeside p q x (side + 1)) gone
  gone_at = record {
    rising = are.are_gone.rising;
    among = gone_beside;
    out = gone_not;
    before = λ y f. beside_less p q x side y f;
    either = λ item y is_open settles f. kept_or_gone y f;
  }

  -- their cell is empty, and their tiles are unused
  gone_free : (n : ℕ) → Contains gone n → IsFree (with_pair q x.cell x.placement) cell
  gone_free n c = let f = gone_beside n c in free_still p q x are.fits cell f.other_cell f.fits.free

  gone_open : (n : ℕ) → Contains gone n → IsUnsettled p (with_pair q x.cell x.placement) (Tile (n / 4))
  gone_open n c = let f = gone_beside n c in (f.fits.legal.tile, unused_still p q x are.fits (n / 4) f.other_tile f.fits.unused)

  -- none, where something stands at the cell
  none_at_settled : (IsFree q cell → ⊥) → length gone ≡ 0
  none_at_settled settled = none_in gone (λ n c. settled (gone_beside n c).fits.free)
    where
      none_in : (numbers : List ℕ) → ((n : ℕ) → Contains numbers n → ⊥) → length numbers ≡ 0
      none_in [] none = refl
      none_in (n ∷ numbers) none = absurd (none n (0, omega arith, refl))

  -- The cell's entry is lowered first, and those of the tiles then.
  module _ (cells : ℕ) (cells_is : cells ≡ cell_count p.board) (old : List ℕ) (sizes : AreSizesOf p (with_pair q x.cell x.placement) (FitsBeside p q x side) old) where
    cell_in : cell < cells
    cell_in = let lt = StandsAt-in_range are.meets.there in omega (arith, lt, cells_is)

    pub side_below : (entry n : ℕ) → Contains gone n → cells + n / 4 < length (set old cell entry)
    side_below entry n c = let tile = (gone_beside n c).fits.legal.tile in let long = sizes.long in let kept = length-set old cell entry in omega (arith, tile, long, kept, cells_is)

    pub side_enough_cell : STEP * length gone ≤ get_or old cell 0
    side_enough_cell = enough_at_cell p (with_pair q x.cell x.placement) cell (FitsBeside p q x side) (FitsBeside p q x (side + 1)) gone gone_at old sizes gone_free

    module _ (entry : ℕ) where
      tile_kept : (tile : ℕ) → get_or (set old cell entry) (cells + tile) 0 ≡ get_or old (cell_count p.board + tile) 0
      tile_kept tile = get_or-set_other old cell (cells + tile) entry 0 (λ e. let lt = cell_in in omega (arith, e, lt)) ∙ ap (λ k. get_or old (k + tile) 0) cells_is

      pub side_enough_tile : (tile : ℕ) → cells + tile < length (set old cell entry) → STEP * count_of_group gone tile ≤ get_or (set old cell entry) (cells + tile) 0
      side_enough_tile tile lt =
          subst (λ k. STEP * count_of_group gone tile ≤ k) (sym (tile_kept tile))
          (enough_at_tile p (with_pair q x.cell x.placement) cell (FitsBeside p q x side) (FitsBeside p q x (side + 1)) gone gone_at old sizes gone_open tile)

      module _ (lowered : entry + STEP * length gone ≡ get_or old cell 0) (new : List ℕ) (long : length new ≡ length (set old cell entry))
          (tiles : (tile : ℕ) → cells + tile < length (set old cell entry) → get_or new (cells + tile) 0 + STEP * count_of_group gone tile ≡ get_or (set old cell entry) (cells + tile) 0)
          (others : (k : ℕ) → k < cells → get_or new k 0 ≡ get_or (set old cell entry) k 0) where
        at_cell : get_or new cell 0 ≡ entry
        at_cell = let lt = cell_in in let whole = sizes.long in others cell lt ∙ get_or-set_same old cell entry 0 (omega (arith, lt, whole, cells_is))

        at_other : (k : ℕ) → k ≢ cell → k < cell_count p.board → get_or new k 0 ≡ get_or old k 0
        at_other k ne lt = others k (omega (arith, lt, cells_is)) ∙ get_or-set_other old cell k entry 0 ne

        at_tile : (tile : ℕ) → tile < length p.words → get_or new (cell_count p.board + tile) 0 + STEP * count_of_group gone tile ≡ get_or old (cell_count p.board + tile) 0
        at_tile tile lt =
            let whole = sizes.long in
            let kept = length-set old cell entry in
            ap (λ k. get_or new (k + tile) 0 + STEP * count_of_group gone tile) (sym cells_is) ∙ tiles tile (omega (arith, lt, whole, kept, cells_is)) ∙ tile_kept tile

        pub side_sizes : length q ≡ cell_count p.board → AreSizesOf p (with_pair q x.cell x.placement) (FitsBeside p q x (side + 1)) new
        side_sizes many =
            sizes_without p (with_pair q x.cell x.placement) cell (FitsBeside p q x side) (FitsBeside p q x (side + 1)) gone gone_at old sizes new (long ∙ length-set old cell entry)
            (λ free. let at = at_cell in omega (arith, at, lowered))
            (λ k ne free. let lt = slice_get_within q k None (free_before p q x are.fits k free).1 in at_other k ne (omega (arith, lt, many)))
            (λ tile lt unused. at_tile tile lt)

        pub side_covered : AreCovered p q old → AreCovered p q new
        side_covered covered =
            covered_without p q gone old new covered (λ n c. (gone_beside n c).fits.unused)
            (λ k lt settled.
            ⊎_elim
            (λ e.
            let none = none_at_settled (λ free. settled (subst (IsFree q) (sym e.1) free)) in
            let at = at_cell in
            ap (λ j. get_or new j 0) e.1 ∙ (let here : get_or new cell 0 ≡ get_or old cell 0 = omega (arith, at, lowered, none) in here) ∙ ap (λ j. get_or old j 0) (sym e.1))
            (λ ne. at_other k ne.1 lt)
            (eqb_tells k cell))
            at_tile

-- ---- tables

-- a table that counts the same pairs
pub sizes_as : (p : Task) (q : Prefix) (Among Among' : Pair → Type 0) (sizes : List ℕ) → ((y : Pair) → Among y → Among' y) → ((y : Pair) → Among' y → Among y) → AreSizesOf p q Among sizes → AreSizesOf p q Among' sizes
sizes_as p q Among Among' sizes to back are = record {
  long = are.long;
  counts = λ item is_open.
      let w = are.counts item is_open in
      (w.0, listing_as (ByKey (item_key item)) (λ y. Settles item y × Among y) (λ y. Settles item y × Among' y) w.0 (λ y h. (h.0, to y h.1)) (λ y h. (h.0, back y h.1)) w.1, w.2);
}
