-- What goes out of rows and counts where a pair is placed.
use Rattle.std.proofs.Common.{◌≡◌, ◌≢◌, ◌⊎◌, ◌<◌, ◌≤◌, ◌+◌, ◌*◌, ◌/◌, ℕ, true, List, [], Option, Some, None, Contains, length, length-set, set, map, get_or, slice_get, arith, refl, ap, sym, ◌∙◌, subst, inl, inr, ⊎_elim}
use Rattle.std.specs.Option.{is_some}
use Rattle.std.proofs.lemmas.List.{length-map, get_or-set_same, get_or-set_other}
use Rattle.std.proofs.lemmas.Option.{slice_get_within}
use Rattle.std.proofs.lemmas.Bool.Decides.{eqb_tells}
use Rattle.match_board.specs.Board.{cell_count}
use Rattle.match_limits.specs.Listing.{IsListing, ByKey}
use Rattle.match_puzzle.specs.Puzzle.{Task, IsPuzzle}
use Rattle.match_puzzle.specs.Prefix.{Prefix, IsFree, IsUnused, IsPrefix, with_pair}
use Rattle.match_puzzle.specs.PlacementSets.{AreFreeNumbers, numbered}
use Rattle.match_puzzle.specs.Fitting.{Fits, Settles, IsItem, IsUnsettled, item_key, numbered_pair}
use Rattle.fit_counts.specs.FitRows.{StandsBeside, IsRow, AreRows, AreRowsBeside}
use Rattle.fit_counts.specs.FitSizes.{AreSizes, AreSizesOf, AreCovered, FitsPair, FitsElsewhere, FitsBeside}
use Rattle.match_limits.specs.NumberSets.{count_of_group}
use Rattle.match_puzzle.specs.Fitting.{item_place}
use Rattle.fit_counts.specs.declared.fit_sizes.TheConstants.{STEP, COVERED}
use Rattle.match_puzzle.specs.declared.items.Item.{Item}
use Rattle.match_puzzle.specs.declared.items.Item.TheVariants.{Cell, Tile}
use Rattle.match_puzzle.specs.declared.placements.Placement.{Placement}
use Rattle.match_puzzle.specs.declared.placements.Pair.{Pair}
use Rattle.match_puzzle.proofs.Prefixes.{inside, slice_get-set_other, has_placed, has_new, has_still}
use Rattle.match_puzzle.proofs.FittingLemmas.{fits_shown, shown_fits, small_turn, numbered_at, same_pair}
use Rattle.match_limits.proofs.SplitListings.{listing_of_none, listing_mapped}
use Rattle.fit_counts.proofs.FitSizeLemmas.{AreGoneAt, enough_at_tile, sizes_without, covered_without, fewer_pairs, numbers_of_tile, some_of_tile}

some_is_none : {X : Type 0} {x : X} → Some x ≡ None → ⊥
some_is_none e = cc

-- where something stands isn't free
pub filled_taken : (q : Prefix) (cell : ℕ) (standing : Option Placement) → slice_get q cell ≡ Some standing → is_some standing ≡ true → IsFree q cell → ⊥
filled_taken q cell None at filled free = cc
filled_taken q cell (Some x) at filled free = cc

module _ (p : Task) (q : Prefix) (x : Pair) (fits : FitsPair p q x) where
  abbrev Placed : Prefix
  Placed = with_pair q x.cell x.placement

  pub free_before : (cell : ℕ) → IsFree Placed cell → (cell ≢ x.cell) × IsFree q cell
  free_before cell free =
      let ne : cell ≢ x.cell = λ e. some_is_none (inside (sym (has_new q x.cell x.placement fits.free) ∙ subst (IsFree Placed) e free)) in
      (ne, sym (slice_get-set_other q x.cell cell (Some x.placement) ne) ∙ free)

  pub free_still : (cell : ℕ) → cell ≢ x.cell → IsFree q cell → IsFree Placed cell
  free_still cell ne free = slice_get-set_other q x.cell cell (Some x.placement) ne ∙ free

  pub unused_before : (tile : ℕ) → IsUnused Placed tile → (tile ≢ x.placement.tile) × IsUnused q tile
  unused_before tile unused = (λ e. unused x.cell x.placement (has_new q x.cell x.placement fits.free) (sym e), λ cell y has. unused cell y (has_still q x.cell x.placement cell y fits.free has))

  pub unused_still : (tile : ℕ) → tile ≢ x.placement.tile → IsUnused q tile → IsUnused Placed tile
  unused_still tile ne unused cell y has same =
      ⊎_elim (λ w. ne (sym same ∙ ap (λ (z : Placement). z.tile) w.1)) (λ w. unused cell y w.1 same) (has_placed q x.cell x.placement cell y fits.free has)

  open_before : (item : Item) → IsUnsettled p Placed item → IsUnsettled p q item
  open_before (Cell cell) is_open = (free_before cell is_open).1
  open_before (Tile tile) is_open = (is_open.0, (unused_before tile is_open.1).1)

  -- what is counted at open items is counted at those that still are
  sizes_placed : (Among : Pair → Type 0) (sizes : List ℕ) → AreSizesOf p q Among sizes → AreSizesOf p Placed Among sizes
  sizes_placed Among sizes is = record { long = is.long; counts = λ item is_open. is.counts item (open_before item is_open) }

  pub pair_cell_in : IsPrefix p q → x.cell < cell_count p.board
  pair_cell_in prefix = omega (arith, slice_get_within q x.cell None fits.free, prefix.cells)

  pub pair_tile_in : x.placement.tile < length p.words
  pair_tile_in = fits.legal.tile

  -- ---- the other pairs of the cell

  -- those of unused tiles in the cell's row, but for the pair's own tile
  pub gone_of_cell : (row free both gone : List ℕ) → IsPuzzle p → IsRow p q x.cell row → AreFreeNumbers p q free → IsListing ◌<◌ (λ n. Contains row n × Contains free n) both → IsListing ◌<◌ (λ n. Contains both n × (n / 4 ≢ x.placement.tile)) gone → AreGoneAt p Placed x.cell (FitsPair p q) (FitsElsewhere p q x) gone
  gone_of_cell row free both gone puzzle is_row are_free is_both is_gone = record {
    rising = λ i j d lt in_range. is_gone.rising i j d lt in_range;
    among = λ n c.
        let in_both = is_both.only n (is_gone.only n c).0 in
        let stands = is_row.only n in_both.0 in
        fits_shown p q x.cell (numbered n) fits.free (are_free.only n in_both.1).1 stands.legal (λ side lt. stands.shows side);
    out = λ n c h. h.1 refl;
    before = λ y h. h.0;
    either = either;
  }
    where
      either : (item : Item) (y : Pair) → IsUnsettled p Placed item → Settles item y → FitsPair p q y → FitsElsewhere p q x y ⊎ ((n : ℕ) × Contains gone n × (numbered_pair (Cell x.cell) n ≡ y))
      either (Cell cell) y is_open settles fits_y = inl (fits_y, λ e. (free_before cell is_open).0 (sym settles ∙ e))
      either (Tile tile) y is_open settles fits_y =
          ⊎_elim
          (λ here.
          let turn = small_turn p y.placement puzzle fits_y.legal in
          let at = numbered_at y.placement.tile y.placement.turn turn in
          let n = 4 * y.placement.tile + y.placement.turn in
          let tile_is : n / 4 ≡ y.placement.tile = omega (arith, turn) in
          let fits_n = subst (Fits p q x.cell) (sym at) (subst (λ c. Fits p q c y.placement) here.1 fits_y) in
          let in_row = is_row.all n (record { free = fits.free; legal = fits_n.legal; shows = shown_fits p q x.cell (numbered n) fits_n }) in
          let in_free = are_free.all n (fits_n.legal, fits_n.unused) in
          inr (n, is_gone.all n (is_both.all n (in_row, in_free), λ e. (unused_before tile is_open.1).0 (sym settles ∙ sym tile_is ∙ e)), same_pair (sym here.1) at))
          (λ ne. inl (fits_y, ne.1))
          (eqb_tells y.cell x.cell)

  -- The counts are those of open items.
  pub gone_of_open : (row free both gone : List ℕ) → AreFreeNumbers p q free → IsListing ◌<◌ (λ n. Contains row n × Contains free n) both → IsListing ◌<◌ (λ n. Contains both n × (n / 4 ≢ x.placement.tile)) gone → (n : ℕ) → Contains gone n → IsUnsettled p Placed (Tile (n / 4)) × IsUnused q (n / 4)
  gone_of_open row free both gone are_free is_both is_gone n c =
      let w = is_gone.only n c in
      let h = are_free.only n (is_both.only n w.0).1 in
      ((h.0.tile, unused_still (n / 4) w.1 h.1), h.1)

  module _ (puzzle : IsPuzzle p) (prefix : IsPrefix p q) (rows : List (List ℕ)) (are : AreRows p q rows) (row : List ℕ) (read : row ≡ get_or rows x.cell [])
      (free both gone : List ℕ) (are_free : AreFreeNumbers p q free) (is_both : IsListing ◌<◌ (λ n. Contains row n × Contains free n) both) (is_gone : IsListing ◌<◌ (λ n. Contains both n × (n / 4 ≢ x.placement.tile)) gone)
      (cells : ℕ) (cells_is : cells ≡ cell_count p.board) (old : List ℕ) (sizes : AreSizes p q old) where
    row_is : IsRow p q x.cell row
    row_is = subst (IsRow p q x.cell) (sym read) (are.is x.cell (pair_cell_in prefix))

    gone_is : AreGoneAt p Placed x.cell (FitsPair p q) (FitsElsewhere p q x) gone
    gone_is = gone_of_cell row free both gone puzzle row_is are_free is_both is_gone

    sizes_before : AreSizesOf p Placed (FitsPair p q) old
    sizes_before = sizes_placed (FitsPair p q) old sizes.open_items

    pub cell_below : (n : ℕ) → Contains gone n → cells + n / 4 < length old
    cell_below n c = let tile = (gone_of_open row free both gone are_free is_both is_gone n c).0.0 in let long = sizes.open_items.long in omega (arith, tile, long, cells_is)

    pub cell_enough : (tile : ℕ) → cells + tile < length old → STEP * count_of_group gone tile ≤ get_or old (cells + tile) 0
    cell_enough tile lt =
        subst (λ k. STEP * count_of_group gone tile ≤ get_or old (k + tile) 0) (sym cells_is)
        (enough_at_tile p Placed x.cell (FitsPair p q) (FitsElsewhere p q x) gone gone_is old sizes_before (λ n c. (gone_of_open row free both gone are_free is_both is_gone n c).0) tile)

    module _ (new : List ℕ) (long : length new ≡ length old) (at_tiles : (tile : ℕ) → cells + tile < length old → get_or new (cells + tile) 0 + STEP * count_of_group gone tile ≡ get_or old (cells + tile) 0) (at_cells : (cell : ℕ) → cell < cells → get_or new cell 0 ≡ get_or old cell 0) where
      lowered : (tile : ℕ) → tile < length p.words → get_or new (cell_count p.board + tile) 0 + STEP * count_of_group gone tile ≡ get_or old (cell_count p.board + tile) 0
      lowered tile lt =
          let long = sizes.open_items.long in
          subst (λ k. get_or new (k + tile) 0 + STEP * count_of_group gone tile ≡ get_or old (k + tile) 0) cells_is (at_tiles tile (omega (arith, lt, long, cells_is)))

      pub cell_sizes : AreSizesOf p Placed (FitsElsewhere p q x) new
      cell_sizes =
          sizes_without p Placed x.cell (FitsPair p q) (FitsElsewhere p q x) gone gone_is old sizes_before new long
          (λ is_free. absurd ((free_before x.cell is_free).0 refl))
          (λ other ne is_free. at_cells other (omega (arith, slice_get_within q other None (free_before other is_free).1, prefix.cells, cells_is)))
          (λ tile lt unused. lowered tile lt)

      pub cell_covered : AreCovered p q new
      cell_covered =
          covered_without p q gone old new sizes.settled (λ n c. (gone_of_open row free both gone are_free is_both is_gone n c).1)
          (λ cell within closed. at_cells cell (omega (arith, within, cells_is))) lowered

  -- ---- the other pairs of the tile

  module _ (rows : List (List ℕ)) (are : AreRowsBeside p q x 0 rows) where
    abbrev Row : ℕ → List ℕ
    Row cell = get_or rows cell []

    abbrev IsOfTile : Pair → Type 0
    IsOfTile y = y.placement.tile ≡ x.placement.tile

    -- how many of them settle the item
    abbrev count_in_rows : Item → ℕ
    count_in_rows (Cell cell) = count_of_group (Row cell) x.placement.tile
    count_in_rows (Tile tile) = 0

    module _ (puzzle : IsPuzzle p) (prefix : IsPrefix p q) where
      gone_of_tile : (item : Item) → IsUnsettled p Placed item → (zs : List Pair) × IsListing (ByKey (item_key item)) (λ y. (Settles item y × FitsElsewhere p q x y) × IsOfTile y) zs × (length zs ≡ count_in_rows item)
      gone_of_tile (Cell cell) is_open =
          let free = free_before cell is_open in
          let within : cell < cell_count p.board = omega (arith, slice_get_within q cell None free.1, prefix.cells) in
          let those = numbers_of_tile x.placement.tile (StandsBeside p q x 0 cell) (Row cell) (are.is cell within) in (
            map (numbered_pair (Cell cell)) those.0,
            listing_mapped (ByKey (item_key (Cell cell))) (numbered_pair (Cell cell)) (λ n. StandsBeside p q x 0 cell n × (n / 4 ≡ x.placement.tile)) (λ y. (Settles (Cell cell) y × FitsElsewhere p q x y) × IsOfTile y) those.0
                (λ m n a b lt. let left = a.1 in let right = b.1 in inr (left ∙ sym right, omega (arith, left, right, lt)))
                (λ n h. ((refl, (fits_shown p q cell (numbered n) free.1 (subst (IsUnused q) (sym h.1) fits.unused) h.0.legal (λ side lt. h.0.shows side), free.0)), h.1))
                (λ y h. stands y h)
                those.1,
            length-map those.0 (numbered_pair (Cell cell)) ∙ those.2,
          )
        where
          stands : (y : Pair) → ((y.cell ≡ cell) × FitsElsewhere p q x y) × IsOfTile y → (n : ℕ) × (StandsBeside p q x 0 cell n × (n / 4 ≡ x.placement.tile)) × (numbered_pair (Cell cell) n ≡ y)
          stands y h =
              let fits_y = h.0.1.0 in
              let turn = small_turn p y.placement puzzle fits_y.legal in
              let at = numbered_at y.placement.tile y.placement.turn turn in
              let n = 4 * y.placement.tile + y.placement.turn in
              let tile_is : n / 4 ≡ y.placement.tile = omega (arith, turn) in
              let fits_n = subst (Fits p q cell) (sym at) (subst (λ c. Fits p q c y.placement) h.0.0 fits_y) in
              (n, (record { free = is_open; legal = fits_n.legal; shows = shown_fits p q cell (numbered n) fits_n; beside = λ side met lt. absurd (omega (arith, lt)) }, tile_is ∙ h.1), same_pair (sym h.0.0) at)
      gone_of_tile (Tile tile) is_open =
          ([], listing_of_none (ByKey (item_key (Tile tile))) (λ y. (Settles (Tile tile) y × FitsElsewhere p q x y) × IsOfTile y) (λ y h. (unused_before tile is_open.1).0 (sym h.0.0 ∙ h.1)), refl)

      fewer_of_tile : (item : Item) → IsUnsettled p Placed item → (xs : List Pair) → IsListing (ByKey (item_key item)) (λ y. Settles item y × FitsElsewhere p q x y) xs →
          (ys : List Pair) × IsListing (ByKey (item_key item)) (λ y. Settles item y × FitsBeside p q x 0 y) ys × (length ys + count_in_rows item ≡ length xs)
      fewer_of_tile item is_open xs is =
          let zs = gone_of_tile item is_open in
          let w = fewer_pairs item (FitsElsewhere p q x) (FitsBeside p q x 0) IsOfTile (λ y h. (h.fits, h.other_cell))
          (λ y settles among. ⊎_elim (λ e. inr e.1) (λ ne. inl (record { fits = among.0; other_cell = among.1; other_tile = ne.1; beside = λ side met lt. absurd (omega (arith, lt)) })) (eqb_tells y.placement.tile x.placement.tile))
          (λ y h e. h.other_tile e) xs zs.0 is zs.1 in
          (w.0, w.1, omega (arith, w.2, zs.2))

      module _ (old : List ℕ) (sizes : AreSizesOf p Placed (FitsElsewhere p q x) old) where
        pub enough_in_rows : (cell : ℕ) → cell < length rows → STEP * count_of_group (Row cell) x.placement.tile ≤ get_or old cell 0
        enough_in_rows cell lt =
            ⊎_elim
            (λ none. omega (arith, none))
            (λ w.
            let is_open = ((are.is cell (let long = are.long in omega (arith, lt, long))).only w.0 w.1).free in
            let size = sizes.counts (Cell cell) is_open in
            let fewer = fewer_of_tile (Cell cell) is_open size.0 size.1 in
            omega (arith, fewer.2, size.2))
            (some_of_tile (Row cell) x.placement.tile)

        -- the table where they are counted no more
        pub sizes_without_tile : (new : List ℕ) → length new ≡ length old → ((cell : ℕ) → cell < length rows → get_or new cell 0 + STEP * count_of_group (Row cell) x.placement.tile ≡ get_or old cell 0) → ((place : ℕ) → length rows ≤ place → get_or new place 0 ≡ get_or old place 0) → AreSizesOf p Placed (FitsBeside p q x 0) new
        sizes_without_tile new long cells others = record { long = long ∙ sizes.long; counts = counts }
          where
            lowered : (item : Item) → IsUnsettled p Placed item → get_or new (item_place (cell_count p.board) item) 0 + STEP * count_in_rows item ≡ get_or old (item_place (cell_count p.board) item) 0
            lowered (Cell cell) is_open = cells cell (let long = are.long in omega (arith, slice_get_within q cell None (free_before cell is_open).1, prefix.cells, long))
            lowered (Tile tile) is_open = let same = others (cell_count p.board + tile) (let long = are.long in omega (arith, long)) in omega (arith, same)

            counts : (item : Item) → IsUnsettled p Placed item → (xs : List Pair) × IsListing (ByKey (item_key item)) (λ y. Settles item y × FitsBeside p q x 0 y) xs × (get_or new (item_place (cell_count p.board) item) 0 ≡ STEP * length xs + item_place (cell_count p.board) item)
            counts item is_open =
                let size = sizes.counts item is_open in
                let w = fewer_of_tile item is_open size.0 size.1 in
                let less = lowered item is_open in
                (w.0, w.1, omega (arith, w.2, size.2, less))

    pub covered_without_tile : (old new : List ℕ) → AreCovered p q old → ((cell : ℕ) → cell < length rows → get_or new cell 0 + STEP * count_of_group (Row cell) x.placement.tile ≡ get_or old cell 0) → ((place : ℕ) → length rows ≤ place → get_or new place 0 ≡ get_or old place 0) → AreCovered p q new
    covered_without_tile old new covered cells others (Cell cell) within settled =
        let long = are.long in
        let less = cells cell (omega (arith, long, within)) in
        let was = covered (Cell cell) within settled in
        ⊎_elim (λ none. omega (arith, none, less, was)) (λ w. absurd (settled (free_before cell ((are.is cell within).only w.0 w.1).free).1)) (some_of_tile (Row cell) x.placement.tile)
    covered_without_tile old new covered cells others (Tile tile) within settled =
        others (cell_count p.board + tile) (let long = are.long in omega (arith, long)) ∙ covered (Tile tile) within settled

  -- ---- the pair itself

  -- the table where cell and tile of the pair are covered
  module _ (sizes : List ℕ) (open_items : AreSizesOf p Placed (FitsPair p Placed) sizes) (settled : AreCovered p q sizes) (cell_in : x.cell < cell_count p.board) (tile_in : x.placement.tile < length p.words) where
    abbrev TilePlace : ℕ
    TilePlace = cell_count p.board + x.placement.tile

    abbrev Covered : List ℕ
    Covered = set (set sizes x.cell COVERED) TilePlace COVERED

    kept_entry : (place : ℕ) → place ≢ x.cell → place ≢ TilePlace → get_or Covered place 0 ≡ get_or sizes place 0
    kept_entry place ne other = get_or-set_other (set sizes x.cell COVERED) TilePlace place COVERED 0 other ∙ get_or-set_other sizes x.cell place COVERED 0 ne

    cell_entry : get_or Covered x.cell 0 ≡ COVERED
    cell_entry =
        let long = open_items.long in
        get_or-set_other (set sizes x.cell COVERED) TilePlace x.cell COVERED 0 (λ e. omega (arith, e, cell_in)) ∙ get_or-set_same sizes x.cell COVERED 0 (omega (arith, cell_in, long))

    tile_entry : get_or Covered TilePlace 0 ≡ COVERED
    tile_entry = let long = open_items.long in get_or-set_same (set sizes x.cell COVERED) TilePlace COVERED 0 (omega (arith, tile_in, long, length-set sizes x.cell COVERED))

    pub covered_pair : IsPuzzle p → IsPrefix p q → AreSizes p Placed Covered
    covered_pair puzzle prefix = record {
      open_items = record { long = length-set (set sizes x.cell COVERED) TilePlace COVERED ∙ length-set sizes x.cell COVERED ∙ open_items.long; counts = counts };
      settled = are_covered;
    }
      where
        counts : (item : Item) → IsUnsettled p Placed item → (xs : List Pair) × IsListing (ByKey (item_key item)) (λ y. Settles item y × FitsPair p Placed y) xs × (get_or Covered (item_place (cell_count p.board) item) 0 ≡ STEP * length xs + item_place (cell_count p.board) item)
        counts (Cell cell) is_open =
            let size = open_items.counts (Cell cell) is_open in
            let free = free_before cell is_open in
            let within : cell < cell_count p.board = omega (arith, slice_get_within q cell None free.1, prefix.cells) in
            (size.0, size.1, kept_entry cell free.0 (λ e. omega (arith, e, within)) ∙ size.2)
        counts (Tile tile) is_open =
            let size = open_items.counts (Tile tile) is_open in
            let ne = (unused_before tile is_open.1).0 in
            (size.0, size.1, kept_entry (cell_count p.board + tile) (λ e. omega (arith, e, cell_in)) (λ e. ne (omega (arith, e))) ∙ size.2)

        are_covered : (item : Item) → IsItem p item → (IsUnsettled p Placed item → ⊥) → get_or Covered (item_place (cell_count p.board) item) 0 ≡ COVERED
        are_covered (Cell cell) within closed =
            ⊎_elim
            (λ e. ap (λ c. get_or Covered c 0) e.1 ∙ cell_entry)
            (λ ne. kept_entry cell ne.1 (λ e. omega (arith, e, within)) ∙ settled (Cell cell) within (λ is_open. closed (free_still cell ne.1 is_open)))
            (eqb_tells cell x.cell)
        are_covered (Tile tile) within closed =
            ⊎_elim
            (λ e. ap (λ t. get_or Covered (cell_count p.board + t) 0) e.1 ∙ tile_entry)
            (λ ne. kept_entry (cell_count p.board + tile) (λ e. omega (arith, e, cell_in)) (λ e. (let other = ne.1 in other (omega (arith, e)))) ∙ settled (Tile tile) within (λ is_open. closed (is_open.0, unused_still tile ne.1 is_open.1)))
            (eqb_tells tile x.placement.tile)
