-- Rows of what shows at each cell what is asked there, as pairs are placed and lifted.
use Rattle.std.proofs.Common.{◌≡◌, ◌≢◌, ◌<◌, ◌≤◌, ◌+◌, ◌*◌, ◌/◌, ℕ, List, [], Contains, Some, None, length, length-set, set, get_or, slice_get, arith, refl, sym, ap, ◌∙◌, subst, inl, inr, ⊎_elim}
use Rattle.std.proofs.lemmas.List.{get_or-set_same, get_or-set_other}
use Rattle.std.proofs.lemmas.Bool.Decides.{eqb_tells}
use Rattle.match_limits.proofs.OptionLemmas.{none_some}
use Rattle.match_limits.specs.declared.TheConstants.{MOST_COLOURS}
use Rattle.match_board.specs.Board.{cell_count, side_count, Meets}
use Rattle.match_limits.specs.Listing.{IsListing}
use Rattle.match_board.proofs.Places.{StandsAt-in_range, Meets-turned}
use Rattle.match_puzzle.specs.Puzzle.{Task, IsPuzzle, colour_of, mate_of}
use Rattle.match_puzzle.specs.Prefix.{Prefix, Has, IsFree, IsUnused, with_pair}
use Rattle.match_puzzle.specs.Fitting.{Fits, IsAsked, AreAsAsked}
use Rattle.match_puzzle.specs.PlacementSets.{AreLegalNumbers, AreShowing, numbered}
use Rattle.fit_counts.specs.FitRows.{StandsInRow, IsRow, AreRows, StandsBeside, AreRowsBeside, IsNotMet, AreRowsElsewhere}
use Rattle.match_puzzle.specs.declared.placements.Placement.{Placement}
use Rattle.match_puzzle.specs.declared.placements.Pair.{Pair}
use Rattle.match_puzzle.proofs.Words.{few_sides}
use Rattle.match_puzzle.proofs.Prefixes.{inside, slice_get-set_other, has_placed, has_new, has_still}
use Rattle.match_puzzle.proofs.ArrangementLemmas.{side_in_range}
use Rattle.match_limits.proofs.SplitListings.{listing_as, listing_of_none}
use Rattle.match_puzzle.proofs.FittingLemmas.{ShowsAsked, fits_shown, shown_fits, each_of_four, small_turn, numbered_at}

some_nothing : {X : Type 0} {x : X} → Some (Some x) ≡ Some None → ⊥
some_nothing e = cc

-- ---- one row

module _ (p : Task) (q : Prefix) (cell : ℕ) where
  -- a side of which something is asked is one of four
  pub asked_side : (side colour : ℕ) → IsAsked p q cell side colour → side < 4
  asked_side side colour asked =
      ⊎_elim (λ rule. let lt = rule.side_in in omega (arith, lt, few_sides p.board)) (λ w. let lt = side_in_range w.3 in omega (arith, lt, few_sides p.board)) asked

  -- the legal numbers that show what is asked on each side
  pub row_common : (legal first second third fourth common : List ℕ) → AreLegalNumbers p legal → AreAsAsked p q cell 0 first → AreAsAsked p q cell 1 second → AreAsAsked p q cell 2 third → AreAsAsked p q cell 3 fourth → IsFree q cell →
      IsListing ◌<◌ (λ n. Contains legal n × Contains first n × Contains second n × Contains third n × Contains fourth n) common → IsRow p q cell common
  row_common legal first second third fourth common are as_first as_second as_third as_fourth free both = record {
    only = λ n c.
        let h = both.only n c in
        record {
          free = free;
          legal = are.only n h.0;
          shows = λ side colour asked.
              each_of_four (ShowsAsked p q cell (numbered n)) (as_first.only n h.1).1 (as_second.only n h.2).1 (as_third.only n h.3).1 (as_fourth.only n h.4).1 side (asked_side side colour asked) colour asked;
        };
    all = λ n s.
        let tile_in = s.legal.tile in
        both.all n (are.all n s.legal, as_first.all n (tile_in, s.shows 0), as_second.all n (tile_in, s.shows 1), as_third.all n (tile_in, s.shows 2), as_fourth.all n (tile_in, s.shows 3));
    rising = both.rising;
  }

  -- no placement stands in the row of a cell where something is placed
  pub row_taken : (y : Placement) → Has q cell y → IsRow p q cell []
  row_taken y has = listing_of_none ◌<◌ (StandsInRow p q cell) (λ n s. none_some (inside (sym s.free ∙ has)))

  module _ (row : List ℕ) (is : IsRow p q cell row) where
    pub in_row_fits : (n : ℕ) → Contains row n → IsUnused q (n / 4) → Fits p q cell (numbered n)
    in_row_fits n c unused = let s = is.only n c in fits_shown p q cell (numbered n) s.free unused s.legal (λ side lt. s.shows side)

    pub fits_in_row : (x : Placement) → Fits p q cell x → IsPuzzle p → Contains row (4 * x.tile + x.turn)
    fits_in_row x fits puzzle =
        let n = 4 * x.tile + x.turn in
        let here = subst (Fits p q cell) (sym (numbered_at x.tile x.turn (small_turn p x puzzle fits.legal))) fits in
        is.all n (record { free = here.free; legal = here.legal; shows = shown_fits p q cell (numbered n) here })

-- ---- a pair is placed, or lifted

-- other cells are as they were
other_cell : (q : Prefix) (x : Pair) (cell : ℕ) → cell ≢ x.cell → slice_get (with_pair q x.cell x.placement) cell ≡ slice_get q cell
other_cell q x cell ne = slice_get-set_other q x.cell cell (Some x.placement) ne

module _ (p : Task) (q : Prefix) (x : Pair) (free : IsFree q x.cell) where
  -- what was asked is asked still
  asked_still : (cell side colour : ℕ) → IsAsked p q cell side colour → IsAsked p (with_pair q x.cell x.placement) cell side colour
  asked_still cell side colour asked = ⊎_elim (λ rule. inl rule) (λ w. inr (w.0, w.1, w.2, w.3, has_still q x.cell x.placement w.0 w.2 free w.4, w.5)) asked

  -- nothing more is asked of a cell that isn't met
  asked_before : (cell : ℕ) → IsNotMet p x.cell cell → (side colour : ℕ) → IsAsked p (with_pair q x.cell x.placement) cell side colour → IsAsked p q cell side colour
  asked_before cell apart side colour asked =
      ⊎_elim
      (λ rule. inl rule)
      (λ w. ⊎_elim
      (λ e. absurd (apart w.1 side (Meets-turned (subst (λ k. Meets p.board cell side k w.1) e.0 w.3))))
      (λ e. inr (w.0, w.1, w.2, w.3, e.1, w.5))
      (has_placed q x.cell x.placement w.0 w.2 free w.4))
      asked

  -- Where a pair is lifted, the rows of cells that it doesn't meet stay.
  pub rows_lifted : (rows : List (List ℕ)) → AreRows p (with_pair q x.cell x.placement) rows → AreRowsElsewhere p q x.cell rows
  rows_lifted rows are = record {
    long = are.long;
    is = λ cell cell_in ne apart.
        listing_as ◌<◌ (StandsInRow p (with_pair q x.cell x.placement) cell) (StandsInRow p q cell) (get_or rows cell [])
        (λ n s. record { free = sym (other_cell q x cell ne) ∙ s.free; legal = s.legal; shows = λ side colour asked. s.shows side colour (asked_still cell side colour asked) })
        (λ n s. record { free = other_cell q x cell ne ∙ s.free; legal = s.legal; shows = λ side colour asked. s.shows side colour (asked_before cell apart side colour asked) })
        (are.is cell cell_in);
  }

  -- The row of the pair's cell is emptied first.
  pub rows_first : (rows : List (List ℕ)) → AreRows p q rows → AreRowsBeside p q x 0 (set rows x.cell [])
  rows_first rows are = record {
    long = length-set rows x.cell [] ∙ are.long;
    is = λ cell cell_in.
        ⊎_elim
        (λ e.
        let same = e.1 in
        let long = are.long in
        let lt : x.cell < length rows = omega (arith, same, long, cell_in) in
        subst (λ k. IsListing ◌<◌ (StandsBeside p q x 0 k) (get_or (set rows x.cell []) k [])) (sym same)
        (subst (IsListing ◌<◌ (StandsBeside p q x 0 x.cell)) (sym (get_or-set_same rows x.cell [] [] lt)) (listing_of_none ◌<◌ (StandsBeside p q x 0 x.cell) (λ n s. some_nothing (sym (has_new q x.cell x.placement free) ∙ s.free)))))
        (λ e.
        let ne = e.1 in
        subst (IsListing ◌<◌ (StandsBeside p q x 0 cell)) (sym (get_or-set_other rows x.cell cell [] [] ne))
        (listing_as ◌<◌ (StandsInRow p q cell) (StandsBeside p q x 0 cell) (get_or rows cell [])
        (λ n s. record { free = other_cell q x cell ne ∙ s.free; legal = s.legal; shows = s.shows; beside = λ side met lt meets. absurd (omega (arith, lt)) })
        (λ n s. record { free = sym (other_cell q x cell ne) ∙ s.free; legal = s.legal; shows = s.shows })
        (are.is cell cell_in)))
        (eqb_tells cell x.cell);
  }

  -- After all sides the rows are those with the pair.
  pub rows_last : (rows : List (List ℕ)) → AreRowsBeside p q x (side_count p.board) rows → AreRows p (with_pair q x.cell x.placement) rows
  rows_last rows are = record {
    long = are.long;
    is = λ cell cell_in.
        listing_as ◌<◌ (StandsBeside p q x (side_count p.board) cell) (StandsInRow p (with_pair q x.cell x.placement) cell) (get_or rows cell [])
        (λ n s. record {
          free = s.free;
          legal = s.legal;
          shows = λ side colour asked.
              ⊎_elim
              (λ rule. s.shows side colour (inl rule))
              (λ w. ⊎_elim
              (λ e.
              let meets = Meets-turned (subst (λ k. Meets p.board cell side k w.1) e.0 w.3) in
              s.beside w.1 side (side_in_range meets) meets ∙ sym (ap (λ y. mate_of p (colour_of p y w.1)) e.1) ∙ w.5)
              (λ e. s.shows side colour (inr (w.0, w.1, w.2, w.3, e.1, w.5)))
              (has_placed q x.cell x.placement w.0 w.2 free w.4))
              asked;
        })
        (λ n s. record {
          free = s.free;
          legal = s.legal;
          shows = λ side colour asked. s.shows side colour (asked_still cell side colour asked);
          beside = λ side met lt meets. s.shows met (mate_of p (colour_of p x.placement side)) (inr (x.cell, side, x.placement, Meets-turned meets, has_new q x.cell x.placement free, refl));
        })
        (are.is cell cell_in);
  }

-- ---- the sides of a pair, one after the other

module _ (p : Task) (q : Prefix) (x : Pair) (side : ℕ) where
  beside_more : (cell n : ℕ) → ((met : ℕ) → Meets p.board x.cell side cell met → colour_of p (numbered n) met ≡ mate_of p (colour_of p x.placement side)) → StandsBeside p q x side cell n → StandsBeside p q x (side + 1) cell n
  beside_more cell n goes s = record {
    free = s.free;
    legal = s.legal;
    shows = s.shows;
    beside = λ k met lt meets.
        ⊎_elim
        (λ e. subst (λ j. colour_of p (numbered n) met ≡ mate_of p (colour_of p x.placement j)) (sym e.1) (goes met (subst (λ j. Meets p.board x.cell j cell met) e.1 meets)))
        (λ ne. let other = ne.1 in s.beside k met (omega (arith, lt, other)) meets)
        (eqb_tells k side);
  }

  beside_less : (cell n : ℕ) → StandsBeside p q x (side + 1) cell n → StandsBeside p q x side cell n
  beside_less cell n s = record {
    free = s.free;
    legal = s.legal;
    shows = s.shows;
    beside = λ k met lt meets. s.beside k met (omega (arith, lt)) meets;
  }

  -- the row of a cell that the side doesn't meet
  row_more : (cell : ℕ) (row : List ℕ) → ((met : ℕ) → Meets p.board x.cell side cell met → ⊥) → IsListing ◌<◌ (StandsBeside p q x side cell) row → IsListing ◌<◌ (StandsBeside p q x (side + 1) cell) row
  row_more cell row apart is = listing_as ◌<◌ (StandsBeside p q x side cell) (StandsBeside p q x (side + 1) cell) row (λ n s. beside_more cell n (λ met meets. absurd (apart met meets)) s) (λ n s. beside_less cell n s) is

  -- A side that meets nothing, or a cell that isn't free, changes no row.
  pub rows_filled : (rows : List (List ℕ)) → ((c k : ℕ) → Meets p.board x.cell side c k → IsFree (with_pair q x.cell x.placement) c → ⊥) → AreRowsBeside p q x side rows → AreRowsBeside p q x (side + 1) rows
  rows_filled rows filled are = record {
    long = are.long;
    is = λ cell cell_in.
        listing_as ◌<◌ (StandsBeside p q x side cell) (StandsBeside p q x (side + 1) cell) (get_or rows cell [])
        (λ n s. beside_more cell n (λ met meets. absurd (filled cell met meets s.free)) s) (λ n s. beside_less cell n s) (are.is cell cell_in);
  }

  pub rows_border : (rows : List (List ℕ)) → ((c k : ℕ) → Meets p.board x.cell side c k → ⊥) → AreRowsBeside p q x side rows → AreRowsBeside p q x (side + 1) rows
  rows_border rows nothing are = rows_filled rows (λ c k meets free. nothing c k meets) are

  -- In the row of the cell that is met stays what shows the mate.
  pub rows_met : (cell met asked : ℕ) (kept row : List ℕ) (rows : List (List ℕ)) → IsPuzzle p → Meets p.board x.cell side cell met → ((c k : ℕ) → Meets p.board x.cell side c k → (c ≡ cell) × (k ≡ met)) → asked ≡ mate_of p (colour_of p x.placement side) → asked < MOST_COLOURS → AreShowing p.words asked met kept →
      IsListing ◌<◌ (λ n. Contains (get_or rows cell []) n × Contains kept n) row → AreRowsBeside p q x side rows → AreRowsBeside p q x (side + 1) (set rows cell row)
  unfolding colour_of
  rows_met cell met asked kept row rows puzzle meets one mate few showing both are =
      let cell_in = StandsAt-in_range meets.there in
      let met_in = side_in_range (Meets-turned meets) in
      let long = are.long in
      let lt : cell < length rows = omega (arith, long, cell_in) in
      let old = are.is cell cell_in in
      let here : IsListing ◌<◌ (StandsBeside p q x (side + 1) cell) row = listing_as ◌<◌ (λ n. Contains (get_or rows cell []) n × Contains kept n) (StandsBeside p q x (side + 1) cell) row
      (λ n h. beside_more cell n (λ k m. subst (λ j. colour_of p (numbered n) j ≡ mate_of p (colour_of p x.placement side)) (sym (one cell k m).1) (((showing.only n h.1).1 (λ any. omega (arith, few, any))).1 ∙ mate)) (old.only n h.0))
      (λ n s. (
        old.all n (beside_less cell n s),
        showing.all n (s.legal.tile, λ some. (let word_long = puzzle.sides (n / 4) s.legal.tile in omega (arith, word_long, met_in), s.beside side met (omega arith) meets ∙ sym mate)),
      ))
      both in
      record {
        long = length-set rows cell row ∙ long;
        is = λ c c_in.
            ⊎_elim
            (λ e.
            subst (λ k. IsListing ◌<◌ (StandsBeside p q x (side + 1) k) (get_or (set rows cell row) k [])) (sym e.1)
            (subst (IsListing ◌<◌ (StandsBeside p q x (side + 1) cell)) (sym (get_or-set_same rows cell row [] lt)) here))
            (λ e.
            subst (IsListing ◌<◌ (StandsBeside p q x (side + 1) c)) (sym (get_or-set_other rows cell c row [] e.1))
            (row_more c (get_or rows c []) (λ k m. e.1 (one c k m).0) (are.is c c_in)))
            (eqb_tells c cell);
      }

-- ---- rows that are made anew, one side after the other

-- Each cell has its row, but for those that later sides of this one meet.
pub record AreRowsPast (p : Task) (q : Prefix) (cell sides : ℕ) (rows : List (List ℕ)) : Type 0 where
  pub long : length rows ≡ cell_count p.board
  pub is : (other : ℕ) → other < cell_count p.board → ((side met : ℕ) → sides ≤ side → Meets p.board cell side other met → ⊥) → IsRow p q other (get_or rows other [])

module _ (p : Task) (q : Prefix) (cell : ℕ) (rows : List (List ℕ)) where
  -- one row is put in
  row_put : (at : ℕ) (row : List ℕ) (other : ℕ) → at < length rows → (other ≡ at → IsRow p q at row) → (other ≢ at → IsRow p q other (get_or rows other [])) → IsRow p q other (get_or (set rows at row) other [])
  row_put at row other lt here elsewhere =
      ⊎_elim
      (λ e. subst (λ k. IsRow p q k (get_or (set rows at row) k [])) (sym e.1) (subst (IsRow p q at) (sym (get_or-set_same rows at row [] lt)) (here e.1)))
      (λ e. subst (IsRow p q other) (sym (get_or-set_other rows at other row [] e.1)) (elsewhere e.1))
      (eqb_tells other at)

  pub past_first : (row : List ℕ) → cell < cell_count p.board → AreRowsElsewhere p q cell rows → IsRow p q cell row → AreRowsPast p q cell 0 (set rows cell row)
  past_first row cell_in are here = record {
    long = length-set rows cell row ∙ are.long;
    is = λ other other_in apart. let long = are.long in row_put cell row other (omega (arith, long, cell_in)) (λ e. here) (λ ne. are.is other other_in ne (λ side met meets. apart side met (omega arith) meets));
  }

  module _ (side : ℕ) (are : AreRowsPast p q cell side rows) where
    pub past_border : ((c k : ℕ) → Meets p.board cell side c k → ⊥) → AreRowsPast p q cell (side + 1) rows
    past_border nothing = record {
      long = are.long;
      is = λ other other_in apart. are.is other other_in (λ k met le meets. ⊎_elim (λ e. nothing other met (subst (λ j. Meets p.board cell j other met) e.1 meets)) (λ ne. let later = ne.1 in apart k met (omega (arith, le, later)) meets) (eqb_tells k side));
    }

    pub past_met : (at met : ℕ) (row : List ℕ) → Meets p.board cell side at met → ((c k : ℕ) → Meets p.board cell side c k → (c ≡ at) × (k ≡ met)) → IsRow p q at row → AreRowsPast p q cell (side + 1) (set rows at row)
    past_met at met row meets one here = record {
      long = length-set rows at row ∙ are.long;
      is = λ other other_in apart.
          let long = are.long in
          let at_in = StandsAt-in_range meets.there in
          row_put at row other (omega (arith, long, at_in)) (λ e. here)
          (λ ne. are.is other other_in (λ k m le other_meets. ⊎_elim (λ e. ne (one other m (subst (λ j. Meets p.board cell j other m) e.1 other_meets)).0) (λ differ. let later = differ.1 in apart k m (omega (arith, le, later)) other_meets) (eqb_tells k side)));
    }

  pub past_last : AreRowsPast p q cell (side_count p.board) rows → AreRows p q rows
  past_last are = record {
    long = are.long;
    is = λ other other_in. are.is other other_in (λ side met le meets. let lt = side_in_range meets in omega (arith, le, lt));
  }
