-- Open options are those whose pairs fit.
use Rattle.std.proofs.Common.{◌≡◌, ◌<◌, ◌+◌, ◌++◌, ◌∷◌, [], ℕ, zero, suc, List, Option, Some, None, Contains, length, slice_get, get_or, arith, refl, ap, inl, inr, sym, ◌∙◌, subst, ⊎_elim}
use Rattle.std.proofs.Math.Seq.{take-append_seam, take-length}
use Rattle.std.proofs.lemmas.List.{length-replicate}
use Rattle.std.proofs.lemmas.Option.{slice_get_within, get_or_from_slice_get, none-some}
use Rattle.match_board.specs.Board.{Meets, cell_count}
use Rattle.match_limits.specs.Listing.{ByKey}
use Rattle.match_board.proofs.Places.{Meets-turned}
use Rattle.match_limits.proofs.Listings.{comes_before_asymmetric}
use Rattle.match_puzzle.specs.Puzzle.{Task, colour_of}
use Rattle.match_puzzle.specs.Prefix.{Prefix, Has, IsFree, empty_prefix}
use Rattle.match_puzzle.specs.Fitting.{Fits, FitsItem, AreFitting, Settles, item_key, tile_turn}
use Rattle.match_puzzle.specs.Fitting as items
use Rattle.match_puzzle.specs.declared.items.Item.{Item}
use Rattle.match_puzzle.specs.declared.items.Item.TheVariants.{Cell, Tile}
use Rattle.match_puzzle.specs.declared.placements.Placement.{Placement}
use Rattle.match_puzzle.specs.declared.placements.Pair.{Pair}
use Rattle.match_puzzle.proofs.UsedTiles.{has_none, used_or_unused}
use Rattle.match_puzzle.proofs.TogetherLemmas.{together_turned}
use Rattle.fit_counts.proofs.ItemLemmas.{item_of, not_after, at_most}
use Rattle.fit_counts.proofs.PlacedPairLemmas.{fit_pushed, at_end}
use Rattle.match_puzzle.proofs.PairLemmas.{has_of_pairs, free_of_pairs, free_in_empty, length-with_pairs}
use Rattle.match_puzzle.proofs.Prefixes.{inside, free_or_has}
use Rattle.xcc_form.specs.ExactCover.{HasPrimary}
use Rattle.xcc_form.specs.Options.{Compiled, IsCompiled, IsOptionPair, PairComesBefore, cover_of, primary_count}
use Rattle.xcc_form.specs.Correspondence.{IsPairOf}
use Rattle.xcc_form.proofs.OptionLemmas.{contains_at, place_of, read_in, option_pair, option_for, pairs_rise, one_option, one_pair, pair_at, many_options, primaries_are, cell_is_primary}
use Rattle.xcc_form.proofs.PairsLemmas.{in_first, in_rest}
use Rattle.xcc_form.specs.Clashes.{IsPartialSolution, IsOpen, IsOpenAt}
use Rattle.xcc_form.specs.Chosen.{AreOpenAt, HasSize, IsUncovered, IsCovered}
use Rattle.match_puzzle.specs.Fitting.{IsNumberOf}
use Rattle.fit_counts.specs.Placing.{prefix_of}
use Rattle.xcc_dance.specs.Placing.{ArePairsOf}
use Rattle.xcc_dance.specs.FittingOptions.{AreOpenWhereFitting, AreOpenWhereSettling, AreOpenWhereListed, AreOpenInOrder, AreFittingInOrder, AreAsManyAsFitting, AreUncoveredWhereOpen, AreBranchedOnWhereFewest, StandAsPairs, AreFittingAt}
use Rattle.xcc_dance.proofs.ItemLemmas.{share_cell, share_tile, cell_has, tile_has, is_item}
use Rattle.xcc_dance.proofs.PlacingLemmas.{match, fit_in_turn, stands_after, next_is_open, option_pair_at}
use Rattle.xcc_dance.proofs.SizeLemmas.{size_same}

-- ---- pairs, one after the other

-- of two pairs only one comes before the other
one_way : (y z : Pair) → PairComesBefore y z → PairComesBefore z y → ⊥
one_way y z (inl lt) (inl gt) = omega (arith, lt, gt)
one_way y z (inl lt) (inr e) = omega (arith, lt, e.0)
one_way y z (inr e) (inl gt) = omega (arith, e.0, gt)
one_way y z (inr e) (inr f) = comes_before_asymmetric (tile_turn y.placement) (tile_turn z.placement) e.1 f.1

-- pairs that settle one item stand in the order of the options
key_before : (item : Item) (y z : Pair) → Settles item y → Settles item z → ByKey (item_key item) y z → PairComesBefore y z
key_before (Cell cell) y z s t before = inr (s ∙ sym t, before)
key_before (Tile tile) y z s t (inl lt) = inl lt
key_before (Tile tile) y z s t (inr e) = inr (e.0, inr (s ∙ sym t, e.1))

before_key : (item : Item) (y z : Pair) → Settles item y → Settles item z → PairComesBefore y z → ByKey (item_key item) y z
before_key (Cell cell) y z s t (inl lt) = absurd (omega (arith, lt, s, t))
before_key (Cell cell) y z s t (inr e) = e.1
before_key (Tile tile) y z s t (inl lt) = inl lt
before_key (Tile tile) y z s t (inr (e, inl lt)) = absurd (omega (arith, lt, s, t))
before_key (Tile tile) y z s t (inr (e, inr f)) = inr (e, f.1)

-- ---- items and their numbers

-- the number of an open item
number_of : (p : Task) (pairs : List Pair) (item : Item) → items.IsOpen p (prefix_of p pairs) item → (number : ℕ) × IsNumberOf (cell_count p.board) number item
number_of p pairs (Cell cell) free =
    let lt = slice_get_within (prefix_of p pairs) cell None free in
    let long = length-with_pairs pairs (empty_prefix p) ∙ length-replicate {A = Option Placement} (cell_count p.board) None in
    (cell, (refl, omega (arith, lt, long)))
number_of p pairs (Tile tile) unused = (cell_count p.board + tile, refl)

module _ (x : Compiled) (is : IsCompiled x) where
  -- ---- options of pairs

  one_more_pair : (option : ℕ) (options : List ℕ) (z : Pair) (pairs : List Pair) → IsPairOf x option z → ArePairsOf x options pairs → ArePairsOf x (option ∷ options) (z ∷ pairs)
  one_more_pair option options z pairs w of = record { long = ap suc of.long; each = λ place o y at at'. by_place place o y at at' }
    where
      by_place : (place o : ℕ) (y : Pair) → slice_get (option ∷ options) place ≡ Some o → slice_get (z ∷ pairs) place ≡ Some y → IsPairOf x o y
      by_place zero o y at at' = subst (IsPairOf x o) (inside at') (subst (λ n. IsPairOf x n z) (inside at) w)
      by_place (suc place) o y at at' = of.each place o y at at'

  -- an option for each pair
  options_for : (pairs : List Pair) → ((y : Pair) → Contains pairs y → IsOptionPair x.puzzle y) → (options : List ℕ) × ArePairsOf x options pairs
  options_for [] good = ([], record { long = refl; each = λ place o y at at'. absurd (none-some o at) })
  options_for (z ∷ pairs) good =
      let first = option_for x is z (good z (in_first z pairs)) in
      let rest = options_for pairs (λ y c. good y (in_rest z y pairs c)) in
      (first.0 ∷ rest.0, one_more_pair first.0 rest.0 z pairs first.1 rest.1)

  -- the pair of each option
  pairs_for : (options : List ℕ) → ((o : ℕ) → Contains options o → o < length x.options) → (pairs : List Pair) × ArePairsOf x options pairs
  pairs_for [] real = ([], record { long = refl; each = λ place o y at at'. absurd (none-some o at) })
  pairs_for (o ∷ options) real =
      let first = pair_at x is o (real o (0, omega arith, refl)) in
      let rest = pairs_for options (λ p c. real p (suc c.0, omega (arith, c.1), c.2)) in
      (first.0 ∷ rest.0, one_more_pair o options first.0 rest.0 first.1 rest.1)

  -- options stand in the order of their pairs
  options_rise : (o p : ℕ) (y z : Pair) → IsPairOf x o y → IsPairOf x p z → PairComesBefore y z → o < p
  options_rise o p y z w v before =
      let not_same : (o ≡ p → ⊥) = λ e. let itself = subst (λ q. PairComesBefore q z) (one_pair x is p y z (subst (λ n. IsPairOf x n y) e w) v) before in one_way z z itself itself in
      let not_after : (p < o → ⊥) = λ lt. one_way y z before (pairs_rise x is p o z y lt v w) in
      omega (arith, not_same, not_after)

  pub stand_as_pairs : StandAsPairs x
  stand_as_pairs item option other y z w v s t = (
    λ lt. before_key item y z s t (pairs_rise x is option other y z lt w v),
    λ before. options_rise option other y z w v (key_before item y z s t before),
  )

  -- ---- the item that a pair settles

  settles_has : (item : Item) (number option : ℕ) (y : Pair) → IsNumberOf (cell_count x.puzzle.board) number item → IsPairOf x option y → Settles item y → HasPrimary (cover_of x) option number
  settles_has (Cell cell) number option y n w s = cell_has x is option number y w (s ∙ sym n.0)
  settles_has (Tile tile) number option y n w s = tile_has x is option number y w (omega (arith, s, n))

  has_settles : (item : Item) (number option : ℕ) (y : Pair) → IsNumberOf (cell_count x.puzzle.board) number item → IsPairOf x option y → HasPrimary (cover_of x) option number → Settles item y
  has_settles (Cell cell) number option y n w h =
      let same = n.0 in
      let lt = n.1 in
      ⊎_elim (λ e. sym e ∙ same) (λ e. absurd (omega (arith, e, same, lt))) (is_item x is option number y w h)
  has_settles (Tile tile) number option y n w h =
      let within = (option_pair x is option y w).cell in
      ⊎_elim (λ e. absurd (omega (arith, e, n, within))) (λ e. omega (arith, e, n)) (is_item x is option number y w h)

  module _ (chosen : List ℕ) (pairs : List Pair) (of : ArePairsOf x chosen pairs) where
    -- ---- an open option's pair fits

    chosen_of : (place : ℕ) (z : Pair) → slice_get pairs place ≡ Some z → (o : ℕ) × Contains chosen o × IsPairOf x o z
    chosen_of place z at =
        let long = of.long in
        let o = read_in chosen place (let lt = slice_get_within pairs place z at in omega (arith, lt, long)) in
        (o.0, contains_at chosen place o.0 o.1, of.each place o.0 z o.1 at)

    pub open_fits : (option : ℕ) (y : Pair) → IsPairOf x option y → IsOpen (cover_of x) chosen option → Fits x.puzzle (prefix_of x.puzzle pairs) y.cell y.placement
    open_fits option y w is_open = record {
      free = free_of_pairs pairs (empty_prefix x.puzzle) y.cell (λ j z there same. let v = chosen_of j z there in is_open.free v.0 v.1 (share_cell x is v.0 option z y v.2 w same)) (free_in_empty x.puzzle y.cell good.cell);
      unused = λ cell z has same.
          ⊎_elim
          (λ u.
          let v = chosen_of u.place u.pair u.there in
          is_open.free v.0 v.1 (share_tile x is v.0 option u.pair y v.2 w (ap (λ (q : Placement). q.tile) u.placement ∙ same)))
          (λ none. has_none (cell_count x.puzzle.board) cell z none)
          (has_of_pairs pairs (empty_prefix x.puzzle) cell z has);
      legal = good.legal;
      border = good.border;
      edges = λ side cell' side' z meets has.
          ⊎_elim
          (λ u.
          let v = chosen_of u.place u.pair u.there in
          let there = subst (λ c. Meets x.puzzle.board y.cell side c side') (sym u.cell) meets in
          together_turned x.puzzle is.puzzle (colour_of x.puzzle z side') (colour_of x.puzzle y.placement side)
          (sym (ap (λ q. colour_of x.puzzle q side') u.placement) ∙ match x is v.0 option u.pair y v.2 w (is_open.free v.0 v.1) side' side (Meets-turned there)))
          (λ none. absurd (has_none (cell_count x.puzzle.board) cell' z none))
          (has_of_pairs pairs (empty_prefix x.puzzle) cell' z has);
    }
      where
        good : IsOptionPair x.puzzle y
        good = option_pair x is option y w

    -- an uncovered item is open
    pub uncovered_open : (item : Item) (number : ℕ) → IsNumberOf (cell_count x.puzzle.board) number item → IsUncovered (cover_of x) chosen number → items.IsOpen x.puzzle (prefix_of x.puzzle pairs) item
    uncovered_open (Cell cell) number n un = free_of_pairs pairs (empty_prefix x.puzzle) cell (λ j z there same. let v = chosen_of j z there in un.uncovered (v.0, v.1, settles_has (Cell cell) number v.0 z n v.2 same)) (free_in_empty x.puzzle cell n.1)
    uncovered_open (Tile tile) number n un = (
      ⊎_elim
          (λ all. let lt = un.primary in let many = all.1 in omega (arith, lt, n, many))
          (λ some. let lt = un.primary in let many = some.1 in absurd (omega (arith, lt, n, many)))
          (primaries_are x.puzzle),
      λ cell z has same.
          ⊎_elim
          (λ u.
          let v = chosen_of u.place u.pair u.there in
          un.uncovered (v.0, v.1, settles_has (Tile tile) number v.0 u.pair n v.2 (ap (λ (q : Placement). q.tile) u.placement ∙ same)))
          (λ none. has_none (cell_count x.puzzle.board) cell z none)
          (has_of_pairs pairs (empty_prefix x.puzzle) cell z has),
      ⊎_elim
          (λ all. all.0)
          (λ some. let lt = un.primary in let many = some.1 in absurd (omega (arith, lt, n, many)))
          (primaries_are x.puzzle),
    )

    -- a settled item is covered
    pub settled_covered : (item : Item) (number : ℕ) → IsNumberOf (cell_count x.puzzle.board) number item → items.IsItem x.puzzle item → items.HasToBeSettled x.puzzle item → (items.IsOpen x.puzzle (prefix_of x.puzzle pairs) item → ⊥) → IsCovered (cover_of x) chosen number
    settled_covered (Cell cell) number n lt has settled =
        let long = length-with_pairs pairs (empty_prefix x.puzzle) ∙ length-replicate {A = Option Placement} (cell_count x.puzzle.board) None in
        ⊎_elim
        (λ free. absurd (settled free))
        (λ w.
        ⊎_elim
        (λ u. let v = chosen_of u.place u.pair u.there in (v.0, v.1, settles_has (Cell cell) number v.0 u.pair n v.2 u.cell))
        (λ none. absurd (has_none (cell_count x.puzzle.board) cell w.0 none))
        (has_of_pairs pairs (empty_prefix x.puzzle) cell w.0 w.1))
        (free_or_has (prefix_of x.puzzle pairs) cell (omega (arith, lt, long)))
    settled_covered (Tile tile) number n lt has settled =
        ⊎_elim
        (λ w.
        ⊎_elim
        (λ u. let v = chosen_of u.place u.pair u.there in (v.0, v.1, settles_has (Tile tile) number v.0 u.pair n v.2 (ap (λ (q : Placement). q.tile) u.placement ∙ w.3)))
        (λ none. absurd (has_none (cell_count x.puzzle.board) w.0 w.1 none))
        (has_of_pairs pairs (empty_prefix x.puzzle) w.0 w.1 w.2))
        (λ unused. absurd (settled (lt, unused, has)))
        (used_or_unused (prefix_of x.puzzle pairs) tile)

    -- ---- where the chosen options don't clash

    module _ (partial : IsPartialSolution (cover_of x) chosen) where
      -- the option of a pair that fits is open
      pub fits_open : (option : ℕ) (y : Pair) → IsPairOf x option y → Fits x.puzzle (prefix_of x.puzzle pairs) y.cell y.placement → IsOpen (cover_of x) chosen option
      fits_open option y w fits =
          next_is_open x is (pairs ++ y ∷ []) (fit_pushed x.puzzle pairs y (fit_in_turn x is chosen pairs partial of) fits) chosen (length pairs) option y (subst (ArePairsOf x chosen) (sym (take-append_seam pairs (y ∷ []))) of)
          (at_end pairs y) w

      pub open_where_fitting : AreOpenWhereFitting x chosen pairs
      open_where_fitting option y w = (open_fits option y w, fits_open option y w)

      -- the pair of a chosen option stands
      stands : (option : ℕ) → Contains chosen option → (z : Pair) × IsPairOf x option z × Has (prefix_of x.puzzle pairs) z.cell z.placement
      stands option c =
          let at = place_of chosen option c in
          let long = of.long in
          let lt = slice_get_within chosen at.0 option at.1 in
          let z = read_in pairs at.0 (omega (arith, lt, long)) in
          let has = stands_after x is pairs (fit_in_turn x is chosen pairs partial of) (length pairs) at.0 z.0 (omega arith) (omega (arith, lt, long)) z.1 in
          (z.0, of.each at.0 option z.0 at.1 z.1, subst (λ ps. Has (prefix_of x.puzzle ps) z.0.cell z.0.placement) (take-length pairs) has)

      -- an open item is uncovered
      pub open_uncovered : (item : Item) (number : ℕ) → IsNumberOf (cell_count x.puzzle.board) number item → items.IsOpen x.puzzle (prefix_of x.puzzle pairs) item → IsUncovered (cover_of x) chosen number
      open_uncovered (Cell cell) number n free = record {
        primary = subst (λ k. k < primary_count x.puzzle) (sym n.0) (cell_is_primary x.puzzle cell n.1);
        uncovered = λ w.
            let z = stands w.0 w.1 in
            let settles = has_settles (Cell cell) number w.0 z.0 n z.1 w.2 in
            full (prefix_of x.puzzle pairs) cell z.0.placement (subst (λ c. Has (prefix_of x.puzzle pairs) c z.0.placement) settles z.2) free;
      }
        where
          full : (q : Prefix) (c : ℕ) (u : Placement) → Has q c u → IsFree q c → ⊥
          full q c u has free = cc
      open_uncovered (Tile tile) number n unused = record {
        primary = ⊎_elim (λ all. let lt = unused.0 in let many = all.1 in omega (arith, lt, n, many)) (λ some. absurd (some.0 unused.2)) (primaries_are x.puzzle);
        uncovered = λ w.
            let z = stands w.0 w.1 in
            unused.1 z.0.cell z.0.placement z.2 (has_settles (Tile tile) number w.0 z.0 n z.1 w.2);
      }

      pub uncovered_where_open : AreUncoveredWhereOpen x chosen pairs
      uncovered_where_open number item n = (uncovered_open item number n, open_uncovered item number n)

      -- a pair that fits is an option's
      pub fitting_option : (y : Pair) → Fits x.puzzle (prefix_of x.puzzle pairs) y.cell y.placement → IsOptionPair x.puzzle y
      fitting_option y fits = option_pair_at x.puzzle (pairs ++ y ∷ []) (fit_pushed x.puzzle pairs y (fit_in_turn x is chosen pairs partial of) fits) (length pairs) y (at_end pairs y)

      pub open_where_settling : AreOpenWhereSettling x chosen pairs
      open_where_settling number item n option y w = (
        λ at. (has_settles item number option y n w at.at, open_fits option y w at.open_option),
        λ fits. record { open_option = fits_open option y w fits.1; at = settles_has item number option y n w fits.0 },
      )

      module _ (number : ℕ) (fitting : List Pair) (listed : AreFittingAt x pairs number fitting) where
        open_listed : (option : ℕ) (y : Pair) → IsPairOf x option y → IsOpenAt (cover_of x) chosen number option → Contains fitting y
        open_listed option y w at = listed.all.all y ((open_where_settling number listed.item listed.numbered option y w).0 at)

        listed_open : (option : ℕ) (y : Pair) → IsPairOf x option y → Contains fitting y → IsOpenAt (cover_of x) chosen number option
        listed_open option y w c = (open_where_settling number listed.item listed.numbered option y w).1 (listed.all.only y c)

        in_key_order : (i j : ℕ) (y z : Pair) → i < j → slice_get fitting i ≡ Some y → slice_get fitting j ≡ Some z → ByKey (item_key listed.item) y z
        in_key_order i j y z lt at at' =
            let here = get_or_from_slice_get fitting i y y at in
            let there = get_or_from_slice_get fitting j z y at' in
            subst (λ u. ByKey (item_key listed.item) u z) here (subst (ByKey (item_key listed.item) (get_or fitting i y)) there (listed.all.rising i j y lt (slice_get_within fitting j z at')))

        -- the options of the pairs of the list are just those that are open at the item
        listing : (options : List ℕ) → ArePairsOf x options fitting → AreOpenAt (cover_of x) chosen number options
        listing options are = record {
          only = λ o c.
              let at = place_of options o c in
              let z = pair_there at.0 (slice_get_within options at.0 o at.1) in
              listed_open o z.0 (are.each at.0 o z.0 at.1 z.1) (contains_at fitting at.0 z.0 z.1);
          all = λ o is_open.
              let real = is_open.open_option.real in
              let many = many_options x is in
              let y = pair_at x is o (omega (arith, real, many)) in
              in_options o y.0 y.1 (open_listed o y.0 y.1 is_open);
          rising = λ i j d lt in_range.
              let o = read_in options i (omega (arith, lt, in_range)) in
              let p = read_in options j in_range in
              let y = pair_there i (omega (arith, lt, in_range)) in
              let z = pair_there j in_range in
              let key = in_key_order i j y.0 z.0 lt y.1 z.1 in
              let settled = (listed.all.only y.0 (contains_at fitting i y.0 y.1)).0 in
              let settled' = (listed.all.only z.0 (contains_at fitting j z.0 z.1)).0 in
              let less = options_rise o.0 p.0 y.0 z.0 (are.each i o.0 y.0 o.1 y.1) (are.each j p.0 z.0 p.1 z.1) (key_before listed.item y.0 z.0 settled settled' key) in
              let e = get_or_from_slice_get options i o.0 d o.1 in
              let e' = get_or_from_slice_get options j p.0 d p.1 in
              omega (arith, less, e, e');
        }
          where
            pair_there : (place : ℕ) → place < length options → (y : Pair) × (slice_get fitting place ≡ Some y)
            pair_there place lt = let long = are.long in read_in fitting place (omega (arith, lt, long))

            in_options : (o : ℕ) (y : Pair) → IsPairOf x o y → Contains fitting y → Contains options o
            in_options o y w c =
                let at = place_of fitting y c in
                let long = are.long in
                let p = read_in options at.0 (let lt = slice_get_within fitting at.0 y at.1 in omega (arith, lt, long)) in
                subst (Contains options) (one_option x is p.0 o y (are.each at.0 p.0 y p.1 at.1) w) (contains_at options at.0 p.0 p.1)

        in_order : (options : List ℕ) × AreOpenAt (cover_of x) chosen number options × ArePairsOf x options fitting
        in_order = let options = options_for fitting (λ y c. fitting_option y (listed.all.only y c).1) in (options.0, listing options.0 options.1, options.1)

        sized : HasSize (cover_of x) chosen number (length fitting)
        sized = let options = in_order in (options.0, options.1, sym options.2.long)

      -- the pairs of the open options of the item are just those that fit and settle it
      module _ (number : ℕ) (item : Item) (options : List ℕ) (n : IsNumberOf (cell_count x.puzzle.board) number item) (are_open : AreOpenAt (cover_of x) chosen number options) where
        pairs_listing : (fitting : List Pair) → ArePairsOf x options fitting → AreFitting x.puzzle (prefix_of x.puzzle pairs) item fitting
        pairs_listing fitting are = record {
          only = λ y c.
              let at = place_of fitting y c in
              let o = option_there at.0 (slice_get_within fitting at.0 y at.1) in
              fits_at o.0 y at.0 o.1 at.1;
          all = λ y fits.
              let o = option_for x is y (fitting_option y fits.1) in
              in_pairs o.0 y o.1 (are_open.all o.0 ((open_where_settling number item n o.0 y o.1).1 fits));
          rising = λ i j d lt in_range.
              let y = read_in fitting i (omega (arith, lt, in_range)) in
              let z = read_in fitting j in_range in
              let o = option_there i (omega (arith, lt, in_range)) in
              let p = option_there j in_range in
              let key = key_at i j o.0 p.0 y.0 z.0 lt o.1 p.1 y.1 z.1 in
              let here = get_or_from_slice_get fitting i y.0 d y.1 in
              let there = get_or_from_slice_get fitting j z.0 d z.1 in
              subst (λ u. ByKey (item_key item) u (get_or fitting j d)) (sym here) (subst (ByKey (item_key item) y.0) (sym there) key);
        }
          where
            option_there : (place : ℕ) → place < length fitting → (o : ℕ) × (slice_get options place ≡ Some o)
            option_there place lt = let long = are.long in read_in options place (omega (arith, lt, long))

            fits_at : (o : ℕ) (y : Pair) (place : ℕ) → slice_get options place ≡ Some o → slice_get fitting place ≡ Some y → FitsItem x.puzzle (prefix_of x.puzzle pairs) item y
            fits_at o y place at at' = (open_where_settling number item n o y (are.each place o y at at')).0 (are_open.only o (contains_at options place o at))

            in_pairs : (o : ℕ) (y : Pair) → IsPairOf x o y → Contains options o → Contains fitting y
            in_pairs o y w c =
                let at = place_of options o c in
                let long = are.long in
                let z = read_in fitting at.0 (let lt = slice_get_within options at.0 o at.1 in omega (arith, lt, long)) in
                subst (Contains fitting) (one_pair x is o z.0 y (are.each at.0 o z.0 at.1 z.1) w) (contains_at fitting at.0 z.0 z.1)

            key_at : (i j o p : ℕ) (y z : Pair) → i < j → slice_get options i ≡ Some o → slice_get options j ≡ Some p → slice_get fitting i ≡ Some y → slice_get fitting j ≡ Some z → ByKey (item_key item) y z
            key_at i j o p y z lt at at' there there' =
                let rises = are_open.rising i j o lt (slice_get_within options j p at') in
                let e = get_or_from_slice_get options i o o at in
                let e' = get_or_from_slice_get options j p o at' in
                let before = pairs_rise x is o p y z (omega (arith, rises, e, e')) (are.each i o y at there) (are.each j p z at' there') in
                before_key item y z (fits_at o y i at there).0 (fits_at p z j at' there').0 before

        pairs_in_order : (fitting : List Pair) × AreFitting x.puzzle (prefix_of x.puzzle pairs) item fitting × ArePairsOf x options fitting
        pairs_in_order =
            let many = many_options x is in
            let fitting = pairs_for options (λ o c. let real = (are_open.only o c).open_option.real in omega (arith, real, many)) in
            (fitting.0, pairs_listing fitting.0 fitting.1, fitting.1)

      pub fitting_in_order : AreFittingInOrder x chosen pairs
      fitting_in_order number item options n are_open = pairs_in_order number item options n are_open

      pub open_where_listed : AreOpenWhereListed x chosen pairs
      open_where_listed number fitting listed option y w = (open_listed number fitting listed option y w, listed_open number fitting listed option y w)

      pub open_in_order : AreOpenInOrder x chosen pairs
      open_in_order number fitting listed = in_order number fitting listed

      pub as_many_as_fitting : AreAsManyAsFitting x chosen pairs
      as_many_as_fitting number size fitting listed = (
        λ has. size_same (cover_of x) chosen number (length fitting) size (sized number fitting listed) has,
        λ e. subst (HasSize (cover_of x) chosen number) e (sized number fitting listed),
      )

      pub branched_on_where_fewest : AreBranchedOnWhereFewest x chosen pairs
      branched_on_where_fewest number item n = (
        λ branch. record {
          is_open = uncovered_open item number n branch.uncovered;
          fewest = λ other xs ys open' all all'.
              let m = number_of x.puzzle pairs other open' in
              let has = sized number xs (record { item = item; numbered = n; all = all }) in
              let has' = sized m.0 ys (record { item = other; numbered = m.1; all = all' }) in
              ⊎_elim
              (λ lt. inl lt)
              (λ e. inr (e.0, not_after (cell_count x.puzzle.board) number m.0 item other n m.1 e.1))
              (branch.fewest m.0 (length xs) (length ys) (open_uncovered other m.0 m.1 open') has has');
        },
        λ few. record {
          uncovered = open_uncovered item number n few.is_open;
          fewest = λ other size other_size un has has'.
              let m = item_of (cell_count x.puzzle.board) other in
              let xs = pairs_in_order number item has.0 n has.1 in
              let ys = pairs_in_order other m.0 has'.0 m.1 has'.1 in
              let long = xs.2.long in
              let long' = ys.2.long in
              let size_is = has.2 in
              let size_is' = has'.2 in
              ⊎_elim
              (λ lt. inl (omega (arith, lt, long, long', size_is, size_is')))
              (λ e. let same = e.0 in inr (omega (arith, same, long, long', size_is, size_is'), at_most (cell_count x.puzzle.board) number other item m.0 n m.1 e.1))
              (few.fewest m.0 xs.0 ys.0 (uncovered_open m.0 other m.1 un) xs.1 ys.1);
        },
      )
