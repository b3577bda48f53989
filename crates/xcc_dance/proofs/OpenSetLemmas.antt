-- What counts of the pairs that fit say of the open options.
use Rattle.std.proofs.Common.{◌≡◌, ◌≤◌, ◌+◌, ◌-◌, ◌++◌, ◌∷◌, [], ℕ, List, Option, Some, None, IfSome, MatchOption, length, take, arith, ap, sym, ◌∙◌, subst, ⊎_elim}
use Rattle.std.proofs.lemmas.List.{length-replicate}
use Rattle.std.proofs.lemmas.Option.{slice_get_within}
use Rattle.match_board.specs.Board.{cell_count}
use Rattle.match_puzzle.specs.Puzzle.{Task}
use Rattle.match_puzzle.specs.Prefix.{empty_prefix}
use Rattle.match_puzzle.specs.Fitting.{Fits, FitsItem, AreFitting, Settles, HasFewestFitting, IsNextFitting, IsLastFitting, ComesAfterPair, IsNumberOf, item_key}
use Rattle.match_puzzle.specs.Fitting as items
use Rattle.fit_counts.specs.Placing.{Placing, placed_by, prefix_of, with_next, without_last}
use Rattle.match_puzzle.specs.Fitting.{item_place}
use Rattle.match_puzzle.specs.declared.items.Item.{Item}
use Rattle.match_puzzle.specs.declared.items.Item.TheVariants.{Cell, Tile}
use Rattle.match_puzzle.specs.declared.placements.Placement.{Placement}
use Rattle.match_puzzle.specs.declared.placements.Pair.{Pair}
use Rattle.fit_counts.proofs.ItemLemmas.{item_of}
use Rattle.match_puzzle.proofs.PairLemmas.{length-with_pairs}
use Rattle.xcc_form.specs.Options.{Compiled, IsCompiled, IsOptionPair, cover_of}
use Rattle.xcc_form.specs.Correspondence.{IsPairOf}
use Rattle.xcc_form.proofs.OptionLemmas.{one_option, pair_at, many_options, primaries_are}
use Rattle.xcc_form.specs.Clashes.{IsOpen, IsOpenAt}
use Rattle.xcc_form.specs.Chosen.{IsUncovered, AreAllCovered, HasSize, IsToBranchOn, ComesAfter, IsNext, IsLast}
use Rattle.xcc_dance.specs.Placing.{ArePairsOf, IsPlacingOf, IsPairOfAny}
use Rattle.xcc_dance.proofs.OpenFittingLemmas.{open_where_fitting, open_where_settling, uncovered_where_open, as_many_as_fitting, branched_on_where_fewest, stand_as_pairs, settled_covered, fitting_option}
use Rattle.xcc_dance.proofs.PartialLemmas.{one_more, fewer}
use Rattle.xcc_dance.proofs.PlacingLemmas.{pairs_pushed, pairs_less}

module _ (x : Compiled) (chosen : List ℕ) (placing : Placing) (is : IsPlacingOf x chosen placing) where
  abbrev Cells : ℕ
  Cells = cell_count x.puzzle.board

  abbrev Compiles : IsCompiled x
  Compiles = is.selection.compiled

  -- what is said of the puzzle that is placed is said of the one that was compiled
  of_puzzle : (P : Task → Type 0) → P placing.puzzle → P x.puzzle
  of_puzzle P h = subst P is.puzzle h

  to_puzzle : (P : Task → Type 0) → P x.puzzle → P placing.puzzle
  to_puzzle P h = subst P (sym is.puzzle) h

  module _ (item : Item) (number : ℕ) (n : IsNumberOf Cells number item) where
    pub fewest_branches : HasFewestFitting placing.puzzle (placed_by placing) item → IsToBranchOn (cover_of x) chosen number
    fewest_branches few =
        (branched_on_where_fewest x Compiles chosen placing.pairs is.pairs is.selection.partial number item n).1
        (of_puzzle (λ p. HasFewestFitting p (prefix_of p placing.pairs) item) few)

    pub open_uncovers : items.IsOpen placing.puzzle (placed_by placing) item → IsUncovered (cover_of x) chosen number
    open_uncovers is_open =
        (uncovered_where_open x Compiles chosen placing.pairs is.pairs is.selection.partial number item n).1
        (of_puzzle (λ p. items.IsOpen p (prefix_of p placing.pairs) item) is_open)

    pub uncovered_opens : IsUncovered (cover_of x) chosen number → items.IsOpen placing.puzzle (placed_by placing) item
    uncovered_opens un =
        to_puzzle (λ p. items.IsOpen p (prefix_of p placing.pairs) item)
        ((uncovered_where_open x Compiles chosen placing.pairs is.pairs is.selection.partial number item n).0 un)

    pub sized_by : (size : ℕ) → (xs : List Pair) × AreFitting placing.puzzle (placed_by placing) item xs × (length xs ≡ size) → HasSize (cover_of x) chosen number size
    sized_by size w =
        (as_many_as_fitting x Compiles chosen placing.pairs is.pairs is.selection.partial number size w.0
        (record { item = item; numbered = n; all = of_puzzle (λ p. AreFitting p (prefix_of p placing.pairs) item w.0) w.1 })).1
        w.2

    -- an open option's pair fits, and the option of a pair that fits is open
    pub opens_fits : (option : ℕ) (y : Pair) → IsPairOf x option y → IsOpenAt (cover_of x) chosen number option → FitsItem placing.puzzle (placed_by placing) item y
    opens_fits option y w at =
        to_puzzle (λ p. FitsItem p (prefix_of p placing.pairs) item y)
        ((open_where_settling x Compiles chosen placing.pairs is.pairs is.selection.partial number item n option y w).0 at)

    pub fits_opens : (option : ℕ) (y : Pair) → IsPairOf x option y → FitsItem placing.puzzle (placed_by placing) item y → IsOpenAt (cover_of x) chosen number option
    fits_opens option y w fits =
        (open_where_settling x Compiles chosen placing.pairs is.pairs is.selection.partial number item n option y w).1
        (of_puzzle (λ p. FitsItem p (prefix_of p placing.pairs) item y) fits)

    -- options come after one another as their pairs do
    comes_after : (after : Option ℕ) (before : Option Pair) → IsPairOfAny x after before → IfSome before (Settles item) → (option : ℕ) (y : Pair) → IsPairOf x option y → Settles item y → ComesAfter after option → ComesAfterPair item before y
    comes_after None None w s option y v t after = tt
    comes_after None (Some z) w s option y v t after = absurd w
    comes_after (Some o) None w s option y v t after = absurd w
    comes_after (Some o) (Some z) w s option y v t after = (stand_as_pairs x Compiles item o option z y w v s t).0 after

    comes_after_option : (after : Option ℕ) (before : Option Pair) → IsPairOfAny x after before → IfSome before (Settles item) → (option : ℕ) (y : Pair) → IsPairOf x option y → Settles item y → ComesAfterPair item before y → ComesAfter after option
    comes_after_option None None w s option y v t before = tt
    comes_after_option None (Some z) w s option y v t before = absurd w
    comes_after_option (Some o) None w s option y v t before = absurd w
    comes_after_option (Some o) (Some z) w s option y v t before = (stand_as_pairs x Compiles item o option z y w v s t).1 before

    -- the pair of an option that is open at the item fits and settles it
    pub pair_before : (after : Option ℕ) (before : Option Pair) → IsPairOfAny x after before → IfSome after (IsOpenAt (cover_of x) chosen number) → IfSome before (FitsItem placing.puzzle (placed_by placing) item)
    pair_before None None w h = tt
    pair_before None (Some z) w h = absurd w
    pair_before (Some o) None w h = absurd w
    pair_before (Some o) (Some z) w h = opens_fits o z w h

    settles_before : (before : Option Pair) → IfSome before (FitsItem placing.puzzle (placed_by placing) item) → IfSome before (Settles item)
    settles_before None h = tt
    settles_before (Some z) h = h.0

    module _ (after : Option ℕ) (before : Option Pair) (w : IsPairOfAny x after before) (fits : IfSome before (FitsItem placing.puzzle (placed_by placing) item)) where
      real_pair : (option : ℕ) → IsOpenAt (cover_of x) chosen number option → (y : Pair) × IsPairOf x option y
      real_pair option at =
          let real = at.open_option.real in
          let many = many_options x Compiles in
          pair_at x Compiles option (omega (arith, real, many))

      pub last_by_pairs : IsLastFitting placing.puzzle (placed_by placing) item before → IsLast (cover_of x) chosen number after
      last_by_pairs last other at comes =
          let y = real_pair other at in
          let there = opens_fits other y.0 y.1 at in
          last y.0 there (comes_after after before w (settles_before before fits) other y.0 y.1 there.0 comes)

      pub next_by_pairs : (y : Pair) (option : ℕ) → IsPairOf x option y → IsNextFitting placing.puzzle (placed_by placing) item before y → IsNext (cover_of x) chosen number after option
      next_by_pairs y option v next = record {
        open_option = fits_opens option y v next.fits;
        after_it = comes_after_option after before w (settles_before before fits) option y v next.fits.0 next.after_it;
        first = λ other at comes.
            let z = real_pair other at in
            let there = opens_fits other z.0 z.1 at in
            ⊎_elim
            (λ same. let e = one_option x Compiles option other y v (subst (IsPairOf x other) (sym same) z.1) in omega (arith, e))
            (λ key. let lt = (stand_as_pairs x Compiles item option other y z.0 v z.1 next.fits.0 there.0).1 key in omega (arith, lt))
            (next.first z.0 there (comes_after after before w (settles_before before fits) other z.0 z.1 there.0 comes));
      }

      -- a pair that fits is an option's
      pub has_option : (y : Pair) → FitsItem placing.puzzle (placed_by placing) item y → IsOptionPair x.puzzle y
      has_option y there = fitting_option x Compiles chosen placing.pairs is.pairs is.selection.partial y (of_puzzle (λ p. Fits p (prefix_of p placing.pairs) y.cell y.placement) there.1)

  -- where no item is open, each is covered
  pub all_covered : ((item : Item) → items.IsOpen placing.puzzle (placed_by placing) item → ⊥) → AreAllCovered (cover_of x) chosen
  all_covered none number lt =
      let w = item_of Cells number in
      settled_covered x Compiles chosen placing.pairs is.pairs w.0 number w.1 (is_item w.0 w.1) (has_to w.0 w.1)
      (λ is_open. none w.0 (to_puzzle (λ p. items.IsOpen p (prefix_of p placing.pairs) w.0) is_open))
    where
      is_item : (item : Item) → IsNumberOf Cells number item → items.IsItem x.puzzle item
      is_item (Cell cell) n = n.1
      is_item (Tile tile) n =
          ⊎_elim (λ all. let many = all.1 in omega (arith, n, many, lt)) (λ some. let many = some.1 in absurd (omega (arith, n, many, lt))) (primaries_are x.puzzle)

      has_to : (item : Item) → IsNumberOf Cells number item → items.HasToBeSettled x.puzzle item
      has_to (Cell cell) n = tt
      has_to (Tile tile) n = ⊎_elim (λ all. all.0) (λ some. let many = some.1 in absurd (omega (arith, n, many, lt))) (primaries_are x.puzzle)

  -- an open option's pair can be placed
  pub open_fits_placing : (option : ℕ) (y : Pair) → IsPairOf x option y → IsOpen (cover_of x) chosen option → Fits placing.puzzle (placed_by placing) y.cell y.placement
  open_fits_placing option y w h =
      to_puzzle (λ p. Fits p (prefix_of p placing.pairs) y.cell y.placement)
      ((open_where_fitting x Compiles chosen placing.pairs is.pairs is.selection.partial option y w).0 h)

  -- one option more, and its pair
  pub placing_pushed : (option : ℕ) (y : Pair) → IsPairOf x option y → IsOpen (cover_of x) chosen option → IsPlacingOf x (chosen ++ option ∷ []) (with_next placing y)
  placing_pushed option y w h = record {
    selection = record { compiled = Compiles; partial = one_more (cover_of x) chosen is.selection.partial option h };
    puzzle = is.puzzle;
    pairs = pairs_pushed x chosen placing.pairs option y w is.pairs;
  }

  -- one less
  pub placing_popped : IsPlacingOf x (take (length chosen - 1) chosen) (without_last placing)
  placing_popped = record {
    selection = record { compiled = Compiles; partial = fewer (cover_of x) chosen is.selection.partial (length chosen - 1) };
    puzzle = is.puzzle;
    pairs = subst (λ n. ArePairsOf x (take (length chosen - 1) chosen) (take n placing.pairs)) (let long = is.pairs.long in let e : length chosen - 1 ≡ length placing.pairs - 1 = omega (arith, long) in e) (pairs_less x (length chosen - 1) chosen placing.pairs is.pairs);
  }

  -- the number of an open item
  pub open_numbered : (item : Item) (number : ℕ) → items.IsOpen placing.puzzle (placed_by placing) item → number ≡ item_place Cells item → IsNumberOf Cells number item
  open_numbered (Cell cell) number free at =
      let lt = slice_get_within (prefix_of placing.puzzle placing.pairs) cell None free in
      let long = length-with_pairs placing.pairs (empty_prefix placing.puzzle) ∙ length-replicate {A = Option Placement} (cell_count placing.puzzle.board) None in
      let cells = ap (λ (p : Task). cell_count p.board) is.puzzle in
      (at, omega (arith, lt, long, cells))
  open_numbered (Tile tile) number h at = at

  -- the option of a pair that comes next comes next
  module _ (item : Item) (number : ℕ) (n : IsNumberOf Cells number item) (after : Option ℕ) (before : Option Pair) (w : IsPairOfAny x after before) (fits : IfSome before (FitsItem placing.puzzle (placed_by placing) item)) where
    pub next_of_option : (y : Pair) (o : Option ℕ) → MatchOption o (IsOptionPair x.puzzle y → ⊥) (λ option. IsPairOf x option y) → IsNextFitting placing.puzzle (placed_by placing) item before y → MatchOption o (IsLast (cover_of x) chosen number after) (IsNext (cover_of x) chosen number after)
    next_of_option y None none next = absurd (none (has_option item number n after before w fits y next.fits))
    next_of_option y (Some option) v next = next_by_pairs item number n after before w fits y option v next

pub behind_from : (after : Option ℕ) (first number : ℕ) → MatchOption after (first ≡ 0) (λ n. first ≡ n + 1) → first ≤ number → ComesAfter after number
behind_from None first number is le = tt
behind_from (Some n) first number is le = omega (arith, is, le)
