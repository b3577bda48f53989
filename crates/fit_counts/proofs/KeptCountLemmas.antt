-- What is kept of placed pairs, with one more and one less.
use Rattle.std.proofs.Common.{◌≡◌, ◌<◌, ◌≤◌, ◌+◌, ◌*◌, ◌++◌, ◌∷◌, [], ℕ, List, Option, None, length, take, drop, arith, refl, ap, sym, ◌∙◌, subst}
use Rattle.std.proofs.lemmas.List.{length-replicate}
use Rattle.std.proofs.lemmas.Option.{slice_get_within}
use Rattle.match_board.specs.Board.{cell_count}
use Rattle.match_limits.proofs.OptionLemmas.{none_some}
use Rattle.match_puzzle.specs.Puzzle.{Task, IsPuzzle}
use Rattle.match_puzzle.specs.Prefix.{Prefix, Has, with_pair, without_cell, empty_prefix}
use Rattle.match_puzzle.specs.Fitting.{Fits}
use Rattle.fit_counts.specs.Placing.{prefix_of}
use Rattle.fit_counts.specs.FitRows.{AreRows, AreRowsElsewhere}
use Rattle.fit_counts.specs.FitSizes.{AreSizes, AreKeptBeside}
use Rattle.match_puzzle.specs.declared.placements.Placement.{Placement}
use Rattle.match_puzzle.specs.declared.placements.Pair.{Pair}
use Rattle.match_puzzle.proofs.PairLemmas.{length-with_pairs}
use Rattle.fit_counts.proofs.PlacedPairLemmas.{fit_pushed, fit_popped, last_fits, last_has, last_taken, prefix_pushed}
use Rattle.fit_counts.proofs.SavedLemmas.{saved_pushed, saved_before, sizes_before, last_long}
use Rattle.fit_counts.proofs.FitRowLemmas.{rows_lifted}

-- nothing is placed yet
pub kept_none : (p : Task) (q : Prefix) (rows : List (List ℕ)) (sizes : List ℕ) → IsPuzzle p → q ≡ empty_prefix p → AreRows p q rows → AreSizes p q sizes → AreKeptBeside p [] q rows sizes []
kept_none p q rows sizes puzzle empty are_rows are_sizes = record {
  puzzle = puzzle;
  fit = λ place x at. absurd (none_some at);
  placed = empty;
  rows = are_rows;
  sizes = are_sizes;
  saved = record { tables = []; many = refl; joined = refl; are = λ count table at. absurd (none_some at) };
}

pub kept_pushed : (p : Task) (pairs : List Pair) (y : Pair) (q : Prefix) (rows : List (List ℕ)) (sizes saved : List ℕ) → AreKeptBeside p pairs q rows sizes saved → Fits p q y.cell y.placement → (rows' : List (List ℕ)) (sizes' : List ℕ) → AreRows p (with_pair q y.cell y.placement) rows' → AreSizes p (with_pair q y.cell y.placement) sizes' →
    AreKeptBeside p (pairs ++ y ∷ []) (with_pair q y.cell y.placement) rows' sizes' (saved ++ sizes)
kept_pushed p pairs y q rows sizes saved kept fits rows' sizes' are_rows are_sizes = record {
  puzzle = kept.puzzle;
  fit = fit_pushed p pairs y kept.fit (subst (λ r. Fits p r y.cell y.placement) kept.placed fits);
  placed = ap (λ r. with_pair r y.cell y.placement) kept.placed ∙ sym (prefix_pushed p pairs y);
  rows = are_rows;
  sizes = are_sizes;
  saved = saved_pushed p pairs y saved sizes kept.saved (subst (λ r. AreSizes p r sizes) kept.placed kept.sizes);
}

module _ (p : Task) (pairs : List Pair) (y : Pair) (q : Prefix) (rows : List (List ℕ)) (sizes saved : List ℕ) (kept : AreKeptBeside p (pairs ++ y ∷ []) q rows sizes saved) where
  pub last_stands : Has q y.cell y.placement
  last_stands = subst (λ r. Has r y.cell y.placement) (sym kept.placed) (last_has p pairs y kept.fit)

  pub last_in : y.cell < cell_count p.board
  last_in =
      let within = slice_get_within (prefix_of p pairs) y.cell None (last_fits p pairs y kept.fit).free in
      let long = length-with_pairs pairs (empty_prefix p) ∙ length-replicate {A = Option Placement} (cell_count p.board) None in
      omega (arith, within, long)

  pub saved_long : length sizes ≤ length saved
  saved_long = let long = kept.sizes.open_items.long in let last = last_long p pairs y saved kept.saved in omega (arith, long, last)

  lifted : without_cell q y.cell ≡ prefix_of p pairs
  lifted = ap (λ r. without_cell r y.cell) kept.placed ∙ last_taken p pairs y kept.fit

  pub rows_elsewhere : AreRowsElsewhere p (without_cell q y.cell) y.cell rows
  rows_elsewhere =
      subst (λ r. AreRowsElsewhere p r y.cell rows) (sym lifted)
      (rows_lifted p (prefix_of p pairs) y (last_fits p pairs y kept.fit).free rows (subst (λ r. AreRows p r rows) (kept.placed ∙ prefix_pushed p pairs y) kept.rows))

  pub kept_popped : (at : ℕ) → at + length sizes ≡ length saved → (rows' : List (List ℕ)) → AreRows p (without_cell q y.cell) rows' → AreKeptBeside p pairs (without_cell q y.cell) rows' (drop at saved) (take at saved)
  kept_popped at e rows' are_rows =
      let long = kept.sizes.open_items.long in
      let place : at + (cell_count p.board + length p.words) ≡ length saved = omega (arith, long, e) in
      record {
        puzzle = kept.puzzle;
        fit = fit_popped p pairs y kept.fit;
        placed = lifted;
        rows = are_rows;
        sizes = subst (λ r. AreSizes p r (drop at saved)) (sym lifted) (sizes_before p pairs y saved kept.saved at place);
        saved = saved_before p pairs y saved kept.saved at place;
      }
