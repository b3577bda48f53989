-- Tables of counts, one for each pair that is placed.
use Rattle.std.proofs.Common.{◌≡◌, ◌≤◌, ◌+◌, ◌*◌, ◌++◌, ◌∷◌, [], ℕ, List, length, length-append, get_or, take, drop, arith, refl, ap, sym, ◌∙◌, subst, ⊎_elim}
use Rattle.std.specs.List.{concat}
use Rattle.std.proofs.Math.Seq.{take-append_seam}
use Rattle.std.proofs.lemmas.List.{append-nil, take-append-le, take_all, take_more, take_at, drop_at, length-take, length_push}
use Rattle.std.proofs.lemmas.List.Folds.{concat-append}
use Rattle.std.proofs.lemmas.Option.{slice_get_within, slice_get-get_or}
use Rattle.match_board.specs.Board.{cell_count}
use Rattle.match_puzzle.specs.Puzzle.{Task}
use Rattle.fit_counts.specs.Placing.{prefix_of}
use Rattle.fit_counts.specs.FitSizes.{AreSizes, AreSaved}
use Rattle.match_puzzle.specs.declared.placements.Pair.{Pair}
use Rattle.match_puzzle.proofs.PairLemmas.{taken_at}
use Rattle.fit_counts.proofs.PlacedPairLemmas.{pushed_at}

-- one pair more
pub saved_pushed : (p : Task) (pairs : List Pair) (y : Pair) (saved sizes : List ℕ) → AreSaved p pairs saved → AreSizes p (prefix_of p pairs) sizes → AreSaved p (pairs ++ y ∷ []) (saved ++ sizes)
saved_pushed p pairs y saved sizes is here = record {
  tables = is.tables ++ sizes ∷ [];
  many = let many = is.many in omega (arith, length_push is.tables sizes, length_push pairs y, many);
  joined = concat-append is.tables (sizes ∷ []) ∙ ap (λ s. s ++ (sizes ++ [])) is.joined ∙ ap (λ s. saved ++ s) (append-nil sizes);
  are = λ count table at.
      ⊎_elim
      (λ old.
      let within = slice_get_within is.tables count table old in
      let many = is.many in
      subst (λ ps. AreSizes p (prefix_of p ps) table) (sym (take-append-le count pairs (y ∷ []) (omega (arith, within, many)))) (is.are count table old))
      (λ new.
      subst (λ t. AreSizes p (prefix_of p (take count (pairs ++ y ∷ []))) t) (sym new.1)
      (subst (λ ps. AreSizes p (prefix_of p ps) sizes) (sym (ap (λ n. take n (pairs ++ y ∷ [])) (new.0 ∙ is.many) ∙ take-append_seam pairs (y ∷ []))) here))
      (pushed_at is.tables sizes count table at);
}

-- the last pair is lifted
module _ (p : Task) (pairs : List Pair) (y : Pair) (saved : List ℕ) (is : AreSaved p (pairs ++ y ∷ []) saved) where
  abbrev Last : List ℕ
  Last = get_or is.tables (length pairs) []

  abbrev Before : List (List ℕ)
  Before = take (length pairs) is.tables

  many_tables : length is.tables ≡ length pairs + 1
  many_tables = is.many ∙ length_push pairs y

  apart : is.tables ≡ Before ++ Last ∷ []
  apart =
      let many = many_tables in
      sym (take_all (length pairs + 1) is.tables (omega (arith, many))) ∙ take_more is.tables (length pairs) [] (omega (arith, many))

  joined_apart : saved ≡ concat Before ++ Last
  joined_apart = sym is.joined ∙ ap concat apart ∙ concat-append Before (Last ∷ []) ∙ ap (λ s. concat Before ++ s) (append-nil Last)

  last_sizes : AreSizes p (prefix_of p pairs) Last
  last_sizes =
      let many = many_tables in
      subst (λ ps. AreSizes p (prefix_of p ps) Last) (take-append_seam pairs (y ∷ []))
      (is.are (length pairs) Last (slice_get-get_or is.tables (length pairs) [] (omega (arith, many))))

  before_saved : AreSaved p pairs (concat Before)
  before_saved = record {
    tables = Before;
    many = let many = many_tables in omega (arith, length-take (length pairs) is.tables, many);
    joined = refl;
    are = λ count table at.
        let w = taken_at is.tables (length pairs) count table at in
        let less = w.0 in
        subst (λ ps. AreSizes p (prefix_of p ps) table) (take-append-le count pairs (y ∷ []) (omega (arith, less))) (is.are count table w.1);
  }

  pub last_long : cell_count p.board + length p.words ≤ length saved
  last_long =
      let all = ap length joined_apart ∙ length-append (concat Before) Last in
      let long = last_sizes.open_items.long in
      omega (arith, all, long)

  front_long : (at : ℕ) → at + (cell_count p.board + length p.words) ≡ length saved → length (concat Before) ≡ at
  front_long at e =
      let all = ap length joined_apart ∙ length-append (concat Before) Last in
      let long = last_sizes.open_items.long in
      omega (arith, all, long, e)

  pub saved_before : (at : ℕ) → at + (cell_count p.board + length p.words) ≡ length saved → AreSaved p pairs (take at saved)
  saved_before at e = subst (AreSaved p pairs) (sym (ap (take at) joined_apart ∙ take_at (concat Before) Last at (front_long at e))) before_saved

  pub sizes_before : (at : ℕ) → at + (cell_count p.board + length p.words) ≡ length saved → AreSizes p (prefix_of p pairs) (drop at saved)
  sizes_before at e = subst (AreSizes p (prefix_of p pairs)) (sym (ap (drop at) joined_apart ∙ drop_at (concat Before) Last at (front_long at e))) last_sizes
