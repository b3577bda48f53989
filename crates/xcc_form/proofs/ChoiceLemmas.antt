-- The options that a layout stands for.
use Rattle.std.proofs.Common.{◌≡◌, ◌<◌, ◌≤◌, ◌+◌, ◌-◌, ◌*◌, ℕ, zero, suc, List, Option, [], ◌∷◌, Some, length, length-drop, slice_get, get_or, map, drop, arith, refl, ap, sym, ◌∙◌, subst}
use Rattle.std.proofs.lemmas.List.{length-take-le}
use Rattle.std.proofs.lemmas.Option.{none-some}
use Rattle.match_board.specs.Board.{cell_count}
use Rattle.match_limits.specs.Listing.{IsListing}
use Rattle.match_puzzle.specs.Puzzle.{Task, IsPuzzle}
use Rattle.match_puzzle.specs.declared.placements.Pair.{Pair}
use Rattle.match_puzzle.proofs.Prefixes.{inside}
use Rattle.xcc_form.specs.ExactCover.{entry_count}
use Rattle.xcc_form.specs.Options.{Choice, Compiled, IsCompiled, AreSharedEdges, AreShownEdges, IsOptionPair, PairComesBefore, pair_of, items_of, entries_of}
use Rattle.xcc_form.specs.Layout.{edges_of, choices_from, AreLaidOut, IsKept}
use Rattle.xcc_form.specs.declared.edges.Edge.{Edge}
use Rattle.xcc_form.specs.declared.edges.SharedEdge.{SharedEdge}

module _ (starts : List ℕ) (edges : List Edge) where
  pub length-choices : (first : ℕ) (pairs : List Pair) → length (choices_from first pairs starts edges) ≡ length pairs
  unfolding choices_from
  length-choices first [] = refl
  length-choices first (x ∷ pairs) = ap suc (length-choices (first + 1) pairs)

  pub pairs_of_choices : (first : ℕ) (pairs : List Pair) → map pair_of (choices_from first pairs starts edges) ≡ pairs
  unfolding choices_from
  pairs_of_choices first [] = refl
  pairs_of_choices first (x ∷ pairs) = ap (λ (xs : List Pair). x ∷ xs) (pairs_of_choices (first + 1) pairs)

  -- the option with this number
  abbrev pub choice : ℕ → Pair → Choice
  choice option x = record { pair = x; edges = edges_of starts edges option }

  pub choice_of : (first : ℕ) (pairs : List Pair) (o option : ℕ) (x : Pair) → option ≡ first + o → slice_get pairs o ≡ Some x → slice_get (choices_from first pairs starts edges) o ≡ Some (choice option x)
  unfolding choices_from
  choice_of first [] o option x e at = absurd (none-some x at)
  choice_of first (y ∷ pairs) zero option x e at =
      ap (λ n. Some (choice n y)) (let same : first ≡ option = omega (arith, e) in same) ∙ ap (λ (z : Pair). Some (choice option z)) (inside at)
  choice_of first (y ∷ pairs) (suc o) option x e at = choice_of (first + 1) pairs o option x (omega (arith, e)) at

  pub choice_at : (first : ℕ) (pairs : List Pair) (o option : ℕ) (c : Choice) → option ≡ first + o → slice_get (choices_from first pairs starts edges) o ≡ Some c → (slice_get pairs o ≡ Some c.pair) × (c ≡ choice option c.pair)
  unfolding choices_from
  choice_at first [] o option c e at = absurd (none-some c at)
  choice_at first (y ∷ pairs) zero option c e at =
      let same = inside at in (
        ap (λ (d : Choice). Some d.pair) same,
        sym same ∙ ap (λ n. choice n y) (let at_first : first ≡ option = omega (arith, e) in at_first) ∙ ap (λ (d : Choice). choice option d.pair) same,
      )
  choice_at first (y ∷ pairs) (suc o) option c e at = choice_at (first + 1) pairs o option c (omega (arith, e)) at

  -- how many entries they have: two for each pair, and the edges between the first start and the last
  pub many_entries : (cells first : ℕ) (pairs : List Pair) (end : ℕ) → end ≡ first + length pairs → ((o : ℕ) → first ≤ o → o < end → get_or starts o 0 ≤ get_or starts (o + 1) 0) → ((o : ℕ) → o ≤ end → get_or starts o 0 ≤ length edges) → entry_count (map (items_of cells) (choices_from first pairs starts edges)) + get_or starts first 0 ≡ 2 * length pairs + get_or starts end 0
  unfolding choices_from
  many_entries cells first [] end e rising within = let same : end ≡ first = omega (arith, e) in ap (λ n. 0 + get_or starts n 0) (sym same) ∙ omega arith
  many_entries cells first (x ∷ pairs) end e rising within =
      let rest = many_entries cells (first + 1) pairs end (omega (arith, e)) (λ o le lt. rising o (omega (arith, le)) lt) within in
      let up = rising first (omega arith) (omega (arith, e)) in
      let high = within (first + 1) (omega (arith, e)) in
      let tail = length-drop (get_or starts first 0) edges in
      let wide = length-take-le (get_or starts (first + 1) 0 - get_or starts first 0) (drop (get_or starts first 0) edges) (omega (arith, tail, up, high)) in
      omega (arith, rest, up, wide)

module _ (p : Task) (shared : List SharedEdge) (pairs : List Pair) (starts : List ℕ) (edges : List Edge) (is : AreLaidOut p shared pairs starts edges) where
  -- the options that are kept so
  abbrev pub laid_out_choices : List Choice
  laid_out_choices = choices_from 0 pairs starts edges

  pub entries_are : entry_count (map (items_of (cell_count p.board)) laid_out_choices) ≡ 2 * length pairs + length edges
  entries_are =
      let all = many_entries starts edges (cell_count p.board) 0 pairs (length pairs) (omega arith) (λ o le lt. is.rising o lt) is.within in
      let first = is.first in
      let last = is.last in
      omega (arith, all, first, last)

  pub compiled_is : IsPuzzle p → AreSharedEdges p.board shared → IsListing PairComesBefore (IsOptionPair p) pairs → IsCompiled (record { puzzle = p; shared = shared; options = laid_out_choices })
  compiled_is puzzle all_shared all_pairs = record {
    puzzle = puzzle;
    shared = all_shared;
    pairs = subst (IsListing PairComesBefore (IsOptionPair p)) (sym (pairs_of_choices starts edges 0 pairs)) all_pairs;
    edges = λ option c at.
        let found = choice_at starts edges 0 pairs option option c (omega arith) at in
        subst (AreShownEdges p shared c.pair) (sym (ap (λ (d : Choice). d.edges) found.1)) (is.shown option c.pair found.0);
  }

module _ (p : Task) (shared : List SharedEdge) (pairs : List Pair) (starts : List ℕ) (edges : List Edge) where
  -- what is kept, as contracts see it
  abbrev pub kept_value : Compiled
  kept_value = record { puzzle = p; shared = shared; options = choices_from 0 pairs starts edges }

  module _ (numbers : List (Option ℕ)) (k : IsKept p shared pairs starts edges numbers) where
    pub kept_compiled : IsCompiled kept_value
    kept_compiled = compiled_is p shared pairs starts edges k.laid_out k.puzzle k.all_shared k.all_pairs

    pub kept_entries : entries_of kept_value ≡ 2 * length pairs + length edges
    kept_entries = entries_are p shared pairs starts edges k.laid_out
