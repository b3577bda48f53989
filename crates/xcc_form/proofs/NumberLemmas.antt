-- Options by the numbers of their pairs: no two pairs have one number.
use Rattle.std.proofs.Common.{◌≡◌, ◌<◌, ◌≤◌, ◌+◌, ◌*◌, ℕ, List, Option, Some, None, MatchOption, slice_get, get_or, take, set, replicate, length, arith, refl, ap, sym, ◌∙◌, subst, ⊎_elim}
use Rattle.std.proofs.Math.ListN.{length-set}
use Rattle.std.proofs.Math.Nat.{mul-le-mul_left}
use Rattle.std.proofs.lemmas.Bool.Decides.{eqb_tells}
use Rattle.std.proofs.lemmas.List.{length-replicate}
use Rattle.std.proofs.lemmas.Option.{slice_get_within, get_or_from_slice_get, none-some}
use Rattle.match_limits.specs.Listing.{IsListing}
use Rattle.match_puzzle.specs.Puzzle.{Task, IsPuzzle}
use Rattle.match_puzzle.specs.declared.placements.Pair.{Pair}
use Rattle.match_puzzle.proofs.Prefixes.{inside, slice_get-set_same, slice_get-set_other, slice_get-replicate}
use Rattle.match_puzzle.proofs.PairLemmas.{taken_at}
use Rattle.match_puzzle.proofs.FittingLemmas.{small_turn, same_placement, same_pair}
use Rattle.xcc_form.specs.Options.{IsOptionPair, PairComesBefore}
use Rattle.xcc_form.specs.Correspondence.{IsPairOf}
use Rattle.xcc_form.specs.Numbers.{pair_number, AreNumbered}
use Rattle.xcc_form.specs.declared.edges.Edge.{Edge}
use Rattle.xcc_form.specs.declared.edges.SharedEdge.{SharedEdge}
use Rattle.xcc_form.proofs.ChoiceLemmas.{choice, choice_of, kept_value}
use Rattle.xcc_form.proofs.ConversionLemmas.{slice_get-take}
use Rattle.xcc_form.proofs.OptionLemmas.{contains_at, place_of, irreflexive}

-- a pair with a tile below the number of cells, and a turn below four
pub record IsSmall (cells : ℕ) (y : Pair) : Type 0 where
  pub cell : y.cell < cells
  pub tile : y.placement.tile < cells
  pub turn : y.placement.turn < 4

-- a further row begins behind the one before
row_behind : (cells c d t u : ℕ) → t < cells → c < d → cells * c + t ≡ cells * d + u → ⊥
row_behind cells c d t u small lt e =
    let le : c + 1 ≤ d = omega (arith, lt) in
    omega (arith, mul-le-mul_left cells le, small, e)

-- pairs with one number are one
pub one_number : (cells : ℕ) (y z : Pair) → IsSmall cells y → IsSmall cells z → pair_number cells y ≡ pair_number cells z → y ≡ z
one_number cells y z s s' e =
    let turn = s.turn in
    let turn' = s'.turn in
    let rows : cells * y.cell + y.placement.tile ≡ cells * z.cell + z.placement.tile = omega (arith, e, turn, turn') in
    let turns : y.placement.turn ≡ z.placement.turn = omega (arith, e, turn, turn') in
    let not_before : (y.cell < z.cell → ⊥) = λ lt. row_behind cells y.cell z.cell y.placement.tile z.placement.tile s.tile lt rows in
    let not_after : (z.cell < y.cell → ⊥) = λ lt. row_behind cells z.cell y.cell z.placement.tile y.placement.tile s'.tile lt (sym rows) in
    let cell : y.cell ≡ z.cell = omega (arith, not_before, not_after) in
    let tile : y.placement.tile ≡ z.placement.tile = omega (arith, rows, ap (λ n. cells * n) cell) in
    same_pair cell (same_placement tile turns)

-- the number of a small pair is one of a table
pub number_within : (cells : ℕ) (y : Pair) → IsSmall cells y → pair_number cells y < 4 * cells * cells
number_within cells y s =
    let tile = s.tile in
    let turn = s.turn in
    let le : y.cell + 1 ≤ cells = omega (arith, s.cell) in
    omega (arith, mul-le-mul_left cells le, tile, turn)

-- the pair of an option is small
pub small_pair : (p : Task) (y : Pair) → IsPuzzle p → IsOptionPair p y → IsSmall (length p.words) y
small_pair p y puzzle good = record {
  cell = let lt = good.cell in let enough = puzzle.tiles.enough in omega (arith, lt, enough);
  tile = good.legal.tile;
  turn = small_turn p y.placement puzzle good.legal;
}

module _ (p : Task) (puzzle : IsPuzzle p) (pairs : List Pair) (are : IsListing PairComesBefore (IsOptionPair p) pairs) where
  pub option_pair : (option : ℕ) (y : Pair) → slice_get pairs option ≡ Some y → IsOptionPair p y
  option_pair option y at = are.only y (contains_at pairs option y at)

  -- no pair stands twice
  one_place : (option other : ℕ) (y : Pair) → slice_get pairs option ≡ Some y → slice_get pairs other ≡ Some y → option ≡ other
  one_place option other y at at' =
      let before : (i j : ℕ) → i < j → slice_get pairs i ≡ Some y → slice_get pairs j ≡ Some y → ⊥ = λ i j lt here there.
      let rises = are.rising i j y lt (slice_get_within pairs j y there) in
      irreflexive y (subst (λ u. PairComesBefore u y) (get_or_from_slice_get pairs i y y here) (subst (PairComesBefore (get_or pairs i y)) (get_or_from_slice_get pairs j y y there) rises)) in
      let not_before : (option < other → ⊥) = λ lt. before option other lt at at' in
      let not_after : (other < option → ⊥) = λ lt. before other option lt at' at in
      omega (arith, not_before, not_after)

  -- no options
  pub none_numbered : AreNumbered (length p.words) (take 0 pairs) (replicate (4 * length p.words * length p.words) None)
  none_numbered = record {
    long = length-replicate (4 * length p.words * length p.words) None;
    stands = λ option y at. absurd (none-some y at);
    only = λ number option at. absurd (none-some option (sym (slice_get-replicate (4 * length p.words * length p.words) number None (Some option) at)));
  }

  -- one option more
  pub one_more_numbered : (k : ℕ) (y : Pair) (options : List (Option ℕ)) → slice_get pairs k ≡ Some y → AreNumbered (length p.words) (take k pairs) options → AreNumbered (length p.words) (take (k + 1) pairs) (set options (pair_number (length p.words) y) (Some k))
  one_more_numbered k y options at are_numbered = record {
    long = length-set options here (Some k) ∙ are_numbered.long;
    stands = λ option z there.
        let w = taken_at pairs (k + 1) option z there in
        ⊎_elim
        (λ e.
        let same : y ≡ z = inside (sym at ∙ ap (slice_get pairs) (sym e.1) ∙ w.1) in
        subst (λ u. slice_get (set options here (Some k)) (pair_number cells u) ≡ Some (Some option)) same
        (subst (λ n. slice_get (set options here (Some k)) here ≡ Some (Some n)) (sym e.1) written))
        (λ ne.
        let old = are_numbered.stands option z (slice_get-take k pairs option (let lt = w.0 in omega (arith, lt, ne.1)) ∙ w.1) in
        slice_get-set_other options here (pair_number cells z) (Some k) (λ e. ne.1 (one_place option k z w.1 (at ∙ ap Some (sym (one_number cells z y (small_pair p z puzzle (option_pair option z w.1)) (small_pair p y puzzle (option_pair k y at)) e))))) ∙ old)
        (eqb_tells option k);
    only = λ number option there.
        ⊎_elim
        (λ e.
        let same : k ≡ option = inside (inside (sym written ∙ ap (slice_get (set options here (Some k))) (sym e.1) ∙ there)) in
        (y, slice_get-take (k + 1) pairs option (omega (arith, same)) ∙ ap (slice_get pairs) (sym same) ∙ at, sym e.1))
        (λ ne.
        let old = are_numbered.only number option (sym (slice_get-set_other options here number (Some k) ne.1) ∙ there) in
        let w = taken_at pairs k option old.0 old.1 in
        (old.0, slice_get-take (k + 1) pairs option (let lt = w.0 in omega (arith, lt)) ∙ w.1, old.2))
        (eqb_tells number here);
  }
    where
      cells : ℕ
      cells = length p.words

      here : ℕ
      here = pair_number (length p.words) y

      written : slice_get (set options here (Some k)) here ≡ Some (Some k)
      written = slice_get-set_same options here (Some k) (let lt = number_within (length p.words) y (small_pair p y puzzle (option_pair k y at)) in let long = are_numbered.long in omega (arith, lt, long))

  -- what stands at a pair's number tells its option
  pub told : (shared : List SharedEdge) (starts : List ℕ) (edges : List Edge) (options : List (Option ℕ)) (y : Pair) (o : Option ℕ) → AreNumbered (length p.words) pairs options → IsSmall (length p.words) y → slice_get options (pair_number (length p.words) y) ≡ Some o → MatchOption o (IsOptionPair p y → ⊥) (λ option. IsPairOf (kept_value p shared pairs starts edges) option y)
  told shared starts edges options y None numbered small at = λ good.
      let place = place_of pairs y (are.all y good) in
      none-some place.0 (inside (sym at ∙ numbered.stands place.0 y place.1))
  told shared starts edges options y (Some option) numbered small at =
      let z = numbered.only (pair_number (length p.words) y) option at in
      let same = one_number (length p.words) z.0 y (small_pair p z.0 puzzle (option_pair option z.0 z.1)) small z.2 in
      (choice starts edges option y, choice_of starts edges 0 pairs option option y (omega arith) (z.1 ∙ ap Some same), refl)
