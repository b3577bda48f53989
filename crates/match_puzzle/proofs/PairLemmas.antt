-- Prefixes that are made of pairs.
use Rattle.std.proofs.Common.{◌≡◌, ◌≢◌, ◌⊎◌, ◌<◌, ◌+◌, ◌++◌, ◌∷◌, [], ℕ, zero, suc, List, Option, Some, None, length, length-set, take, get_or, slice_get, arith, refl, sym, ap, ◌∙◌, subst, inl, inr, ⊎_elim}
use Rattle.std.proofs.lemmas.Bool.Decides.{eqb_tells}
use Rattle.std.proofs.lemmas.List.{length-replicate, get_or-replicate, take_more}
use Rattle.std.proofs.lemmas.Option.{slice_get_within, slice_get-get_or, get_or_from_slice_get}
use Rattle.match_limits.proofs.OptionLemmas.{none_some}
use Rattle.match_board.specs.Board.{cell_count}
use Rattle.match_puzzle.specs.Puzzle.{Task}
use Rattle.match_puzzle.specs.Prefix.{Prefix, Has, IsFree, IsUnused, empty_prefix, with_pair, with_pairs, without_cell}
use Rattle.match_puzzle.specs.PrefixFaults.{IsPairList}
use Rattle.match_puzzle.specs.declared.placements.Placement.{Placement}
use Rattle.match_puzzle.specs.declared.placements.Pair.{Pair}
use Rattle.match_puzzle.proofs.Prefixes.{inside, has_new, lifted_is, slice_get-set_same, slice_get-set_other}
use Rattle.match_puzzle.proofs.UsedTiles.{has_none}

pub with_pairs-append : (xs ys : List Pair) (q : Prefix) → with_pairs (xs ++ ys) q ≡ with_pairs ys (with_pairs xs q)
with_pairs-append [] ys q = refl
with_pairs-append (x ∷ xs) ys q = with_pairs-append xs ys (with_pair q x.cell x.placement)

pub length-with_pairs : (xs : List Pair) (q : Prefix) → length (with_pairs xs q) ≡ length q
length-with_pairs [] q = refl
length-with_pairs (x ∷ xs) q = length-with_pairs xs (with_pair q x.cell x.placement) ∙ length-set q x.cell (Some x.placement)

-- what stands after one pair more, or stood before
has_after : (q : Prefix) (cell : ℕ) (x : Placement) (c : ℕ) (y : Placement) → Has (with_pair q cell x) c y → ((c ≡ cell) × (y ≡ x)) ⊎ Has q c y
has_after q cell x c y has =
    ⊎_elim
    (λ e.
    let there = subst (λ k. Has (with_pair q cell x) k y) e.1 has in
    let lt : cell < length q = omega (arith, slice_get_within (with_pair q cell x) cell (Some y) there, length-set q cell (Some x)) in
    inl (e.1, inside (inside (sym there ∙ slice_get-set_same q cell (Some x) lt))))
    (λ ne. inr (sym (slice_get-set_other q cell c (Some x) ne.1) ∙ has))
    (eqb_tells c cell)

-- The placement stands at the cell by one of the pairs.
pub record IsOfPair (xs : List Pair) (c : ℕ) (y : Placement) : Type 0 where
  pub place : ℕ
  pub pair : Pair
  pub there : slice_get xs place ≡ Some pair
  pub cell : pair.cell ≡ c
  pub placement : pair.placement ≡ y

pub has_of_pairs : (xs : List Pair) (q : Prefix) (c : ℕ) (y : Placement) → Has (with_pairs xs q) c y → IsOfPair xs c y ⊎ Has q c y
has_of_pairs [] q c y has = inr has
has_of_pairs (x ∷ xs) q c y has =
    ⊎_elim
    (λ w. inl (record { place = suc w.place; pair = w.pair; there = w.there; cell = w.cell; placement = w.placement }))
    (λ before. ⊎_elim (λ e. inl (record { place = 0; pair = x; there = refl; cell = sym e.0; placement = sym e.1 })) (λ old. inr old) (has_after q x.cell x.placement c y before))
    (has_of_pairs xs (with_pair q x.cell x.placement) c y has)

-- a cell of none of the pairs stays free
pub free_of_pairs : (xs : List Pair) (q : Prefix) (c : ℕ) → ((place : ℕ) (x : Pair) → slice_get xs place ≡ Some x → x.cell ≢ c) → IsFree q c → IsFree (with_pairs xs q) c
free_of_pairs [] q c others free = free
free_of_pairs (x ∷ xs) q c others free =
    free_of_pairs xs (with_pair q x.cell x.placement) c (λ place y there. others (suc place) y there) (slice_get-set_other q x.cell c (Some x.placement) (λ e. others 0 x refl (sym e)) ∙ free)

-- a cell of the board is free where nothing is placed
pub free_in_empty : (p : Task) (c : ℕ) → c < cell_count p.board → IsFree (empty_prefix p) c
free_in_empty p c lt = slice_get-get_or (empty_prefix p) c None (omega (arith, lt, length-replicate {A = Option Placement} (cell_count p.board) None)) ∙ ap Some (get_or-replicate (cell_count p.board) c None None lt)

-- what stands among the first pairs
pub taken_at : {X : Type 0} (xs : List X) (i j : ℕ) (x : X) → slice_get (take i xs) j ≡ Some x → (j < i) × (slice_get xs j ≡ Some x)
taken_at [] zero j x e = absurd (none_some e)
taken_at [] (suc i) j x e = absurd (none_some e)
taken_at (z ∷ xs) zero j x e = absurd (none_some e)
taken_at (z ∷ xs) (suc i) zero x e = (omega arith, e)
taken_at (z ∷ xs) (suc i) (suc j) x e = let w = taken_at xs i j x e in (omega (arith, w.0), w.1)

module _ (p : Task) (pairs : List Pair) (is : IsPairList p pairs) (i : ℕ) (x : Pair) (there : slice_get pairs i ≡ Some x) where
  pub next_free : IsFree (with_pairs (take i pairs) (empty_prefix p)) x.cell
  next_free = free_of_pairs (take i pairs) (empty_prefix p) x.cell (λ j y at e. let w = taken_at pairs i j y at in omega (arith, is.rising j i y x w.1 there w.0, e)) (free_in_empty p x.cell (is.cells i x there))

  pub next_unused : IsUnused (with_pairs (take i pairs) (empty_prefix p)) x.placement.tile
  next_unused c y has same =
      ⊎_elim
      (λ w.
      let at = taken_at pairs i w.place w.pair w.there in
      let place = is.once w.place i w.pair x at.1 there (ap (λ (z : Placement). z.tile) w.placement ∙ same) in
      omega (arith, at.0, place))
      (λ has. has_none (cell_count p.board) c y has)
      (has_of_pairs (take i pairs) (empty_prefix p) c y has)

-- one more of a list
pub taken_more : {X : Type 0} (xs : List X) (i : ℕ) (x : X) → slice_get xs i ≡ Some x → take (i + 1) xs ≡ take i xs ++ x ∷ []
taken_more xs i x e = take_more xs i x (slice_get_within xs i x e) ∙ ap (λ y. take i xs ++ y ∷ []) (get_or_from_slice_get xs i x x e)

-- the prefix with the next pair too
pub next_pair : (pairs : List Pair) (i : ℕ) (x : Pair) (q : Prefix) → slice_get pairs i ≡ Some x → with_pairs (take (i + 1) pairs) q ≡ with_pair (with_pairs (take i pairs) q) x.cell x.placement
next_pair pairs i x q there = ap (λ xs. with_pairs xs q) (taken_more pairs i x there) ∙ with_pairs-append (take i pairs) (x ∷ []) q

-- the last of the first pairs stands, and can be taken away again
module _ (p : Task) (pairs : List Pair) (is : IsPairList p pairs) (i : ℕ) (x : Pair) (there : slice_get pairs i ≡ Some x) where
  pub last_stands : Has (with_pairs (take (i + 1) pairs) (empty_prefix p)) x.cell x.placement
  last_stands =
      subst (λ q. Has q x.cell x.placement) (sym (next_pair pairs i x (empty_prefix p) there)) (has_new (with_pairs (take i pairs) (empty_prefix p)) x.cell x.placement (next_free p pairs is i x there))

  pub last_lifted : without_cell (with_pairs (take (i + 1) pairs) (empty_prefix p)) x.cell ≡ with_pairs (take i pairs) (empty_prefix p)
  last_lifted = ap (λ q. without_cell q x.cell) (next_pair pairs i x (empty_prefix p) there) ∙ lifted_is (with_pairs (take i pairs) (empty_prefix p)) x.cell x.placement (next_free p pairs is i x there)

-- what was read is among the pairs
pub read_pair : (pairs : List Pair) (i : ℕ) (d : Pair) → i < length pairs → slice_get pairs i ≡ Some (get_or pairs i d)
read_pair pairs i d lt = slice_get-get_or pairs i d lt
