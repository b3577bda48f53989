-- What stands in prefixes and arrangements.
use Rattle.std.proofs.Common.{◌≡◌, ◌⊎◌, ◌<◌, ◌+◌, ◌-◌, ◌==◌, ℕ, zero, suc, Bool, false, List, [], ◌∷◌, Some, None, Contains, MatchBool, length, length-set, slice_get, map, arith, refl, ap, sym, ◌∙◌, subst, inl, inr, ⊎_elim}
use Rattle.std.proofs.lemmas.Option.{slice_get_within}
use Rattle.std.proofs.lemmas.Bool.{ne_eqb}
use Rattle.std.proofs.lemmas.List.{length-replicate}
use Rattle.match_board.specs.Board.{cell_count}
use Rattle.match_puzzle.specs.Puzzle.{Task}
use Rattle.match_puzzle.specs.Arrangement.{Stands}
use Rattle.match_puzzle.specs.Prefix.{Prefix, Has, IsFree, Extends, with_pair, with_pairs, empty_prefix}
use Rattle.match_puzzle.specs.declared.placements.Placement.{Placement}
use Rattle.match_puzzle.specs.declared.placements.Pair.{Pair}
use Rattle.match_puzzle.proofs.Prefixes.{inside}
use Rattle.match_puzzle.proofs.UsedTiles.{has_none}
use Rattle.puzzle_symmetry.specs.Images.{HasPairs}
use Rattle.cert_tree.specs.Certificate.{Piece}
use Rattle.cert_check.specs.Setting.{prefix_of}
use Rattle.cert_check.specs.Derivation.{start_of, HasRoot}
use Rattle.match_limits.proofs.ListLemmas.{none≢some}

length-with_pairs : (pairs : List Pair) (q : Prefix) → length (with_pairs pairs q) ≡ length q
length-with_pairs [] q = refl
length-with_pairs (x ∷ pairs) q = length-with_pairs pairs (with_pair q x.cell x.placement) ∙ length-set q x.cell (Some x.placement)

pub start_long : (p : Task) (lemma : Piece) → length (start_of p lemma) ≡ cell_count p.board
start_long p lemma = length-with_pairs lemma.prefix (empty_prefix p) ∙ length-replicate (cell_count p.board) None

-- a cell of the board is free or filled
pub free_or_filled : (q : Prefix) (cell : ℕ) → cell < length q → IsFree q cell ⊎ ((x : Placement) × Has q cell x)
free_or_filled [] cell lt = absurd (omega arith)
free_or_filled (None ∷ q) zero lt = inl refl
free_or_filled (Some x ∷ q) zero lt = inr (x, refl)
free_or_filled (y ∷ q) (suc cell) lt = free_or_filled q cell (omega arith)

-- something stands at each cell of an arrangement
pub stands_in : (a : List Placement) (cell : ℕ) → cell < length a → (x : Placement) × Stands a cell x
stands_in [] cell lt = absurd (omega arith)
stands_in (y ∷ a) zero lt = (y, refl)
stands_in (y ∷ a) (suc cell) lt = stands_in a cell (omega arith)

-- what stands in a list stands in it as a prefix
pub has_of_stands : (a : List Placement) (cell : ℕ) (x : Placement) → Stands a cell x → Has (map Some a) cell x
has_of_stands [] cell x s = absurd (none≢some s)
has_of_stands (y ∷ a) zero x s = ap Some s
has_of_stands (y ∷ a) (suc cell) x s = has_of_stands a cell x s

-- a list as a prefix has no free cell
pub none_free : (a : List Placement) (cell : ℕ) → IsFree (map Some a) cell → ⊥
none_free [] cell e = none≢some e
none_free (y ∷ a) zero e = none≢some (sym (inside e))
none_free (y ∷ a) (suc cell) e = none_free a cell e

-- what stands in a prefix with one more pair
has_with : (q : Prefix) (cell : ℕ) (x : Placement) (cell' : ℕ) (y : Placement) → Has (with_pair q cell x) cell' y → ((cell' ≡ cell) × (y ≡ x)) ⊎ Has q cell' y
has_with [] cell x cell' y has = absurd (none≢some has)
has_with (o ∷ q) zero x zero y has = inl (refl, sym (inside (inside has)))
has_with (o ∷ q) zero x (suc cell') y has = inr has
has_with (o ∷ q) (suc cell) x zero y has = inr has
has_with (o ∷ q) (suc cell) x (suc cell') y has = ⊎_elim (λ w. inl (ap suc w.0, w.1)) (λ old. inr old) (has_with q cell x cell' y has)

extends_with : (a : List Placement) (pairs : List Pair) (q : Prefix) → Extends a q → ((x : Pair) → Contains pairs x → Stands a x.cell x.placement) → Extends a (with_pairs pairs q)
extends_with a [] q extends has = extends
extends_with a (x ∷ pairs) q extends has =
    extends_with a pairs (with_pair q x.cell x.placement)
    (λ cell y there. ⊎_elim (λ w. subst (λ c. Stands a c y) (sym w.0) (subst (Stands a x.cell) (sym w.1) (has x (0, omega arith, refl)))) (λ old. extends cell y old) (has_with q x.cell x.placement cell y there))
    (λ y among. has y (suc among.0, omega (arith, among.1), among.2))

-- An arrangement that has the pairs of a prefix extends it.
pub extends_pairs : (p : Task) (pairs : List Pair) (a : List Placement) → HasPairs pairs a → Extends a (with_pairs pairs (empty_prefix p))
extends_pairs p pairs a has = extends_with a pairs (empty_prefix p) (λ cell x there. absurd (has_none (cell_count p.board) cell x there)) has

-- ---- the root

last_is : {X : Type 0} (xs : List X) (x : X) → slice_get xs (length xs - 1) ≡ Some x → length xs ≡ (length xs - 1) + 1
last_is xs x at = let lt = slice_get_within xs (length xs - 1) x at in omega (arith, lt)

-- Whether the last lemma begins with nothing placed tells whether there is a root.
pub tells_root : (lemmas : List Piece) (root : Piece) (pairs : List Pair) (empty : Bool) → slice_get lemmas (length lemmas - 1) ≡ Some root → pairs ≡ root.prefix → empty ≡ (length pairs == 0) →
    MatchBool empty (HasRoot lemmas) (HasRoot lemmas → ⊥)
tells_root lemmas root [] empty at same is =
    subst (λ b. MatchBool b (HasRoot lemmas) (HasRoot lemmas → ⊥)) (sym is) (length lemmas - 1, root, last_is lemmas root at, at, sym same)
tells_root lemmas root (x ∷ pairs) empty at same is =
    let some : (length (x ∷ pairs) == 0) ≡ false = ne_eqb (suc (length pairs)) 0 (λ e. omega (arith, e)) in
    subst (λ b. MatchBool b (HasRoot lemmas) (HasRoot lemmas → ⊥)) (sym (is ∙ some))
    (λ has.
    let k : has.0 ≡ length lemmas - 1 = omega (arith, last_is lemmas root at, has.2) in
    let e : has.1 ≡ root = inside (sym has.3 ∙ ap (slice_get lemmas) k ∙ at) in
    omega (arith, ap length (same ∙ sym (ap prefix_of e) ∙ has.4)))
