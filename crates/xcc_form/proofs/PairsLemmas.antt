-- The pairs of the options, cell after cell.
use Rattle.std.proofs.Common.{◌≡◌, ◌<◌, ◌≤◌, ◌+◌, ℕ, suc, List, [], ◌∷◌, ◌++◌, Contains, append_assoc, arith, refl, ap, sym, ◌∙◌, subst, inl, inr, ⊎_elim}
use Rattle.std.proofs.lemmas.Bool.Decides.{eqb_tells}
use Rattle.match_board.specs.Board.{cell_count}
use Rattle.match_limits.specs.Listing.{IsListing, ByKey}
use Rattle.match_puzzle.specs.Puzzle.{Task, IsLegal}
use Rattle.match_puzzle.specs.Prefix.{empty_prefix}
use Rattle.match_puzzle.specs.Fitting.{FitsItem, AreFitting, item_key}
use Rattle.match_puzzle.specs.declared.items.Item.TheVariants.{Cell}
use Rattle.match_puzzle.specs.declared.placements.Pair.{Pair}
use Rattle.match_puzzle.proofs.UsedTiles.{has_none}
use Rattle.match_puzzle.proofs.PairLemmas.{free_in_empty}
use Rattle.xcc_form.specs.Options.{IsOptionPair, PairComesBefore}
use Rattle.xcc_form.proofs.ListingMore.{listing_same, listing_order, listing_append, listing_nothing}

-- ---- one after the other

pub one_moved : (xs xs' ys ys' all : List Pair) (x : Pair) → ys ≡ x ∷ ys' → xs' ≡ xs ++ x ∷ [] → xs ++ ys ≡ all → xs' ++ ys' ≡ all
one_moved xs xs' ys ys' all x first pushed whole =
    ap (λ (zs : List Pair). zs ++ ys') pushed ∙ append_assoc xs (x ∷ []) ys' ∙ ap (λ (zs : List Pair). xs ++ zs) (sym first) ∙ whole

pub in_rest : (x y : Pair) (ys : List Pair) → Contains ys y → Contains (x ∷ ys) y
in_rest x y ys c = (suc c.0, omega (arith, c.1), c.2)

pub in_first : (x : Pair) (ys : List Pair) → Contains (x ∷ ys) x
in_first x ys = (0, omega arith, refl)

-- ---- what fits where nothing stands

-- The pair is of this cell.
abbrev pub IsPairAt : Task → ℕ → Pair → Type 0
IsPairAt p cell x = IsOptionPair p x × (x.cell ≡ cell)

-- The pair is of a cell before this one.
abbrev pub IsPairBefore : Task → ℕ → Pair → Type 0
IsPairBefore p cell x = IsOptionPair p x × (x.cell < cell)

fits_as_option : (p : Task) (cell : ℕ) (x : Pair) → cell < cell_count p.board → FitsItem p (empty_prefix p) (Cell cell) x → IsPairAt p cell x
fits_as_option p cell x lt fits = (record { cell = omega (arith, fits.0, lt); legal = fits.1.legal; border = fits.1.border }, fits.0)

option_fits : (p : Task) (cell : ℕ) (x : Pair) → IsPairAt p cell x → FitsItem p (empty_prefix p) (Cell cell) x
option_fits p cell x is = (
  is.1,
  record {
    free = free_in_empty p x.cell is.0.cell;
    unused = λ c y has. absurd (has_none (cell_count p.board) c y has);
    legal = is.0.legal;
    border = is.0.border;
    edges = λ side cell' side' y meets has. absurd (has_none (cell_count p.board) cell' y has);
  },
)

pub legal_fitting : (p : Task) (cell : ℕ) (xs : List Pair) → AreFitting p (empty_prefix p) (Cell cell) xs → (x : Pair) → Contains xs x → IsLegal p x.placement
legal_fitting p cell xs are x c = (are.only x c).1.legal

-- the pairs of one cell
pairs_at : (p : Task) (cell : ℕ) (xs : List Pair) → cell < cell_count p.board → AreFitting p (empty_prefix p) (Cell cell) xs → IsListing PairComesBefore (IsPairAt p cell) xs
pairs_at p cell xs lt are =
    listing_order (ByKey (item_key (Cell cell))) PairComesBefore (IsPairAt p cell) xs (λ x y px py before. inr (px.1 ∙ sym py.1, before))
    (listing_same (ByKey (item_key (Cell cell))) (FitsItem p (empty_prefix p) (Cell cell)) (IsPairAt p cell) xs (λ x fits. fits_as_option p cell x lt fits) (option_fits p cell) are)

-- ---- cell after cell

pub no_pairs : (p : Task) → IsListing PairComesBefore (IsPairBefore p 0) []
no_pairs p = listing_nothing PairComesBefore (IsPairBefore p 0) (λ x is. omega (arith, is.1))

pub one_cell_more : (p : Task) (cell : ℕ) (xs ys zs : List Pair) → cell < cell_count p.board → IsListing PairComesBefore (IsPairBefore p cell) xs → AreFitting p (empty_prefix p) (Cell cell) ys → zs ≡ xs ++ ys → IsListing PairComesBefore (IsPairBefore p (cell + 1)) zs
one_cell_more p cell xs ys zs lt before here all =
    subst (IsListing PairComesBefore (IsPairBefore p (cell + 1))) (sym all)
    (listing_append PairComesBefore (IsPairBefore p cell) (IsPairAt p cell) (IsPairBefore p (cell + 1)) xs ys before (pairs_at p cell ys lt here)
    (λ x y px py. inl (omega (arith, px.1, py.1)))
    (λ x px. (px.0, omega (arith, px.1)))
    (λ x px. (px.0, omega (arith, px.1)))
    (λ x px. ⊎_elim (λ same. inr (px.0, same.1)) (λ other. inl (px.0, omega (arith, px.1, other.1))) (eqb_tells x.cell cell)))

pub all_cells : (p : Task) (cell : ℕ) (xs : List Pair) → cell_count p.board ≤ cell → IsListing PairComesBefore (IsPairBefore p cell) xs → IsListing PairComesBefore (IsOptionPair p) xs
all_cells p cell xs le are = listing_same PairComesBefore (IsPairBefore p cell) (IsOptionPair p) xs (λ x is. is.0) (λ x is. (is, let lt = is.cell in omega (arith, lt, le))) are
