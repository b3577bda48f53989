-- The border pairs, and rules for them.
use Rattle.std.proofs.Common.{◌≡◌, ◌+◌, ◌++◌, ◌∷◌, [], ℕ, List, Option, length, length-append, arith, refl, ap, sym, ◌∙◌, subst}
use Rattle.match_board.specs.Board.{IsBorderPair, IsBorderBefore, IsBorderOrder, cell_count, side_count}
use Rattle.match_board.specs.declared.figures.Figure.{Figure}
use Rattle.match_board.specs.Borders.{IsAsLongAsBorder, each}
use Rattle.match_limits.specs.Listing.{ComesBefore}
use Rattle.match_limits.proofs.Listings.{listing_none, listing_skip, listing_push, listing_row, listing_all, same_listing, comes_before_asymmetric}

-- a pair of given parts
as_pair : (x n : ℕ × ℕ) → x.0 ≡ n.0 → x.1 ≡ n.1 → x ≡ n
as_pair x n p q = ap (λ a. (a, x.1)) p ∙ ap (λ b. (n.0, b)) q

module _ (s : Figure) (cell : ℕ) where
  pub border_next : (side : ℕ) (pairs : List (ℕ × ℕ)) → IsBorderPair s cell side → IsBorderBefore s (cell, side) pairs → (more : List (ℕ × ℕ)) × IsBorderBefore s (cell, side + 1) more × (length more ≡ length pairs + 1)
  border_next side pairs is h = (
    pairs ++ (cell, side) ∷ [],
    listing_push (λ pair. pair) (λ pair. IsBorderPair s pair.0 pair.1) (cell, side) pairs (cell, side) is refl (λ x holds p q. as_pair x (cell, side) p q) h,
    omega (arith, length-append pairs ((cell, side) ∷ [])),
  )

  pub inner_next : (side : ℕ) (pairs : List (ℕ × ℕ)) → (IsBorderPair s cell side → ⊥) → IsBorderBefore s (cell, side) pairs → IsBorderBefore s (cell, side + 1) pairs
  inner_next side pairs not h =
      listing_skip (λ pair. pair) (λ pair. IsBorderPair s pair.0 pair.1) (cell, side) pairs (λ x holds p q. not (subst (λ (n : ℕ × ℕ). IsBorderPair s n.0 n.1) (as_pair x (cell, side) p q) holds)) h

  pub border_row : (pairs : List (ℕ × ℕ)) → IsBorderBefore s (cell, side_count s) pairs → IsBorderBefore s (cell + 1, 0) pairs
  border_row pairs h = listing_row (λ pair. pair) (λ pair. IsBorderPair s pair.0 pair.1) cell (side_count s) pairs (λ x holds. holds.side_in) h

pub border_none : (s : Figure) → IsBorderBefore s (0, 0) []
border_none s = listing_none (λ pair. pair) (λ pair. IsBorderPair s pair.0 pair.1)

pub border_all : (s : Figure) (pairs : List (ℕ × ℕ)) → IsBorderBefore s (cell_count s, 0) pairs → IsBorderOrder s pairs
border_all s pairs h = listing_all (λ pair. pair) (λ pair. IsBorderPair s pair.0 pair.1) (cell_count s) pairs (λ x holds. holds.cell_in) h

-- A list of rules is as long as the border exactly where it has as many as were counted.
pub long_rules : (s : Figure) (rules : List (Option ℕ)) (count : ℕ) → (pairs : List (ℕ × ℕ)) × IsBorderOrder s pairs × (length pairs ≡ count) →
    (length rules ≡ count → IsAsLongAsBorder s (each rules)) × (IsAsLongAsBorder s (each rules) → length rules ≡ count)
long_rules s rules count all = (
  λ e. (all.0, all.1, e ∙ sym all.2),
  λ h. h.2 ∙ ap length (same_listing ComesBefore comes_before_asymmetric (λ n. IsBorderPair s n.0 n.1) h.0 all.0 h.1 all.1) ∙ all.2,
)
