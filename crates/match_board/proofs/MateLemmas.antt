-- Mates of colours.
use Rattle.std.proofs.Common.{◌≡◌, ◌<◌, ◌≤◌, ℕ, List, length, arith, ap, ◌∙◌, inl, ⊎_elim}
use Rattle.std.proofs.lemmas.List.{get_or_past}
use Rattle.match_limits.specs.declared.TheConstants.{MOST_COLOURS}
use Rattle.match_limits.specs.First.{IsLeast}
use Rattle.match_limits.proofs.Listings.{lt_or_le}
use Rattle.match_limits.proofs.FirstLemmas.{least_at}
use Rattle.match_board.specs.Mates.{AreMates, HasMate, mate_in, HasNoMateAt, BreaksMatesAt}

module _ (mates : List ℕ) where
  -- past the list each colour is its own mate
  pub mate_past : (colour : ℕ) → length mates ≤ colour → mate_in mates colour ≡ colour
  mate_past colour le = get_or_past mates colour colour le

  module _ (are : AreMates mates) where
    pub mate_back : (colour : ℕ) → mate_in mates (mate_in mates colour) ≡ colour
    mate_back colour =
        ⊎_elim
        (λ lt. (are.each colour lt).1)
        (λ le. let own = mate_past colour le in ap (mate_in mates) own ∙ own)
        (lt_or_le colour (length mates))

    -- below any number that is no less than the list's length
    pub mate_below : (most colour : ℕ) → length mates ≤ most → colour < most → mate_in mates colour < most
    mate_below most colour long few =
        ⊎_elim
        (λ lt. let within = (are.each colour lt).0 in omega (arith, within, long))
        (λ le. let own = mate_past colour le in omega (arith, own, few))
        (lt_or_le colour (length mates))

-- ---- the first colour without its mate

-- a mate is not both there and missing
pub not_without : (mates : List ℕ) (n : ℕ) → HasMate mates n → HasNoMateAt mates n → ⊥
not_without mates n has none = ⊎_elim (λ past. omega (arith, past, has.0)) (λ other. other has.1) none.1

-- what breaks a list of mates, where all before is right
pub first_without : (mates : List ℕ) (colour : ℕ) → colour < MOST_COLOURS → ((n : ℕ) → n < colour → n < length mates → HasMate mates n) → HasNoMateAt mates colour → IsLeast (BreaksMatesAt mates) colour
first_without mates colour few before none = least_at (BreaksMatesAt mates) colour (inl none) (λ n lt breaks. ⊎_elim (λ other. not_without mates n (before n lt other.0) other) (λ last. omega (arith, lt, few, last.0)) breaks)
