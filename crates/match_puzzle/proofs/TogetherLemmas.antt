-- Colours that go together.
use Rattle.std.proofs.Common.{◌≡◌, ◌↔◌, ◌<◌, ◌≤◌, ℕ, [], length, arith, ap, sym, ◌∙◌, ⊎_elim}
use Rattle.match_limits.specs.declared.TheConstants.{MOST_COLOURS}
use Rattle.match_limits.proofs.Listings.{lt_or_le}
use Rattle.match_board.proofs.MateLemmas.{mate_past, mate_back, mate_below}
use Rattle.match_puzzle.specs.Puzzle.{Task, IsPuzzle, mate_of, GoTogether}

module _ (p : Task) (puzzle : IsPuzzle p) where
  -- Whether colours go together is the same from either side.
  pub together_turned : (colour other : ℕ) → GoTogether p colour other → GoTogether p other colour
  together_turned colour other e = sym (ap (mate_of p) e ∙ mate_back p.mating.mates puzzle.mating.mates other)

  pub small_mate : (colour : ℕ) → colour < MOST_COLOURS → mate_of p colour < MOST_COLOURS
  small_mate colour few = mate_below p.mating.mates puzzle.mating.mates MOST_COLOURS colour puzzle.mating.mates.few few

-- what is above all numbers below another is no less
pub all_below : (long other : ℕ) → ((n : ℕ) → n < long → n < other) → long ≤ other
all_below long other below = ⊎_elim (λ lt. let same = below other lt in omega (arith, same)) (λ le. le) (lt_or_le other long)

-- Without mates those go together that are equal.
pub together_alike : (p : Task) → p.mating.mates ≡ [] → (colour other : ℕ) → GoTogether p colour other ↔ (colour ≡ other)
together_alike p none colour other =
    let own : mate_of p other ≡ other = mate_past p.mating.mates other (omega (arith, ap length none)) in
    (λ e. e ∙ own, λ e. e ∙ sym own)
