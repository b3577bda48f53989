-- What the first side that a test finds is the least of.
use Rattle.std.proofs.Common.{◌≡◌, ◌<◌, ℕ, Bool, MatchBool, Option, Some, None, MatchOption, arith, sym, subst}
use Rattle.match_board.specs.Board.{cell_count, side_count}
use Rattle.match_limits.specs.First.{IsLeastPair}
use Rattle.match_board.specs.FirstSides.{ArePassed, IsFirstSide}
use Rattle.match_board.specs.declared.figures.Figure.{Figure}

-- a test that tells of each side of the board whether it breaks something or keeps it
module _ (s : Figure) (Breaks Keeps : (cell side : ℕ) → Type 0) (not_both : (cell side : ℕ) → Keeps cell side → Breaks cell side → ⊥) (within : (cell side : ℕ) → Breaks cell side → side < side_count s) where
  abbrev Says : (cell side : ℕ) → Bool → Type 0
  Says cell side told = MatchBool told (Breaks cell side) (Keeps cell side)

  -- the first side that is found is the least that breaks it
  pub least_side : (found : ℕ × ℕ) → IsFirstSide s Says found → IsLeastPair Breaks found
  least_side found is = record {
    holds = is.says_yes;
    first = λ a b h. let not_before : (a < found.0 → ⊥) = λ lt. not_both a b (is.cells a b lt (within a b h)) h in omega (arith, not_before);
    second = λ a b h e. let not_before : (b < found.1 → ⊥) = λ lt. not_both found.0 b (is.sides b lt) (subst (λ k. Breaks k b) (sym e) h) in omega (arith, not_before);
  }

  -- the same of what was found, if anything; else all sides keep it
  pub least_side_told : (board : Figure) → board ≡ s → (result : Option (ℕ × ℕ)) → MatchOption result (ArePassed board Says) (IsFirstSide board Says)
      → (All : Type 0) → (((cell side : ℕ) → cell < cell_count s → side < side_count s → Keeps cell side) → All) → MatchOption result All (IsLeastPair Breaks)
  least_side_told board same None is All all = all (subst (λ b. ArePassed b Says) same is)
  least_side_told board same (Some found) is All all = least_side found (subst (λ b. IsFirstSide b Says found) same is)
