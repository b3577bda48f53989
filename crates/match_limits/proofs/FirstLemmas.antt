-- The first of what may occur.
use Rattle.std.proofs.Common.{◌≡◌, ◌≢◌, ◌<◌, ℕ, Bool, true, false, MatchBool, eqb, eq-eqb, arith, refl, sym, ◌∙◌}
use Rattle.std.proofs.lemmas.Bool.{eqb-true, false≢true}
use Rattle.match_limits.specs.First.{IsLeast, IsLeastPair, Rank, AtMost, rank_by_two, rank_by_three}

-- what holds here and nowhere before
pub least_at : (P : ℕ → Type 0) (n : ℕ) → P n → ((k : ℕ) → k < n → P k → ⊥) → IsLeast P n
least_at P n holds none = record {
  holds = holds;
  least = λ m h. let not_before : (m < n → ⊥) = λ lt. none m lt h in omega (arith, not_before);
}

-- an earlier kind
pub sooner : (a b : Rank) → a.first < b.first → AtMost a b
sooner a b lt = record { first = omega arith; second = λ e. absurd (omega arith); third = λ e f. absurd (omega arith) }

-- a kind that is of no place
pub not_after_itself : (a : Rank) → AtMost a a
not_after_itself a = record { first = omega arith; second = λ e. omega arith; third = λ e f. omega arith }

-- the least number at which the kind occurs
pub not_after_number : (P : ℕ → Type 0) (kind n m : ℕ) → IsLeast P n → P m → AtMost (rank_by_two kind n) (rank_by_two kind m)
not_after_number P kind n m least o = let le = least.least m o in record { first = omega arith; second = λ e. le; third = λ e f. omega arith }

-- the least pair at which the kind occurs
pub not_after_pair : (P : ℕ → ℕ → Type 0) (kind n m k s : ℕ) → IsLeastPair P (n, m) → P k s → AtMost (rank_by_three kind n m) (rank_by_three kind k s)
not_after_pair P kind n m k s least o = record { first = omega arith; second = λ e. least.first k s o; third = λ e f. least.second k s o f }

-- a test of two numbers that decides between two facts
pub by_test : (m n : ℕ) (P Q : Type 0) → (m ≡ n → P) → (m ≢ n → Q) → MatchBool (eqb m n) P Q
by_test m n P Q yes_case no_case = by_result (eqb m n) refl
  where
    by_result : (b : Bool) → eqb m n ≡ b → MatchBool b P Q
    by_result true e = yes_case (eqb-true m n e)
    by_result false e = no_case (λ same. false≢true (sym e ∙ eq-eqb m n same))
