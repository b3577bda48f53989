-- The engine of a search.
use Rattle.std.proofs.Common.{◌≡◌, ◌≤◌, ◌-◌, ℕ, Bool, true, false, MatchBool, Ok, Err, arith, ap, sym, subst, ◌∙◌}
use Rattle.std.proofs.lemmas.Bool.{false≢true}
use Rattle.xcc_dance.specs.Outcome.{SearchState}

pub same_engine : {S : Type 0} {v w : SearchState S} → v ≡ w → v.engine ≡ w.engine
same_engine {S} e = ap (λ (v : SearchState S). v.engine) e

-- what did not fail is not seen as failed
pub not_failed : {S : Type 0} {v w : SearchState S} → v ≡ w → v.failed ≡ false → w.failed ≡ true → ⊥
not_failed {S} e right wrong = false≢true (sym right ∙ ap (λ (v : SearchState S). v.failed) e ∙ wrong)

-- the fuel did not do
pub else_spent : (P Q : Type 0) (done : Bool) → done ≡ false → MatchBool done P Q → Q
else_spent P Q done is w = subst (λ b. MatchBool b P Q) is w

-- no more was spent than there was
pub spent_within : (fuel left : ℕ) → fuel - left ≤ fuel
spent_within fuel left = omega arith

-- what came out well is no fault
pub ok_no_err : {T E : Type 0} (x : T) (fault : E) → Ok x ≡ Err fault → ⊥
ok_no_err x fault h = cc
