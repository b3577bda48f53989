-- Lists that grow by one, and what is left of them.
use Rattle.std.proofs.Common.{◌≡◌, ℕ, List, [], ◌∷◌, ◌++◌, Some, slice_get, length, sym, subst, ◌∙◌, ⊎_elim}
use Rattle.match_puzzle.proofs.TableLemmas.{pushed_is}

-- what holds of each element holds with one more at the end
pub each_more : {X : Type 0} (P : ℕ → X → Type 0) (xs ys : List X) (x : X) (n : ℕ) → ys ≡ xs ++ x ∷ [] → length xs ≡ n → ((i : ℕ) (y : X) → slice_get xs i ≡ Some y → P i y) → P n x → (i : ℕ) (y : X) → slice_get ys i ≡ Some y → P i y
each_more P xs ys x n e long each here i y at =
    ⊎_elim
    (λ w. each i y w.1)
    (λ w. subst (P i) (sym w.1) (subst (λ k. P k x) (sym (w.0 ∙ long)) here))
    (pushed_is xs x i y (subst (λ l. slice_get l i ≡ Some y) e at))
