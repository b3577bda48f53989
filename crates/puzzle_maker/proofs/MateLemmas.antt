-- Lists of mates that grow.
use Rattle.std.proofs.Common.{◌≡◌, ◌<◌, ◌+◌, ◌*◌, ◌++◌, ℕ, List, [], ◌∷◌, Some, length, slice_get, length-append, refl, ap, sym, ◌∙◌, subst, arith, ⊎_elim}
use Rattle.std.proofs.lemmas.Bool.Decides.{eqb_tells}
use Rattle.match_limits.proofs.ListLemmas.{kept_left}
use Rattle.puzzle_drafts.specs.Drafts.{ArePairs}

-- what stands at the end
pushed_last : (xs : List ℕ) (z : ℕ) → slice_get (xs ++ z ∷ []) (length xs) ≡ Some z
pushed_last [] z = refl
pushed_last (x ∷ xs) z = pushed_last xs z

-- what stands at a place, if it stood there before or is at the end
at_place : (mates : List ℕ) (n m k y : ℕ) → length mates ≡ n → k < n + 1 → (k < n → slice_get mates k ≡ Some y) → (k ≡ n → m ≡ y) → slice_get (mates ++ m ∷ []) k ≡ Some y
at_place mates n m k y long lt before last =
    ⊎_elim
    (λ w. subst (λ i. slice_get (mates ++ m ∷ []) i ≡ Some y) (long ∙ sym w.1) (pushed_last mates m ∙ ap Some (last w.1)))
    (λ ne. let other = ne.1 in kept_left mates (m ∷ []) k y (before (omega (arith, lt))))
    (eqb_tells k n)

-- one colour more
pub one_more : (alone n m : ℕ) (mates : List ℕ) → ArePairs alone n mates → (n < alone → m ≡ n) → ((pair : ℕ) → n ≡ alone + 2 * pair → m ≡ n + 1) → ((pair : ℕ) → n ≡ alone + 2 * pair + 1 → m + 1 ≡ n) → ArePairs alone (n + 1) (mates ++ m ∷ [])
one_more alone n m mates is own first second = record {
  all = let h = length-append mates (m ∷ []) in omega (arith, h, is.all);
  own = λ k low lt. at_place mates n m k k is.all lt (λ before. is.own k low before) (λ e. own (omega (arith, e, low)) ∙ sym e);
  first = λ pair lt. at_place mates n m (alone + 2 * pair) (alone + 2 * pair + 1) is.all lt (λ before. is.first pair before) (λ e. first pair (sym e) ∙ ap (λ k. k + 1) (sym e));
  second = λ pair lt. at_place mates n m (alone + 2 * pair + 1) (alone + 2 * pair) is.all lt (λ before. is.second pair before) (λ e. let h = second pair (sym e) in omega (arith, h, e));
}
