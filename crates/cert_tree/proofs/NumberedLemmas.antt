-- Pieces that stand in the order of their numbers.
use Rattle.std.proofs.Common.{◌≡◌, ℕ, zero, suc, ◌+◌, ◌<◌, ◌≤◌, List, [], ◌∷◌, length, Some, refl, ap, subst, ◌∙◌, arith}
use Rattle.std.specs.Prelude.{slice_get}
use Rattle.std.proofs.lemmas.Option.{slice_get_within, get_or_from_slice_get}
use Rattle.cert_tree.specs.Assembly.{how_often, IsAssembly}
use Rattle.cert_tree.proofs.AssemblyLemmas.{often-same, often-other}

module _ {X : Type 0} (number_of : X → ℕ) where
  -- pieces whose numbers rise from one on
  abbrev RisesFrom : ℕ → List X → Type 0
  RisesFrom first pieces = (n : ℕ) (piece : X) → slice_get pieces n ≡ Some piece → number_of piece ≡ first + n

  rises_on : (first : ℕ) (piece : X) (pieces : List X) → RisesFrom first (piece ∷ pieces) → RisesFrom (suc first) pieces
  rises_on first piece pieces rises n other at = let e = rises (suc n) other at in omega (arith, e)

  none_before : (first : ℕ) (pieces : List X) → RisesFrom first pieces → (n : ℕ) → n < first → how_often number_of pieces n ≡ 0
  none_before first [] rises n lt = refl
  none_before first (piece ∷ pieces) rises n lt =
      let e = rises 0 piece refl in
      often-other number_of piece pieces n (λ same. omega (arith, same, e, lt)) ∙ none_before (suc first) pieces (rises_on first piece pieces rises) n (omega (arith, lt))

  none_past : (first : ℕ) (pieces : List X) → RisesFrom first pieces → (n : ℕ) → first + length pieces ≤ n → how_often number_of pieces n ≡ 0
  none_past first [] rises n past = refl
  none_past first (piece ∷ pieces) rises n past =
      let e = rises 0 piece refl in
      often-other number_of piece pieces n (λ same. omega (arith, same, e, past)) ∙ none_past (suc first) pieces (rises_on first piece pieces rises) n (omega (arith, past))

  once_within : (first : ℕ) (pieces : List X) → RisesFrom first pieces → (n : ℕ) → n < length pieces → how_often number_of pieces (first + n) ≡ 1
  once_within first [] rises n lt = absurd (omega (arith, lt))
  once_within first (piece ∷ pieces) rises zero lt =
      let e = rises 0 piece refl in
      let none = none_before (suc first) pieces (rises_on first piece pieces rises) (first + 0) (omega arith) in
      often-same number_of piece pieces (first + 0) e ∙ ap (λ k. k + 1) none
  once_within first (piece ∷ pieces) rises (suc n) lt =
      let e = rises 0 piece refl in
      let later = once_within (suc first) pieces (rises_on first piece pieces rises) n (omega (arith, lt)) in
      let same : suc first + n ≡ first + suc n = omega arith in
      often-other number_of piece pieces (first + suc n) (λ is. omega (arith, is, e)) ∙ subst (λ k. how_often number_of pieces k ≡ 1) same later

  pub numbered_assembly : (pieces : List X) → ((n : ℕ) (piece : X) → slice_get pieces n ≡ Some piece → number_of piece ≡ n) → IsAssembly number_of (length pieces) pieces pieces
  numbered_assembly pieces numbered =
      let rises : RisesFrom 0 pieces = λ n piece at. omega (arith, numbered n piece at) in
      record {
        many = refl;
        only = λ n piece at.
            let lt = slice_get_within pieces n piece at in
            let once = once_within 0 pieces rises n lt in
            let here : 0 + n ≡ n = omega arith in
            record { among = (n, lt, get_or_from_slice_get pieces n piece piece at); number = numbered n piece at; once = subst (λ k. how_often number_of pieces k ≡ 1) here once };
        no_stranger = λ n past. none_past 0 pieces rises n (omega (arith, past));
      }
