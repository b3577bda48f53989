-- The first place at which a search by answers stopped.
use Rattle.std.proofs.Common.{◌≡◌, ◌<◌, ◌+◌, ◌-◌, ◌^◌, ℕ, zero, suc, Bool, true, false, List, [], ◌∷◌, Option, Some, None, MatchOption, length, min, slice_get, arith, refl, subst}
use Rattle.std.specs.List.{AllZip}
use Rattle.std.specs.Option.{option_map}
use Rattle.rayon.specs.Lists.{first_true}
use Rattle.match_puzzle.proofs.Prefixes.{inside}
use Rattle.match_limits.proofs.ListLemmas.{none≢some}

module _ {X : Type 0} (R : X → Bool → Type 0) where
  -- At this place the answer is yes, and no at all before.
  pub record IsFirstPlace (xs : List X) (place : ℕ) : Type 0 where
    pub here : (x : X) × (slice_get xs place ≡ Some x) × R x true
    pub before : (earlier : ℕ) (x : X) → earlier < place → slice_get xs earlier ≡ Some x → R x false
    pub within : place < length xs

  abbrev pub TellsOfPlaces : List X → Option ℕ → Type 0
  TellsOfPlaces xs found = MatchOption found ((number : ℕ) (x : X) → slice_get xs number ≡ Some x → R x false) (IsFirstPlace xs)

  later : (x : X) (xs : List X) (found : Option ℕ) → R x false → length (x ∷ xs) < 2 ^ 64 → TellsOfPlaces xs found → TellsOfPlaces (x ∷ xs) (option_map (λ k. min (k + 1) (2 ^ 64 - 1)) found)
  later x xs None fails small rest = each
    where
      each : (number : ℕ) (y : X) → slice_get (x ∷ xs) number ≡ Some y → R y false
      each zero y at = subst (λ z. R z false) (inside at) fails
      each (suc number) y at = rest number y at
  later x xs (Some place) fails small rest =
      let within = rest.within in
      let next : suc place ≡ min (place + 1) (2 ^ 64 - 1) = omega (arith, within, small) in
      subst (IsFirstPlace (x ∷ xs)) next (record { here = rest.here; before = each; within = omega (arith, within) })
    where
      each : (earlier : ℕ) (y : X) → earlier < suc place → slice_get (x ∷ xs) earlier ≡ Some y → R y false
      each zero y lt at = subst (λ z. R z false) (inside at) fails
      each (suc earlier) y lt at = rest.before earlier y (omega (arith, lt)) at

  pub first_place : (xs : List X) (answers : List Bool) → AllZip R xs answers → length xs < 2 ^ 64 → TellsOfPlaces xs (first_true answers)
  first_place [] [] zipped small = λ number x at. absurd (none≢some at)
  first_place [] (b ∷ answers) zipped small = absurd zipped
  first_place (x ∷ xs) [] zipped small = absurd zipped
  first_place (x ∷ xs) (true ∷ answers) zipped small =
      record { here = (x, refl, zipped.0); before = λ earlier y lt at. absurd (omega (arith, lt)); within = omega arith }
  first_place (x ∷ xs) (false ∷ answers) zipped small =
      later x xs (first_true answers) zipped.0 small (first_place xs answers zipped.1 (omega (arith, small)))
