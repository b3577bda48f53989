-- Pieces one behind the other, one more at a time.
use Rattle.std.proofs.Common.{◌≡◌, ℕ, ◌+◌, ◌<◌, ◌≤◌, List, [], ◌∷◌, ◌++◌, length, get_or, take, map, refl, ap, ◌∙◌}
use Rattle.std.specs.List.{flat_map}
use Rattle.show_page.specs.Joined.{joined}
use Rattle.std.proofs.lemmas.List.{append-nil, take_all, take_more}
use Rattle.std.proofs.lemmas.List.Concat.{flat_map-append}

module _ {X : Type 0} (text_of : X → List ℕ) (xs : List X) where
  -- what the first i have
  abbrev pub first_ones : ℕ → List ℕ
  first_ones i = flat_map text_of (take i xs)

  pub one_more : (i : ℕ) (d : X) → i < length xs → first_ones (i + 1) ≡ first_ones i ++ text_of (get_or xs i d)
  one_more i d lt =
      ap (flat_map text_of) (take_more xs i d lt) ∙ flat_map-append text_of (take i xs) (get_or xs i d ∷ [])
      ∙ ap (λ t. first_ones i ++ t) (append-nil (text_of (get_or xs i d)))

  pub all_ones : (i : ℕ) → length xs ≤ i → first_ones i ≡ flat_map text_of xs
  all_ones i le = ap (flat_map text_of) (take_all i xs le)

  flat_joined : (ys : List X) → flat_map text_of ys ≡ flat_map (λ piece. piece) (map text_of ys)
  flat_joined [] = refl
  flat_joined (y ∷ ys) = ap (λ t. text_of y ++ t) (flat_joined ys)

  pub all_joined : (i : ℕ) → length xs ≤ i → first_ones i ≡ joined (map text_of xs)
  unfolding joined
  all_joined i le = all_ones i le ∙ flat_joined xs
