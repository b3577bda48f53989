-- Texts of pieces and of lines.
use Rattle.std.specs.Prelude.{◌≡◌, ◌++◌, ◌∷◌, [], ℕ, List, Some, length, slice_get}
use Rattle.std.specs.List.{flat_map}

-- a line with its end, or nothing where there is nothing in it
abbrev pub ended : List ℕ → List ℕ
ended [] = []
ended (first ∷ rest) = first ∷ rest ++ 10 ∷ []

-- The text is `count` pieces, one behind the other, and `P` holds of each with its number, from 0.
pub record IsJoined (P : ℕ → List ℕ → Type 0) (count : ℕ) (text : List ℕ) : Type 0 where
  pub pieces : List (List ℕ)
  pub many : length pieces ≡ count
  pub each : (n : ℕ) (piece : List ℕ) → slice_get pieces n ≡ Some piece → P n piece
  pub joined : text ≡ flat_map (λ piece. piece) pieces
