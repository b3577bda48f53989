-- Pieces one behind the other.
use Rattle.std.specs.Prelude.{ℕ, List}
use Rattle.std.specs.List.{flat_map}

unfoldable pub joined : List (List ℕ) → List ℕ
joined pieces = flat_map (λ piece. piece) pieces
