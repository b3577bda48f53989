-- Pieces beside each other, one further.
use Rattle.std.proofs.Common.{◌≡◌, ◌<◌, ◌+◌, ◌-◌, ◌++◌, ℕ, suc, List, Option, Bool, true, false, map, is_some, refl, arith}
use Rattle.std.specs.List.{range_with_len}
use Rattle.show_text.specs.Squares.{posted, fenced, dashes}

-- the first of the columns that are left, and the others
pub fenced_next : (f : ℕ → Option (List ℕ)) (sign width : ℕ) (before : Bool) (column columns : ℕ) → column < columns → fenced sign width before (map f (range_with_len column (columns - column))) ≡ posted sign width before (f column) ++ fenced sign width (is_some (f column)) (map f (range_with_len (column + 1) (columns - (column + 1))))
fenced_next f sign width before column columns lt =
    let more : columns - column ≡ suc (columns - (column + 1)) = omega (arith, lt) in
    rw more refl

-- an edge is there where it is drawn
pub dashes-is_some : (digits : ℕ) (there : Bool) → is_some (dashes digits there) ≡ there
dashes-is_some digits true = refl
dashes-is_some digits false = refl
