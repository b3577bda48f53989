-- Files in memory, of which tests know what they hold.
use Rattle.std.specs.Prelude.{ℕ, List, [], ◌∷◌, if◌then◌else◌, nat_eq}

-- what a name's file holds, by the letter that it begins with: `p` for the puzzle, `l` for the list
abbrev pub held_by : (puzzle list certificate name : List ℕ) → List ℕ
held_by puzzle list certificate [] = certificate
held_by puzzle list certificate (letter ∷ rest) =
    if nat_eq letter 112 then puzzle else (if nat_eq letter 108 then list else certificate)
