-- Lines that are printed.
use Rattle.std.specs.Prelude.{ℕ, List, [], ◌∷◌, ◌++◌, map, codes, decimal}
use Rattle.std.specs.List.{join_with_byte}

-- a word that announces others
abbrev pub label : List ℕ → List ℕ
label word = word ++ 58 ∷ []

-- the numbers that lead to a node with a dot between each two, or `-` for the top
unfoldable pub path_text : List ℕ → List ℕ
path_text [] = codes "-"
path_text (step ∷ steps) = join_with_byte 46 (map decimal (step ∷ steps))

-- numbers with a dot before each
abbrev pub dotted : List ℕ → List ℕ
dotted [] = []
dotted (number ∷ numbers) = 46 ∷ (decimal number ++ dotted numbers)
