-- Clues, drawn.
use Rattle.std.proofs.Common.{◌≡◌, ◌++◌, ◌∷◌, [], ℕ, List, ap, ◌∙◌, append_assoc}
use Rattle.match_puzzle.specs.Puzzle.{Task}
use Rattle.show_pictures.specs.Clued.{IsHatched, hatching_begin}
use Rattle.show_pictures.specs.Elements.{IsAlong, element_begin}

-- an element, and its path once more
pub hatched_once : (p : Task) (colour x y x' y' : ℕ) (t0 t1 t2 t3 path : List ℕ) → t0 ≡ element_begin p colour x y → t1 ≡ t0 ++ path → t2 ≡ t1 ++ hatching_begin x' y' → t3 ≡ t2 ++ path → x' ≡ x → y' ≡ y → IsAlong p colour path → IsHatched p colour x y t3
hatched_once p colour x y x' y' t0 t1 t2 t3 path begun filled more whole same_x same_y is =
    let first = element_begin p colour x y ++ path in
    let one = filled ∙ ap (λ t. t ++ path) begun in
    let there = ap (λ n. hatching_begin n y') same_x ∙ ap (λ n. hatching_begin x n) same_y in
    record {
      rest = path;
      along = is;
      written =
          whole
          ∙ ap (λ t. t ++ path) (more ∙ ap (λ t. t ++ hatching_begin x' y') one ∙ ap (λ h. first ++ h) there)
          ∙ append_assoc first (hatching_begin x y) path;
    }

-- four texts, written one after the other
pub four_written : (t a b c d : List ℕ) → (((t ++ a) ++ b) ++ c) ++ d ≡ t ++ (a ++ (b ++ (c ++ d)))
four_written t a b c d = append_assoc ((t ++ a) ++ b) c d ∙ append_assoc (t ++ a) b (c ++ d) ∙ append_assoc t a (b ++ (c ++ d))

-- words and two numbers with a space between them, written one after the other
pub numbers_written : (t words x y : List ℕ) → (((t ++ words) ++ x) ++ 32 ∷ []) ++ y ≡ t ++ (words ++ (x ++ 32 ∷ y))
numbers_written t words x y = four_written t words x (32 ∷ []) y
