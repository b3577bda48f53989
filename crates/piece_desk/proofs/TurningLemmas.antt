-- Lemmas that are turned in two parts.
use Rattle.std.proofs.Common.{◌≡◌, ◌++◌, ℕ, List, map, reverse, take, drop, sym, ap, ◌∙◌}
use Rattle.std.proofs.lemmas.List.{map-append, reverse-append, take-append-drop}
use Rattle.cert_tree.specs.declared.flat_lemmas.FlatLemma.{FlatLemma}
use Rattle.cert_tree.specs.Certificate.{Piece, flat_piece}
use Rattle.piece_desk.specs.TurnedAssembly.{turned_piece}
use Rattle.piece_desk.specs.Turnings.{AreTurned}

-- a list that was split
pub split_apart : {X : Type 0} (middle : ℕ) (xs front back : List X) → front ≡ take middle xs → back ≡ drop middle xs → xs ≡ front ++ back
split_apart middle xs front back is_front is_back = rw (is_front, is_back) (sym (take-append-drop middle xs))

-- the turned ones of the back, and then those of the front
pub both_turned : (count : ℕ) (first : List ℕ) (lemmas front back : List FlatLemma) (all f b : List Piece) → lemmas ≡ front ++ back → AreTurned count first front f → AreTurned count first back b → all ≡ b ++ f → AreTurned count first lemmas all
both_turned count first lemmas front back all f b apart is_f is_b is =
    let turn = turned_piece count first in
    let xs = map turn (map flat_piece front) in
    let ys = map turn (map flat_piece back) in
    is ∙ ap (λ ps. ps ++ f) is_b ∙ ap (λ ps. reverse ys ++ ps) is_f
    ∙ sym (ap (λ (ls : List FlatLemma). reverse (map turn (map flat_piece ls))) apart ∙ ap (λ (ps : List Piece). reverse (map turn ps)) (map-append flat_piece front back) ∙ ap reverse (map-append turn (map flat_piece front) (map flat_piece back)) ∙ reverse-append xs ys)
