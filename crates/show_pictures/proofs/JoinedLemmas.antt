-- Texts of pieces, one more at a time.
use Rattle.std.proofs.Common.{◌≡◌, ◌+◌, ◌<◌, ℕ, List, [], ◌∷◌, ◌++◌, Some, get_or, slice_get, length, refl, ap, sym, subst, ◌∙◌, ⊎_elim}
use Rattle.std.proofs.lemmas.List.{length_push, flat_map_more}
use Rattle.std.proofs.lemmas.Option.{slice_get_read}
use Rattle.match_puzzle.proofs.TableLemmas.{pushed_is}
use Rattle.show_pictures.specs.Joined.{IsJoined}

pub joined_more : {P : ℕ → List ℕ → Type 0} {n : ℕ} {text : List ℕ} (piece : List ℕ) → IsJoined P n text → P n piece → IsJoined P (n + 1) (text ++ piece)
joined_more {P} {n} {text} piece j here = record {
  pieces = j.pieces ++ piece ∷ [];
  many = length_push _ _ ∙ ap (λ k. k + 1) j.many;
  each = λ i y at.
      ⊎_elim
      (λ w. j.each i y w.1)
      (λ w. subst (P i) (sym w.1) (subst (λ k. P k piece) (sym (w.0 ∙ j.many)) here))
      (pushed_is j.pieces piece i y at);
  joined = ap (λ t. t ++ piece) j.joined ∙ flat_map_more (λ x. x) [] j.pieces piece;
}

-- what was read at a place of a list is what stands there
pub same_item : {X : Type 0} (xs : List X) (i : ℕ) (x y : X) → i < length xs → x ≡ get_or xs i x → slice_get xs i ≡ Some y → x ≡ y
same_item xs i x y within read at =
    let here : slice_get xs i ≡ Some x = slice_get_read xs (length xs) i x refl within read in cc
