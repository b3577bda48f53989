-- Numbered lines, one after the other.
use Rattle.std.proofs.Common.{◌≡◌, ◌<◌, ◌≤◌, ◌+◌, ◌++◌, ℕ, List, [], length, get_or, map, refl, ap, ap₂, sym, subst, ◌∙◌, arith}
use Rattle.std.specs.List.{enumerate_from}
use Rattle.std.proofs.lemmas.List.FromFn.{get_or-enumerate_from, length-enumerate_from}
use Rattle.text_words.specs.Spelling.{line_text, text_of}
use Rattle.text_words.proofs.WritingLemmas.{first_lines, lines_more, all_lines}

module _ {X : Type 0} (words_of : ℕ × X → List (List ℕ)) (xs : List X) where
  -- the lines of the first i
  abbrev pub numbered_lines : ℕ → List ℕ
  numbered_lines = first_lines words_of (enumerate_from 0 xs)

  -- none at first
  pub numbered_none : numbered_lines 0 ≡ []
  unfolding text_of
  numbered_none = refl

  -- one line more
  pub numbered_more : (i : ℕ) (x : X) → i < length xs → get_or xs i x ≡ x → numbered_lines (i + 1) ≡ numbered_lines i ++ line_text (words_of (i, x))
  numbered_more i x lt is =
      let none : 0 + i ≡ i = omega arith in
      let long : i < length (enumerate_from 0 xs) = subst (λ n. i < n) (sym (length-enumerate_from 0 xs)) lt in
      let at : get_or (enumerate_from 0 xs) i (i, x) ≡ (i, x) = get_or-enumerate_from 0 xs i (i, x) lt ∙ ap₂ (λ n y. (n, y)) none is in
      lines_more words_of (enumerate_from 0 xs) i (i, x) long ∙ ap (λ y. numbered_lines i ++ line_text (words_of y)) at

  -- all of them
  pub numbered_all : numbered_lines (length xs) ≡ text_of (map words_of (enumerate_from 0 xs))
  numbered_all =
      let long : length (enumerate_from 0 xs) ≤ length xs = omega (arith, length-enumerate_from 0 xs) in
      all_lines words_of (enumerate_from 0 xs) [] (length xs) long
