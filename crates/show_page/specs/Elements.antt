-- Texts in elements of a page.
use Rattle.std.specs.Prelude.{◌≡◌, ◌∷◌, ◌++◌, ℕ, List, Some}
use Rattle.text_words.specs.Bytes.{cut_at}
use Rattle.text_words.specs.Characters.{IsOfTextCharacters}

-- A text of text characters is all that stands before the next `<`: so it is what an element has whose end comes behind it.
abbrev pub EndsAtTheNextTag : Type 0
EndsAtTheNextTag =
    (text rest : List ℕ) → IsOfTextCharacters text → cut_at 60 (text ++ 60 ∷ rest) ≡ Some (text, rest)
