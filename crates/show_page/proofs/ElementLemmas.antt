-- A text of text characters has no `<`.
use Rattle.std.proofs.Common.{◌≡◌, ◌==◌, ◌∷◌, ◌++◌, [], ℕ, Bool, true, false, List, refl, eqb-true, subst}
use Rattle.text_words.specs.Characters.{is_text_character, has_text_characters}
use Rattle.text_words.proofs.WordLemmas.{both}
use Rattle.show_page.specs.Elements.{EndsAtTheNextTag}

no_less : (c : ℕ) (is_less : Bool) → (c == 60) ≡ is_less → is_text_character c ≡ true → (c == 60) ≡ false
no_less c true e plain =
    let no : is_text_character 60 ≡ true = subst (λ d. is_text_character d ≡ true) (eqb-true c 60 e) plain in
    absurd cc
no_less c false e plain = e

pub ends_at_the_next_tag : EndsAtTheNextTag
ends_at_the_next_tag [] rest plain = refl
ends_at_the_next_tag (c ∷ text) rest plain =
    let parts = both (is_text_character c) (has_text_characters text) plain in
    rw (no_less c (c == 60) refl parts.0, ends_at_the_next_tag text rest parts.1) refl
