-- The characters of texts that spell something.
use Rattle.std.specs.Prelude.{◌≡◌, ◌==◌, ◌&&◌, ◌||◌, nat_le, ℕ, Bool, true, List, [], ◌∷◌, Result, Ok}

-- a small letter, a digit, one of `.`, `:`, `+`, `-` and `#`, a space or LF
abbrev pub is_text_character : ℕ → Bool
is_text_character c =
    (nat_le 97 c && nat_le c 122) || ((nat_le 48 c && nat_le c 57) || (c == 46 || (c == 58 || (c == 43 || (c == 45
    || (c == 35 || (c == 32 || c == 10)))))))

-- such characters alone
abbrev pub has_text_characters : List ℕ → Bool
has_text_characters [] = true
has_text_characters (c ∷ text) = is_text_character c && has_text_characters text

-- The text has such characters alone: none of those that begin or end an element, an attribute or a reference of HTML.
abbrev pub IsOfTextCharacters : List ℕ → Type 0
IsOfTextCharacters text = has_text_characters text ≡ true

-- A text that is read has such characters alone.
abbrev pub ReadsTextCharactersAlone : {X E : Type 0} → (List ℕ → Result X E) → Type 0
ReadsTextCharactersAlone {X} {E} read = (text : List ℕ) (x : X) → read text ≡ Ok x → IsOfTextCharacters text
