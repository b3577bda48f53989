-- How a title's characters are written in a page.
use Rattle.std.specs.Prelude.{◌≡◌, ◌≢◌, ◌⊎◌, ◌==◌, if◌then◌else◌, ℕ, List, [], ◌∷◌, codes}
use Rattle.std.specs.List.{AllByRecursion, flat_map}

-- a character, or the reference that stands for it
abbrev pub entity : ℕ → List ℕ
entity c =
    if c == 38 then codes "&amp;"
    else (if c == 60 then codes "&lt;"
    else (if c == 62 then codes "&gt;"
    else (if c == 34 then codes "&quot;"
    else (if c == 39 then codes "&#39;" else c ∷ []))))

-- a title, character by character
unfoldable pub escaped : List ℕ → List ℕ
escaped title = flat_map entity title

-- none of `&`, `<`, `>`, `"` and `'`
pub record IsPlain (c : ℕ) : Type 0 where
  pub ampersand : c ≢ 38
  pub less : c ≢ 60
  pub greater : c ≢ 62
  pub quote : c ≢ 34
  pub apostrophe : c ≢ 39

-- one of the five references
abbrev pub IsReference : List ℕ → Type 0
IsReference piece =
    (piece ≡ codes "&amp;") ⊎ (piece ≡ codes "&lt;") ⊎ (piece ≡ codes "&gt;") ⊎ (piece ≡ codes "&quot;") ⊎ (piece ≡ codes "&#39;")

-- a plain character by itself, or a reference
abbrev pub IsOneCharacter : List ℕ → Type 0
IsOneCharacter piece = ((c : ℕ) × IsPlain c × (piece ≡ c ∷ [])) ⊎ IsReference piece

-- The text is plain characters and references, one behind the other.
pub record IsCharacterData (text : List ℕ) : Type 0 where
  pub pieces : List (List ℕ)
  pub each : AllByRecursion IsOneCharacter pieces
  pub whole : text ≡ flat_map (λ piece. piece) pieces
