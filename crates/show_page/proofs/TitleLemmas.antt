-- What stands in a title's place is characters and references.
use Rattle.std.proofs.Common.{◌≡◌, ◌≢◌, ◌==◌, ℕ, Bool, true, false, List, [], ◌∷◌, ◌++◌, map, refl, ap, inl, inr, eq-eqb, if◌then◌else◌, codes}
use Rattle.std.specs.List.{AllByRecursion, flat_map}
use Rattle.show_page.specs.Titles.{entity, escaped, IsOneCharacter, IsCharacterData}

differs : (c d : ℕ) → (c == d) ≡ false → c ≢ d
differs c d not e = let same = eq-eqb c d e in absurd cc

one_by : (c : ℕ) (a b d e f : Bool) → (c == 38) ≡ a → (c == 60) ≡ b → (c == 62) ≡ d → (c == 34) ≡ e → (c == 39) ≡ f
    → IsOneCharacter (if a then codes "&amp;" else (if b then codes "&lt;" else (if d then codes "&gt;" else (if e then codes "&quot;" else (if f then codes "&#39;" else c ∷ [])))))
one_by c true b d e f p q r s t = inr (inl refl)
one_by c false true d e f p q r s t = inr (inr (inl refl))
one_by c false false true e f p q r s t = inr (inr (inr (inl refl)))
one_by c false false false true f p q r s t = inr (inr (inr (inr (inl refl))))
one_by c false false false false true p q r s t = inr (inr (inr (inr (inr refl))))
one_by c false false false false false p q r s t =
    inl (c, record { ampersand = differs c 38 p; less = differs c 60 q; greater = differs c 62 r; quote = differs c 34 s; apostrophe = differs c 39 t }, refl)

one : (c : ℕ) → IsOneCharacter (entity c)
one c = one_by c (c == 38) (c == 60) (c == 62) (c == 34) (c == 39) refl refl refl refl refl

each_is : (title : List ℕ) → AllByRecursion IsOneCharacter (map entity title)
each_is [] = tt
each_is (c ∷ title) = (one c, each_is title)

whole_is : (title : List ℕ) → flat_map entity title ≡ flat_map (λ piece. piece) (map entity title)
whole_is [] = refl
whole_is (c ∷ title) = ap (λ t. entity c ++ t) (whole_is title)

pub title_is : (title : List ℕ) → IsCharacterData (escaped title)
unfolding escaped
title_is title = record { pieces = map entity title; each = each_is title; whole = whole_is title }
