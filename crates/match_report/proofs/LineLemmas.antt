-- Lines, word by word.
use Rattle.std.proofs.Common.{◌≡◌, ℕ, List, [], ◌∷◌, ◌++◌, refl, sym, ap, ◌∙◌, append_assoc, map, length, decimal, codes, arith}
use Rattle.std.specs.List.{join_with_byte}
use Rattle.std.proofs.lemmas.List.{append-nil}
use Rattle.text_words.specs.Spelling.{spaced}
use Rattle.text_words.proofs.WritingLemmas.{spaced-append, line_text-cons}
use Rattle.match_report.specs.Line.{path_text, dotted}

-- one word more
pub spaced-more : (words : List (List ℕ)) (word : List ℕ) → spaced (words ++ word ∷ []) ≡ spaced words ++ 32 ∷ word
unfolding spaced
spaced-more words word = spaced-append words (word ∷ []) ∙ ap (λ text. spaced words ++ 32 ∷ text) (append-nil word)

-- words after words
pub spaced-after : (front : List ℕ) (words more : List (List ℕ)) → (front ++ spaced words) ++ spaced more ≡ front ++ spaced (words ++ more)
spaced-after front words more = append_assoc front (spaced words) (spaced more) ∙ ap (λ text. front ++ text) (sym (spaced-append words more))

-- ---- paths

dotted-join : (step : ℕ) (steps : List ℕ) → join_with_byte 46 (map decimal (step ∷ steps)) ≡ decimal step ++ dotted steps
dotted-join step [] = sym (append-nil (decimal step))
dotted-join step (next ∷ steps) = ap (λ text. decimal step ++ 46 ∷ text) (dotted-join next steps)

spaced-one : (word : List ℕ) → spaced (word ∷ []) ≡ 32 ∷ word
unfolding spaced
spaced-one word = ap (λ text. 32 ∷ text) (append-nil word)

-- a path by its first step
pub spaced-path_text : (front steps others : List ℕ) (step : ℕ) → steps ≡ step ∷ others → (front ++ spaced (decimal step ∷ [])) ++ dotted others ≡ front ++ spaced (path_text steps ∷ [])
unfolding path_text
spaced-path_text front steps others step e =
    let path : path_text steps ≡ decimal step ++ dotted others = ap path_text e ∙ dotted-join step others in
    append_assoc front (spaced (decimal step ∷ [])) (dotted others)
    ∙ ap (λ text. front ++ text) (ap (λ text. text ++ dotted others) (spaced-one (decimal step)) ∙ sym (spaced-one (path_text steps) ∙ ap (λ text. 32 ∷ text) path))

pub path_text-none : (steps : List ℕ) → length steps ≡ 0 → path_text steps ≡ codes "-"
unfolding path_text
path_text-none [] e = refl
path_text-none (step ∷ steps) e = absurd (omega (arith, e))

pub ruleset line_laws = (spaced-after, line_text-cons)
