-- Cutting at a byte: what a search found, and a line's words by its first space.
use Rattle.std.proofs.Common.{◌≡◌, ℕ, zero, suc, ◌+◌, ◌<◌, ◌≤◌, Bool, true, false, cond, eqb, List, [], ◌∷◌, length, get_or, take, drop, Option, Some, None, refl, sym, ap, ◌∙◌, add-one, arith}
use Rattle.std.specs.List.{onto_first, position, position_or_len}
use Rattle.std.proofs.lemmas.Bool.{ltb-false}
use Rattle.std.proofs.lemmas.List.Quantifiers.{position-Some}
use Rattle.std.proofs.lemmas.List.Sums.{fails_before_first}
use Rattle.memchr.specs.Find.{IsFirstByte, is_byte}
use Rattle.text_words.specs.Bytes.{onto, cut_at, words_of}

abbrev pub words_by : List ℕ → Option (List ℕ × List ℕ) → List (List ℕ)
words_by bytes None = bytes ∷ []
words_by bytes (Some parts) = parts.0 ∷ words_of parts.1

onto_words : (b : ℕ) (bytes : List ℕ) (o : Option (List ℕ × List ℕ)) → onto_first b (words_by bytes o) ≡ words_by (b ∷ bytes) (onto b o)
onto_words b bytes None = refl
onto_words b bytes (Some parts) = refl

at_first : (b : ℕ) (bytes : List ℕ) (t : Bool) → words_of bytes ≡ words_by bytes (cut_at 32 bytes)
    → cond t ([] ∷ words_of bytes) (onto_first b (words_of bytes)) ≡ words_by (b ∷ bytes) (cond t (Some ([], bytes)) (onto b (cut_at 32 bytes)))
at_first b bytes true so = refl
at_first b bytes false so = ap (onto_first b) so ∙ onto_words b bytes (cut_at 32 bytes)

pub words_of-cut : (bytes : List ℕ) → words_of bytes ≡ words_by bytes (cut_at 32 bytes)
unfolding words_of
words_of-cut [] = refl
words_of-cut (b ∷ bytes) = at_first b bytes (eqb b 32) (words_of-cut bytes)

-- the first word of a line, and the others
pub words_of-is : (bytes : List ℕ) (o : Option (List ℕ × List ℕ)) → o ≡ cut_at 32 bytes → words_of bytes ≡ words_by bytes o
words_of-is bytes o e = rw e (words_of-cut bytes)

false_from : (b : Bool) → ¬ (b ≡ true) → b ≡ false
false_from b = elim b as (λ v. ¬ (v ≡ true) → v ≡ false) [ true ↦ (λ no. absurd (no refl)) | false ↦ (λ no. refl) ]

none_of : (c : ℕ) (bytes : List ℕ) → ((k : ℕ) → k < length bytes → eqb (get_or bytes k 0) c ≡ false) → cut_at c bytes ≡ None
none_of c [] h = refl
none_of c (b ∷ bytes) h =
    let here : eqb b c ≡ false = h 0 (omega arith) in
    rw (here, none_of c bytes (λ k lt. h (suc k) (omega arith))) refl

found_at : (c : ℕ) (bytes : List ℕ) (i : ℕ) → i < length bytes → ((k : ℕ) → k < i → eqb (get_or bytes k 0) c ≡ false) → eqb (get_or bytes i 0) c ≡ true → cut_at c bytes ≡ Some (take i bytes, drop (suc i) bytes)
found_at c [] i lt before here = absurd (omega arith)
found_at c (b ∷ bytes) zero lt before here = rw here refl
found_at c (b ∷ bytes) (suc i) lt before here =
    let first : eqb b c ≡ false = before 0 (omega arith) in
    rw (first, found_at c bytes i (omega arith) (λ k h. before (suc k) (omega arith)) here) refl

pub cut_at-none : (c : ℕ) (bytes : List ℕ) → IsFirstByte (is_byte c) bytes None → cut_at c bytes ≡ None
cut_at-none c bytes h = none_of c bytes (λ k lt. false_from (eqb (get_or bytes k 0) c) (h k (omega arith) lt))

pub cut_at-some : (c : ℕ) (bytes : List ℕ) (i : ℕ) → IsFirstByte (is_byte c) bytes (Some i) → cut_at c bytes ≡ Some (take i bytes, drop (i + 1) bytes)
cut_at-some c bytes i h = rw add-one (found_at c bytes i h.0.high (λ k lt. false_from (eqb (get_or bytes k 0) c) (h.0.before k (omega arith) lt)) h.1)

-- ---- the same, as std says what a search found

absent_is : (t : Bool) (i : ℕ) → cond t (Some i) None ≡ None → t ≡ false
absent_is true i e = absurd cc
absent_is false i e = refl

-- no byte is c, where none is found
pub lacks_each : (c : ℕ) (bytes : List ℕ) → None ≡ position (λ b. eqb b c) bytes → (k : ℕ) → k < length bytes → eqb (get_or bytes k 0) c ≡ false
lacks_each c bytes e k lt =
    let past : length bytes ≤ position_or_len (λ b. eqb b c) bytes = ltb-false _ _ (absent_is _ _ (sym e)) in
    fails_before_first (λ b. eqb b c) bytes k 0 (omega arith)

pub cut_at-absent : (c : ℕ) (bytes : List ℕ) → None ≡ position (λ b. eqb b c) bytes → cut_at c bytes ≡ None
cut_at-absent c bytes e =
    none_of c bytes (lacks_each c bytes e)

pub cut_at-found : (c : ℕ) (bytes : List ℕ) (i : ℕ) → Some i ≡ position (λ b. eqb b c) bytes → cut_at c bytes ≡ Some (take i bytes, drop (i + 1) bytes)
cut_at-found c bytes i e =
    let at = position-Some (λ b. eqb b c) bytes i 0 (sym e) in
    rw add-one (found_at c bytes i at.0 at.2 at.1)
