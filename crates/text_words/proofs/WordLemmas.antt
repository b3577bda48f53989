-- Words that spell a value.
use Rattle.std.proofs.Common.{◌≡◌, ℕ, ◌^◌, ◌<◌, ◌≤◌, Bool, true, false, cond, eqb, not, ltb, leb, ◌&&◌, ◌||◌, List, [], ◌∷◌, ◌++◌, length, get_or, map, Option, Some, None, Result, Ok, Err, refl, sym, ap, subst, ◌∙◌, arith, codes, inl, inr, ⊎_elim}
use Rattle.match_limits.specs.Ranges.{IsVersion}
use Rattle.text_words.specs.declared.faults.TextKind.{TextKind}
use Rattle.std.specs.List.{AllByRecursion}
use Rattle.std.specs.Fmt.{decimal}
use Rattle.std.specs.Str.{all_ascii_digits, bytes_eq}
use Rattle.std.specs.Str.Parse.{digits_value, AllDigits}
use Rattle.std.proofs.lemmas.Str.Parse.{IsNumeralModel, digit_from_value, numerals_by_value, tells_all_ascii_digits}
use Rattle.std.proofs.lemmas.Fmt.{decimal_digit, first_decimal, decimal_nonempty, digits_decimal, digits_value-decimal, decimal-digits_value}
use Rattle.std.proofs.lemmas.Bool.{cases_eq, eq-eqb, ne_eqb, lt-ltb, le-ltb, ltb-true, eqb-true, leb-true, le-leb}
use Rattle.text_words.specs.declared.faults.TextKind.TheVariants.{Word, Number, Limit, Version}
use Rattle.text_words.specs.PlainWords.{◌>>=◌, fixed_in, version_in, is_number, number_in, or_word}
use Rattle.text_words.specs.Bytes.{onto, cut_at}
use Rattle.std.proofs.lemmas.Slice.Eq.{bytes_eq-Decides}

-- A test passes the words that spell a value, and no others.
pub record Spells {X : Type 0} (test : List ℕ → Result X TextKind) (word_of : X → List ℕ) (Fits : X → Type 0) : Type 0 where
  pub is : (word : List ℕ) (x : X) → test word ≡ Ok x → (word ≡ word_of x) × Fits x
  pub passes : (x : X) → Fits x → test (word_of x) ≡ Ok x

abbrev pub after_word : {A B : Type 0} → Result A TextKind → (A → Result B TextKind) → Result B TextKind
after_word r f = r >>= f

abbrev pub judged_ok : {A : Type 0} → A → Result A TextKind
judged_ok x = Ok x

pub judged_ok_is : {A : Type 0} (x y : A) → judged_ok x ≡ judged_ok y → x ≡ y
judged_ok_is x y e = cc

pub judged_bind : {A B : Type 0} (r : Result A TextKind) (f : A → Result B TextKind) (y : B) → after_word r f ≡ Ok y → (x : A) × (r ≡ Ok x) × (f x ≡ Ok y)
judged_bind (Ok x) f y e = (x, refl, e)
judged_bind (Err d) f y e = absurd cc

-- a test that was passed
pub if_ok : {A : Type 0} (b : Bool) (r : Result A TextKind) (k : TextKind) (x : A) → cond b r (Err k) ≡ Ok x → (b ≡ true) × (r ≡ Ok x)
if_ok true r k x e = (refl, e)
if_ok false r k x e = absurd cc

pub both : (a b : Bool) → (a && b) ≡ true → (a ≡ true) × (b ≡ true)
both true b e = (refl, e)
both false b e = absurd cc

pub not_so : (a : Bool) → not a ≡ true → a ≡ false
not_so true e = absurd cc
not_so false e = refl

either : (a b : Bool) → (a || b) ≡ true → a ≡ false → b ≡ true
either true b e h = absurd cc
either false b e h = e

abbrev pub some : {A : Type 0} → A → Option A
some x = Some x

pub some_is : {A : Type 0} (x y : A) → some x ≡ some y → x ≡ y
some_is x y e = cc

cut_parts_byte : (c b : ℕ) (bytes : List ℕ) (t : Bool) → eqb b c ≡ t → (o : Option (List ℕ × List ℕ)) (parts : List ℕ × List ℕ) → cond t (Some ([], bytes)) (onto b o) ≡ Some parts
    → ((others : List ℕ × List ℕ) → o ≡ Some others → bytes ≡ others.0 ++ c ∷ others.1) → b ∷ bytes ≡ parts.0 ++ c ∷ parts.1
cut_parts_byte c b bytes true is o parts e so = ap (λ x. x ∷ bytes) (eqb-true b c is) ∙ ap (λ (z : List ℕ × List ℕ). z.0 ++ c ∷ z.1) (some_is ([], bytes) parts e)
cut_parts_byte c b bytes false is None parts e so = absurd cc
cut_parts_byte c b bytes false is (Some others) parts e so = ap (λ bs. b ∷ bs) (so others refl) ∙ ap (λ (z : List ℕ × List ℕ). z.0 ++ c ∷ z.1) (some_is (b ∷ others.0, others.1) parts e)

pub cut_parts : (c : ℕ) (bytes : List ℕ) (parts : List ℕ × List ℕ) → cut_at c bytes ≡ Some parts → bytes ≡ parts.0 ++ c ∷ parts.1
cut_parts c [] parts e = absurd cc
cut_parts c (b ∷ bytes) parts e = cut_parts_byte c b bytes (eqb b c) refl (cut_at c bytes) parts e (cut_parts c bytes)

pub or_word_is : {A : Type 0} (o : Option A) (x : A) → or_word o ≡ Ok x → o ≡ Some x
or_word_is (Some y) x e = ap some (judged_ok_is y x e)
or_word_is None x e = absurd cc

-- ---- numbers

pub own : IsNumeralModel (λ ds. all_ascii_digits ds ≡ true) (digits_value 10)
own = numerals_by_value (λ ds. all_ascii_digits ds ≡ true) tells_all_ascii_digits

is_number-decimal : (n : ℕ) → n < 2 ^ 64 → is_number (decimal n) ≡ true
is_number-decimal n lt =
    elim (cases_eq n 0) [
      | inl zero_is ↦ rw (zero_is, decimal_digit 0 (omega arith)) refl
      | inr some ↦
          let first : 48 < get_or (decimal n) 0 0 = first_decimal n (omega arith) lt in
          rw (lt-ltb 0 (length (decimal n)) (decimal_nonempty n lt), digits_decimal own n lt, lt-ltb 48 (get_or (decimal n) 0 0) first) refl
    ]

decimal-is_number : (word : List ℕ) → is_number word ≡ true → digits_value 10 word < 2 ^ 64 → decimal (digits_value 10 word) ≡ word
decimal-is_number word e lt =
    let some = both (ltb 0 (length word)) (all_ascii_digits word && (ltb 48 (get_or word 0 0) || eqb (length word) 1)) e in
    let digits = both (all_ascii_digits word) (ltb 48 (get_or word 0 0) || eqb (length word) 1) some.1 in
    decimal-digits_value own word digits.0 (ltb-true 0 (length word) some.0)
    (λ zero_first. eqb-true (length word) 1 (either (ltb 48 (get_or word 0 0)) (eqb (length word) 1) digits.1 (le-ltb 48 (get_or word 0 0) (omega (arith, zero_first))))) lt

pub spells_number : (least most : ℕ) → most < 2 ^ 64 → Spells (number_in least most) decimal (λ n. (least ≤ n) × (n ≤ most))
unfolding number_in
spells_number least most small = record {
  is = λ word n e.
      let v = digits_value 10 word in
      let a = if_ok (is_number word) (cond (leb least v && leb v most) (Ok v) (Err Limit)) Number n e in
      let b = if_ok (leb least v && leb v most) (Ok v) Limit n a.1 in
      let range = both (leb least v) (leb v most) b.0 in
      let same : v ≡ n = judged_ok_is v n b.1 in
      let low : least ≤ v = leb-true least v range.0 in
      let high : v ≤ most = leb-true v most range.1 in
      subst (λ m. (word ≡ decimal m) × ((least ≤ m) × (m ≤ most))) same (sym (decimal-is_number word a.0 (omega (arith, small))), (low, high));
  passes = λ n fits.
      let lt : n < 2 ^ 64 = omega (arith, small, fits.1) in
      rw (is_number-decimal n lt, digits_value-decimal own n lt, le-leb least n fits.0, le-leb n most fits.1) refl;
}

-- ---- fixed words

pub spells_fixed : (wanted : List ℕ) → Spells (fixed_in wanted) (λ _. wanted) (λ _. Unit {0})
spells_fixed wanted = record {
  is = λ word x e. ((bytes_eq-Decides word wanted).0 (if_ok (bytes_eq word wanted) (Ok tt) Word x e).0, tt);
  passes = λ x fits. rw ((bytes_eq-Decides wanted wanted).1 refl) refl;
}

-- ---- versions

one_word : decimal 1 ≡ codes "1"
one_word = decimal_digit 1 (omega arith)

two_word : decimal 2 ≡ codes "2"
two_word = decimal_digit 2 (omega arith)

abbrev IsVersionWord : List ℕ → ℕ → Type 0
IsVersionWord word version = (word ≡ decimal version) × IsVersion version

version_first : (word : List ℕ) (version : ℕ) (t u : Bool) → bytes_eq word (codes "1") ≡ t → bytes_eq word (codes "2") ≡ u → cond t (judged_ok 1) (cond u (judged_ok 2) (Err Version)) ≡ judged_ok version → IsVersionWord word version
version_first word version true u is is' e = subst (IsVersionWord word) (judged_ok_is 1 version e) ((bytes_eq-Decides word (codes "1")).0 is ∙ sym one_word, inl refl)
version_first word version false true is is' e = subst (IsVersionWord word) (judged_ok_is 2 version e) ((bytes_eq-Decides word (codes "2")).0 is' ∙ sym two_word, inr refl)
version_first word version false false is is' e = absurd cc

abbrev IsReadAsVersion : ℕ → Type 0
IsReadAsVersion version = version_in (decimal version) ≡ judged_ok version

version_again : (version : ℕ) → IsVersion version → IsReadAsVersion version
version_again version is = ⊎_elim (λ one. subst IsReadAsVersion (sym one) (rw one_word refl)) (λ two. subst IsReadAsVersion (sym two) (rw two_word refl)) is

pub spells_version : Spells version_in decimal IsVersion
spells_version = record {
  is = λ word version e. version_first word version (bytes_eq word (codes "1")) (bytes_eq word (codes "2")) refl refl e;
  passes = version_again;
}

-- ---- bytes that a word lacks

-- digits have no dot, no space and no LF
abbrev pub has_no : ℕ → List ℕ → Bool
has_no c [] = true
has_no c (b ∷ word) = not (eqb b c) && has_no c word

digits_lack : (c : ℕ) → c < 48 → (word : List ℕ) → AllDigits 10 word → has_no c word ≡ true
digits_lack c small [] digits = refl
digits_lack c small (b ∷ word) digits =
    let range = digit_from_value b digits.0 in
    let other : eqb b c ≡ false = ne_eqb b c (omega (arith, range.0)) in
    rw (other, digits_lack c small word digits.1) refl

pub decimal_lacks : (c n : ℕ) → c < 48 → n < 2 ^ 64 → has_no c (decimal n) ≡ true
decimal_lacks c n small lt = digits_lack c small (decimal n) (own.to (decimal n) (digits_decimal own n lt))

pub number_lacks : (c : ℕ) → c < 48 → (word : List ℕ) → is_number word ≡ true → has_no c word ≡ true
number_lacks c small word is =
    let some = both (ltb 0 (length word)) (all_ascii_digits word && (ltb 48 (get_or word 0 0) || eqb (length word) 1)) is in
    digits_lack c small word (own.to word (both (all_ascii_digits word) (ltb 48 (get_or word 0 0) || eqb (length word) 1) some.1).0)

pub cut_dot : (c : ℕ) (word rest : List ℕ) → has_no c word ≡ true → cut_at c (word ++ c ∷ rest) ≡ Some (word, rest)
cut_dot c [] rest e = rw (eq-eqb c c refl) refl
cut_dot c (b ∷ word) rest e =
    let h = both (not (eqb b c)) (has_no c word) e in
    let other : eqb b c ≡ false = not_so (eqb b c) h.0 in
    rw (other, cut_dot c word rest h.1) refl

-- ---- clean words

abbrev pub is_clean : List ℕ → Bool
is_clean [] = true
is_clean (b ∷ word) = (not (eqb b 32) && not (eqb b 10)) && is_clean word

-- one word or more, each of them clean
abbrev pub are_clean : List (List ℕ) → Bool
are_clean [] = false
are_clean (word ∷ []) = is_clean word
are_clean (word ∷ w ∷ words) = is_clean word && are_clean (w ∷ words)

clean_from : (word : List ℕ) → has_no 32 word ≡ true → has_no 10 word ≡ true → is_clean word ≡ true
clean_from [] e h = refl
clean_from (b ∷ word) e h =
    let one = both (not (eqb b 32)) (has_no 32 word) e in
    let two = both (not (eqb b 10)) (has_no 10 word) h in
    rw (one.0, two.0, clean_from word one.1 two.1) refl

pub clean-append : (a b : List ℕ) → is_clean a ≡ true → is_clean b ≡ true → is_clean (a ++ b) ≡ true
clean-append [] b e h = h
clean-append (x ∷ a) b e h =
    let parts = both (not (eqb x 32) && not (eqb x 10)) (is_clean a) e in
    rw (parts.0, clean-append a b parts.1 h) refl

pub clean-decimal : (n : ℕ) → n < 2 ^ 64 → is_clean (decimal n) ≡ true
clean-decimal n lt = clean_from (decimal n) (decimal_lacks 32 n (omega arith) lt) (decimal_lacks 10 n (omega arith) lt)

pub clean-version : (version : ℕ) → IsVersion version → is_clean (decimal version) ≡ true
clean-version version is = clean-decimal version (⊎_elim (λ one. omega (arith, one)) (λ two. omega (arith, two)) is)

-- words of values that are clean
pub clean-words : {X : Type 0} (word_of : X → List ℕ) (Fits : X → Type 0) → ((x : X) → Fits x → is_clean (word_of x) ≡ true) → (xs : List X) → 0 < length xs → AllByRecursion Fits xs → are_clean (map word_of xs) ≡ true
clean-words word_of Fits clean [] lt fits = absurd (omega (arith, lt))
clean-words word_of Fits clean (x ∷ []) lt fits = clean x fits.0
clean-words word_of Fits clean (x ∷ y ∷ xs) lt fits = rw (clean x fits.0, clean-words word_of Fits clean (y ∷ xs) (omega arith) fits.1) refl
