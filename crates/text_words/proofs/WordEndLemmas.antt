-- What a line begins with: a word, or a number of one digit or two and a space.
use Rattle.std.proofs.Common.{◌≡◌, ◌≢◌, ℕ, suc, ◌+◌, ◌-◌, ◌*◌, ◌<◌, ◌≤◌, ◌||◌, Bool, true, false, not, eqb, ltb, List, [], ◌∷◌, ◌++◌, length, get_or, position, take, drop, Option, Some, None, Ok, refl, sym, ◌∙◌, arith}
use Rattle.std.specs.List.{onto_first}
use Rattle.std.specs.Option.{is_some}
use Rattle.std.specs.Char.{is_ascii_digit, digit_value}
use Rattle.std.specs.Str.Parse.{digits_value}
use Rattle.std.proofs.lemmas.Bool.{eq-eqb, ne_eqb, lt-ltb, le-leb}
use Rattle.std.proofs.lemmas.Grind.{common_steps}
use Rattle.std.proofs.lemmas.Str.{digit_value_digit}
use Rattle.text_words.specs.Bytes.{cut_at, words_of}
use Rattle.text_words.specs.PlainWords.{is_number, number_in}
use Rattle.text_words.proofs.BytesLemmas.{words_by, words_of-cut, words_of-is, lacks_each}
use Rattle.text_words.proofs.WordLemmas.{both, has_no, number_lacks, cut_dot}

-- ---- a word

word_of : (line : List ℕ) (o : Option (List ℕ × List ℕ)) → (word : List ℕ) × (others : List (List ℕ)) × (words_by line o ≡ word ∷ others)
word_of line None = (line, [], refl)
word_of line (Some parts) = (parts.0, words_of parts.1, refl)

-- a line that isn't used up has a word
pub first_of : (line : List ℕ) → (word : List ℕ) × (others : List (List ℕ)) × (words_of line ≡ word ∷ others)
first_of line = let first = word_of line (cut_at 32 line) in (first.0, first.1, words_of-cut line ∙ first.2)

pub has_first : (line : List ℕ) → words_of line ≢ []
has_first line e = let first = first_of line in cc

-- ---- a line's first byte

before_space : (b : ℕ) (line : List ℕ) → eqb b 32 ≡ false → words_of (b ∷ line) ≡ onto_first b (words_of line)
unfolding words_of
before_space b line other = rw other refl

at_space : (b : ℕ) (line : List ℕ) → b ≡ 32 → words_of (b ∷ line) ≡ [] ∷ words_of line
unfolding words_of
at_space b line is = rw (eq-eqb b 32 is) refl

pub all_left : (xs : List ℕ) (n : ℕ) → n ≡ length xs → take n xs ≡ xs
all_left xs n is = grind (arith, common_steps)

-- a word of one byte
pub one_byte : (line : List ℕ) → 2 ≤ length line → get_or line 0 0 ≢ 32 → get_or line 1 0 ≡ 32 → words_of line ≡ take 1 line ∷ words_of (take (length line - 2) (drop 2 line))
one_byte [] long other space = absurd (omega (arith, long))
one_byte (b ∷ []) long other space = absurd (omega (arith, long))
one_byte (b ∷ d ∷ others) long other space =
    let left = all_left others (length (b ∷ d ∷ others) - 2) (omega arith) in
    rw (left, before_space b (d ∷ others) (ne_eqb b 32 other), at_space d others space) refl

-- ---- digits

-- a digit has a value
digit_in : (d n : ℕ) → 48 ≤ d → d ≤ 57 → n + 48 ≡ d → (is_ascii_digit d ≡ true) × (digit_value d ≡ n)
digit_in d n low high is = (rw (le-leb 48 d low, le-leb d 57 high) refl, omega (arith, digit_value_digit d (low, high)))

or_true : (b : Bool) → (b || true) ≡ true
or_true true = refl
or_true false = refl

pub one_is : (d n : ℕ) → 48 ≤ d → d ≤ 57 → n + 48 ≡ d → (is_number (d ∷ []) ≡ true) × (digits_value 10 (d ∷ []) ≡ n)
one_is d n low high is = let digit = digit_in d n low high is in (rw digit.0 (or_true (ltb 48 d)), rw digit.1 (omega arith))

two_are : (d e m n : ℕ) → 49 ≤ d → d ≤ 57 → 48 ≤ e → e ≤ 57 → m + 48 ≡ d → n + 48 ≡ e → (is_number (d ∷ e ∷ []) ≡ true) × (digits_value 10 (d ∷ e ∷ []) ≡ m * 10 + n)
two_are d e m n tens_low tens_high low high tens ones =
    let first = digit_in d m (omega arith) tens_high tens in
    let second = digit_in e n low high ones in
    (rw (first.0, second.0, lt-ltb 48 d (omega arith)) refl, rw (first.1, second.1) (omega arith))

-- digits that spell a number, and what stands after them
abbrev pub IsDigitsFront : List ℕ → List ℕ → ℕ → Type 0
IsDigitsFront bytes after n = (word : List ℕ) × (bytes ≡ word ++ after) × (is_number word ≡ true) × (digits_value 10 word ≡ n)

pub one_digit : (bytes : List ℕ) (n : ℕ) → 1 ≤ length bytes → 48 ≤ get_or bytes 0 0 → get_or bytes 0 0 ≤ 57 → n + 48 ≡ get_or bytes 0 0 → IsDigitsFront bytes (take (length bytes - 1) (drop 1 bytes)) n
one_digit [] n long low high is = absurd (omega (arith, long))
one_digit (d ∷ after) n long low high is =
    let number = one_is d n low high is in
    let left = all_left after (length (d ∷ after) - 1) (omega arith) in
    (d ∷ [], rw left refl, number.0, number.1)

pub two_digits : (bytes : List ℕ) (m n : ℕ) → 2 ≤ length bytes → 49 ≤ get_or bytes 0 0 → get_or bytes 0 0 ≤ 57 → 48 ≤ get_or bytes 1 0 → get_or bytes 1 0 ≤ 57 → m + 48 ≡ get_or bytes 0 0 → n + 48 ≡ get_or bytes 1 0
    → IsDigitsFront bytes (take (length bytes - 2) (drop 2 bytes)) (m * 10 + n)
two_digits [] m n long tens_low tens_high low high tens ones = absurd (omega (arith, long))
two_digits (d ∷ []) m n long tens_low tens_high low high tens ones = absurd (omega (arith, long))
two_digits (d ∷ e ∷ after) m n long tens_low tens_high low high tens ones =
    let number = two_are d e m n tens_low tens_high low high tens ones in
    let left = all_left after (length (d ∷ e ∷ after) - 2) (omega arith) in
    (d ∷ e ∷ [], rw left refl, number.0, number.1)

-- ---- a word that is ended by a space

pub words_after : (word others : List ℕ) → has_no 32 word ≡ true → words_of (word ++ 32 ∷ others) ≡ word ∷ words_of others
words_after word others clean = words_of-is (word ++ 32 ∷ others) (Some (word, others)) (sym (cut_dot 32 word others clean))

pub has_no-append : (c : ℕ) (a b : List ℕ) → has_no c a ≡ true → has_no c b ≡ true → has_no c (a ++ b) ≡ true
has_no-append c [] b none others = others
has_no-append c (x ∷ a) b none others = let parts = both (not (eqb x c)) (has_no c a) none in rw (parts.0, has_no-append c a b parts.1 others) refl

has_none : (c : ℕ) (word : List ℕ) → ((k : ℕ) → k < length word → eqb (get_or word k 0) c ≡ false) → has_no c word ≡ true
has_none c [] lacks = refl
has_none c (b ∷ word) lacks = rw (lacks 0 (omega arith), has_none c word (λ k lt. lacks (suc k) (omega (arith, lt)))) refl

pub none_found : (place : Option ℕ) → is_some place ≡ false → None ≡ place
none_found None e = refl
none_found (Some place) e = absurd cc

pub word_front : (line after word : List ℕ) → line ≡ word ++ after → 1 ≤ length after → get_or after 0 0 ≡ 32 → None ≡ position (λ byte. eqb byte 32) word → words_of line ≡ word ∷ words_of (take (length after - 1) (drop 1 after))
word_front line [] word is long space none = absurd (omega (arith, long))
word_front line (b ∷ others) word is long space none =
    let left = all_left others (length (b ∷ others) - 1) (omega arith) in
    rw (left, is, space) (words_after word others (has_none 32 word (lacks_each 32 word none)))

-- ---- a short number

-- a number, and the words after it
abbrev pub IsNumberFront : List ℕ → List ℕ → ℕ → Type 0
IsNumberFront line others n = (word : List ℕ) × (words_of line ≡ word ∷ words_of others) × (is_number word ≡ true) × (digits_value 10 word ≡ n)

pub number_front : (line after : List ℕ) (n : ℕ) → IsDigitsFront line after n → 1 ≤ length after → get_or after 0 0 ≡ 32 → IsNumberFront line (take (length after - 1) (drop 1 after)) n
number_front line [] n digits long space = absurd (omega (arith, long))
number_front line (b ∷ others) n digits long space =
    let left = all_left others (length (b ∷ others) - 1) (omega arith) in
    (digits.0, rw (left, digits.1, space) (words_after digits.0 others (number_lacks 32 (omega arith) digits.0 digits.2)), digits.2, digits.3)

pub number_in_range : (least most n : ℕ) (word : List ℕ) → is_number word ≡ true → digits_value 10 word ≡ n → least ≤ n → n ≤ most → number_in least most word ≡ Ok n
unfolding number_in
number_in_range least most n word is value low high = rw (is, value, le-leb least n low, le-leb n most high) refl
