-- What a word has to be, and what is wrong with one that isn't.
use Rattle.std.specs.Prelude.{◌≡◌, ℕ, List, length, Option, Some, None, Result, Ok, Err, codes}
use Rattle.std.specs.Prelude.{Bool, ◌&&◌, ◌||◌, nat_lt, nat_le, ◌==◌, if◌then◌else◌, slice_index}
use Rattle.std.specs.Str.{all_ascii_digits, bytes_eq}
use Rattle.std.specs.Str.Parse.{digits_value}
use Rattle.text_words.specs.declared.faults.TextKind.{TextKind}
use Rattle.text_words.specs.declared.faults.TextKind.TheVariants.{Word, Number, Limit, Version}

infixl 10 ◌>>=◌
abbrev pub ◌>>=◌ : {A B : Type 0} → Result A TextKind → (A → Result B TextKind) → Result B TextKind
(Ok x) >>= f = f x
(Err e) >>= f = Err e

-- a Word where there is nothing to go on with
abbrev pub or_word : {A : Type 0} → Option A → Result A TextKind
or_word (Some x) = Ok x
or_word None = Err Word

-- the word and no other
abbrev pub fixed_in : List ℕ → List ℕ → Result (Unit {0}) TextKind
fixed_in wanted word = if bytes_eq word wanted then Ok tt else Err Word

-- the version of a text
abbrev pub version_in : List ℕ → Result ℕ TextKind
version_in word =
    if bytes_eq word (codes "1") then Ok 1 else (if bytes_eq word (codes "2") then Ok 2 else Err Version)

-- one or more decimal digits, with no zero before another digit
abbrev pub is_number : List ℕ → Bool
is_number word =
    nat_lt 0 (length word) && (all_ascii_digits word && (nat_lt 48 (slice_index word 0) || length word == 1))

-- a number from least to most
unfoldable pub number_in : ℕ → ℕ → List ℕ → Result ℕ TextKind
number_in least most word =
    if is_number word
    then (if nat_le least (digits_value 10 word) && nat_le (digits_value 10 word) most
    then Ok (digits_value 10 word) else Err Limit)
    else Err Number

-- What a call returned, seen by view, is what the word is.
abbrev pub Judges : {X Y : Type 0} → (X → Y) → Result X TextKind → Result Y TextKind → Type 0
Judges view (Ok x) judgement = judgement ≡ Ok (view x)
Judges view (Err e) judgement = judgement ≡ Err e
