-- Where reading stands in a text, and what it meets there.
use Rattle.std.specs.Prelude.{◌≡◌, ℕ, zero, suc, ◌+◌, List, [], ◌∷◌, Option, Some, None, Result, Ok, Err, codes}
use Rattle.text_words.specs.declared.faults.TextFault.{TextFault}
use Rattle.text_words.specs.declared.faults.TextKind.{TextKind}
use Rattle.text_words.specs.declared.faults.TextKind.TheVariants.{Word, Ends, After}
use Rattle.text_words.specs.declared.faults.ReadFault.{ReadFault}
use Rattle.text_words.specs.declared.faults.ReadFault.TheVariants as faults
use Rattle.text_words.specs.Bytes.{cut_at, words_of}
use Rattle.text_words.specs.PlainWords.{fixed_in, version_in, number_in}
use Rattle.text_words.specs.Words.{entries_in}

pub record Place : Type 0 where
  -- the number of the line that is read, 0 before the first
  pub line : ℕ
  -- its words that weren't looked at yet
  pub words : List (List ℕ)
  -- the bytes after it
  pub ahead : List ℕ

-- before the first line
abbrev pub start : List ℕ → Place
start text = record { line = 0; words = []; ahead = text }

-- the next word, and where reading goes on after it
abbrev pub first_word : List (List ℕ) → Option (List ℕ)
first_word [] = None
first_word (word ∷ words) = Some word

abbrev pub other_words : List (List ℕ) → List (List ℕ)
other_words [] = []
other_words (word ∷ words) = words

abbrev pub without_word : Place → Place
without_word p = record { line = p.line; words = other_words p.words; ahead = p.ahead }

-- a value and where reading goes on, or the first fault
abbrev pub Read : Type 0 → Type 0
Read X = Place → Result (X × Place) TextFault

abbrev pub go_on : {A B : Type 0} → Result (A × Place) TextFault → (A → Read B) → Result (B × Place) TextFault
go_on (Ok x) f = f x.0 x.1
go_on (Err e) f = Err e

infixl 10 ◌>>=◌
abbrev pub ◌>>=◌ : {A B : Type 0} → Read A → (A → Read B) → Read B
(m >>= f) p = go_on (m p) f

abbrev pub give : {A : Type 0} → A → Read A
give x p = Ok (x, p)

abbrev pub fail : {A : Type 0} → ℕ → TextKind → Result A TextFault
fail number what = Err (record { line = number; kind = what })

-- ---- lines

-- the line with the bytes before the next LF
abbrev pub line_from : ℕ → Option (List ℕ × List ℕ) → Result (Unit {0} × Place) TextFault
line_from number None = fail number Ends
line_from number (Some parts) = Ok (tt, record { line = number; words = words_of parts.0; ahead = parts.1 })

unfoldable pub next_line : Read (Unit {0})
next_line p = line_from (p.line + 1) (cut_at 10 p.ahead)

-- no further word on the line
abbrev pub end_from : Place → List (List ℕ) → Result (Unit {0} × Place) TextFault
end_from p [] = Ok (tt, p)
end_from p (word ∷ others) = fail p.line Word

unfoldable pub end_of_line : Read (Unit {0})
end_of_line p = end_from p p.words

-- the rest of the line, whatever it says
abbrev pub skip_words : Read (Unit {0})
skip_words p = Ok (tt, record { line = p.line; words = []; ahead = p.ahead })

-- the next line, whatever it says
unfoldable pub skip_line : Read (Unit {0})
skip_line = do
  _ ← next_line
  skip_words

-- the next `n` lines, whatever they say
unfoldable pub skip_lines : ℕ → Read (Unit {0})
skip_lines zero = give tt
skip_lines (suc n) = do
  _ ← skip_line
  skip_lines n

-- nothing after the line
abbrev pub text_end_from : Place → List ℕ → Result (Unit {0} × Place) TextFault
text_end_from p [] = Ok (tt, p)
text_end_from p (b ∷ bytes) = fail (p.line + 1) After

unfoldable pub end_of_text : Read (Unit {0})
end_of_text p = text_end_from p p.ahead

-- one whole line
abbrev pub line_of : {X : Type 0} → Read X → Read X
line_of r = do
  _ ← next_line
  x ← r
  _ ← end_of_line
  give x

-- ---- words

-- the next word by its judgement
abbrev pub judged : {X : Type 0} → Place → List (List ℕ) → Result X TextKind → Result (X × Place) TextFault
judged p others (Ok x) = Ok (x, record { line = p.line; words = others; ahead = p.ahead })
judged p others (Err k) = fail p.line k

abbrev pub word_from : {X : Type 0} → (List ℕ → Result X TextKind) → Place → List (List ℕ)
    → Result (X × Place) TextFault
word_from test p [] = fail p.line Word
word_from test p (word ∷ others) = judged p others (test word)

-- a word that passes a test
unfoldable pub word_by : {X : Type 0} → (List ℕ → Result X TextKind) → Read X
word_by test p = word_from test p p.words

-- a word stands there
abbrev pub some_word_from : Place → List (List ℕ) → Result (Unit {0} × Place) TextFault
some_word_from p [] = fail p.line Word
some_word_from p (word ∷ others) = Ok (tt, p)

unfoldable pub some_word : Read (Unit {0})
some_word p = some_word_from p p.words

-- the rest of the line, as entries
abbrev pub entries_from : {X : Type 0} → Place → Result (List X) TextKind → Result (List X × Place) TextFault
entries_from p (Ok xs) = Ok (xs, record { line = p.line; words = []; ahead = p.ahead })
entries_from p (Err k) = fail p.line k

unfoldable pub entries : {X : Type 0} → ℕ → (List ℕ → Result X TextKind) → Read (List X)
entries room test p = entries_from p (entries_in room test p.words)

-- the rest of the line, as entries, at least one
unfoldable pub some_entries : {X : Type 0} → ℕ → (List ℕ → Result X TextKind) → Read (List X)
some_entries room test = do
  _ ← some_word
  entries room test

-- ---- lines that texts have in common

-- the first line, a word and the version
unfoldable pub opening : List ℕ → Read ℕ
opening name = line_of (do
  _ ← word_by (fixed_in name)
  word_by version_in)

-- a word and a number
unfoldable pub counted : List ℕ → ℕ → ℕ → Read ℕ
counted name least most = line_of (do
  _ ← word_by (fixed_in name)
  word_by (number_in least most))

-- the line `end`, and nothing after it
unfoldable pub closing : Read (Unit {0})
closing = do
  _ ← line_of (word_by (fixed_in (codes "end")))
  end_of_text

-- ---- reading n times

unfoldable pub times : {X : Type 0} → ℕ → Read X → Read (List X)
times zero r = give []
times (suc n) r = do
  x ← r
  xs ← times n r
  give (x ∷ xs)

-- ---- what a call comes to

-- What a call returned, seen by view, and where it left off, are what reading gives.
abbrev pub Gives : {X Y : Type 0} → (X → Y) → Result X TextFault → Place → Result (Y × Place) TextFault → Type 0
Gives view (Ok x) after read = read ≡ Ok (view x, after)
Gives view (Err e) after read = read ≡ Err e

-- What reading gives where a call failed: its fault, or anything if memory ran out.
abbrev pub Fails : {Y : Type 0} → ReadFault → Result Y TextFault → Type 0
Fails faults.Memory read = Unit {0}
Fails (faults.Text f) read = read ≡ Err f

abbrev pub Reads : {X Y : Type 0} → (X → Y) → Result X ReadFault → Place → Result (Y × Place) TextFault → Type 0
Reads view (Ok x) after read = read ≡ Ok (view x, after)
Reads view (Err e) after read = Fails e read

-- the value alone
abbrev pub value_of : {X : Type 0} → Result (X × Place) TextFault → Result X TextFault
value_of (Ok x) = Ok x.0
value_of (Err e) = Err e

-- What a call returned, seen by view, is what the text says.
abbrev pub Says : {X Y : Type 0} → (X → Y) → Result X ReadFault → Result Y TextFault → Type 0
Says view (Ok x) read = read ≡ Ok (view x)
Says view (Err e) read = Fails e read
