-- Entries of a line up to a word.
use Rattle.std.specs.Prelude.{ℕ, zero, suc, List, [], ◌∷◌, Bool, false, not, Result, Ok, Err, if◌then◌else◌}
use Rattle.std.specs.Str.{bytes_eq}
use Rattle.text_words.specs.declared.faults.TextFault.{TextFault}
use Rattle.text_words.specs.declared.faults.TextKind.{TextKind}
use Rattle.text_words.specs.declared.faults.TextKind.TheVariants.{Limit}
use Rattle.text_words.specs.PlainWords.{◌>>=◌}
use Rattle.text_words.specs.Place.{Place, Read, fail}

-- whether a further word stands there, other than this one
abbrev pub goes_on : List ℕ → List (List ℕ) → Bool
goes_on stop [] = false
goes_on stop (word ∷ others) = not (bytes_eq word stop)

-- Each word before the first `stop`, or the end of the line, is an entry, and there are at most `room` entries; the
-- entries, and what follows them.
unfoldable pub entries_before_in : {X : Type 0} → (stop : List ℕ) → ℕ → (List ℕ → Result X TextKind) → List (List ℕ)
    → Result (List X × List (List ℕ)) TextKind
entries_before_in stop room test [] = Ok ([], [])
entries_before_in stop zero test (word ∷ others) = if bytes_eq word stop then Ok ([], word ∷ others) else Err Limit
entries_before_in stop (suc room) test (word ∷ others) = if bytes_eq word stop then Ok ([], word ∷ others) else (do
  x ← test word
  more ← entries_before_in stop room test others
  Ok (x ∷ more.0, more.1))

abbrev pub before_from : {X : Type 0} → Place → Result (List X × List (List ℕ)) TextKind
    → Result (List X × Place) TextFault
before_from p (Ok found) = Ok (found.0, record { line = p.line; words = found.1; ahead = p.ahead })
before_from p (Err k) = fail p.line k

unfoldable pub entries_before : {X : Type 0} → (stop : List ℕ) → ℕ → (List ℕ → Result X TextKind) → Read (List X)
entries_before stop room test p = before_from p (entries_before_in stop room test p.words)
