-- A certificate's text whose lemma lines are cut into parts, each read by itself.
use Rattle.std.specs.Prelude.{◌≡◌, ◌<◌, ℕ, List, [], ◌∷◌, ◌++◌, Result, Ok, Err, Some, length, slice_get, slice_index_or}
use Rattle.text_words.specs.declared.faults.TextFault.{TextFault}
use Rattle.text_words.specs.declared.faults.ReadFault.{ReadFault}
use Rattle.match_limits.specs.Ranges.{ranges_of}
use Rattle.text_words.specs.Place.{Place, Says, closing, times, value_of}
use Rattle.cert_tree.specs.Certificate.{Piece}
use Rattle.cert_text.specs.declared.parts.CutCertificate.{CutCertificate}
use Rattle.cert_text.specs.declared.parts.LemmaPart.{LemmaPart}
use Rattle.cert_text.specs.CertificateText.{Said, certificate_of, lemma_line}

-- a value, or the first fault, and then the same of what follows
infixl 10 ◌>>=◌
abbrev pub ◌>>=◌ : {A B : Type 0} → Result A TextFault → (A → Result B TextFault) → Result B TextFault
(Ok x) >>= f = f x
(Err e) >>= f = Err e

-- the lemmas of a part, or the first fault of its lines
unfoldable pub part_says : LemmaPart → Result (List Piece) TextFault
part_says part = value_of (times part.count (lemma_line (ranges_of part.version)) part.scan)

-- the lemmas of all parts, or the first fault
unfoldable pub parts_say : List LemmaPart → Result (List Piece) TextFault
parts_say [] = Ok []
parts_say (part ∷ parts) = do
  pieces ← part_says part
  others ← parts_say parts
  Ok (pieces ++ others)

-- what the whole says: its parts in order, and then the end
unfoldable pub cut_says : CutCertificate → Result Said TextFault
cut_says cut = do
  pieces ← parts_say cut.parts.items
  _ ← value_of (closing cut.end)
  Ok (record { version = cut.beginning.version; symmetries = cut.beginning.symmetries.items; pieces = pieces })

-- The text says what it says when it is cut so.
abbrev pub IsCutOf : List ℕ → CutCertificate → Type 0
IsCutOf text cut = certificate_of text ≡ cut_says cut

-- This was read of the part with this number.
abbrev pub IsReadAt : List LemmaPart → ℕ → Result (List Piece) ReadFault → Type 0
IsReadAt parts n one = (part : LemmaPart) → slice_get parts n ≡ Some part → Says (λ pieces. pieces) one (part_says part)

-- These were read of the parts, each of the one at its place.
pub record AreRead (parts : List LemmaPart) (read : List (Result (List Piece) ReadFault)) : Type 0 where
  pub many : length read ≡ length parts
  pub each : (n : ℕ) (d : Result (List Piece) ReadFault) → n < length read → IsReadAt parts n (slice_index_or read n d)

-- The lemmas are joined from what was read: whatever parts this was read of, it is what they say.
abbrev pub AreJoined : (read : List (Result (List Piece) ReadFault)) → Result (List Piece) ReadFault → Type 0
AreJoined read result =
    (parts : List LemmaPart) → AreRead parts read → Says (λ pieces. pieces) result (parts_say parts)

-- what was read, and where reading goes on
abbrev pub left_at : {X : Type 0} → Place → Result X TextFault → Result (X × Place) TextFault
left_at place (Ok x) = Ok (x, place)
left_at place (Err e) = Err e
