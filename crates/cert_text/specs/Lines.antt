-- The lines of a certificate's text, without where they lie in memory.
use Rattle.std.specs.Prelude.{◌≡◌, ◌++◌, List, Result, Ok, Err, length, drop}
use Rattle.match_puzzle.specs.declared.placements.Pair.{Pair}
use Rattle.text_words.specs.declared.faults.TextFault.{TextFault}
use Rattle.text_words.specs.declared.faults.ReadFault.{ReadFault}
use Rattle.text_words.specs.Place.{Place, Fails}
use Rattle.cert_tree.specs.declared.flat_lemmas.LemmaSpan.{LemmaSpan}
use Rattle.cert_tree.specs.declared.heads.Head.{Head}
use Rattle.cert_tree.specs.Certificate.{Piece}
use Rattle.cert_tree.specs.Spans.{piece_in, IsSpan}
use Rattle.cert_text.specs.declared.readers.Beginning.{Beginning}
use Rattle.cert_text.specs.declared.readers.CertificateLines.{CertificateLines}
use Rattle.cert_text.specs.CertificateText.{Said, lemmas_then_end}

abbrev pub said_of : CertificateLines → Said
said_of lines = record { version = lines.version; symmetries = lines.symmetries.items; pieces = lines.lemmas }

-- Reading a certificate's text has come to its lemmas there, or to its first fault.
abbrev pub Begins : Result Beginning ReadFault → Place → Result (Said × Place) TextFault → Type 0
Begins (Ok it) after read = read ≡ lemmas_then_end it.version it.symmetries.items it.count after
Begins (Err e) after read = Fails e read

-- A lemma was read, and lies there: its pairs and its heads are behind the old ones.
pub record IsReadBehind (place : LemmaSpan) (after : Place) (old_pairs new_pairs : List Pair)
    (old_heads new_heads : List Head) (read : Result (Piece × Place) TextFault) : Type 0 where
  pub reads : read ≡ Ok (piece_in new_pairs new_heads place, after)
  pub span : IsSpan new_pairs new_heads place
  pub pairs : new_pairs ≡ old_pairs ++ drop (length old_pairs) new_pairs
  pub heads : new_heads ≡ old_heads ++ drop (length old_heads) new_heads

-- Reading has come to a lemma behind the old ones, or to its first fault.
abbrev pub ReadsBehind : Result LemmaSpan ReadFault → Place → (old_pairs new_pairs : List Pair)
    → (old_heads new_heads : List Head) → Result (Piece × Place) TextFault → Type 0
ReadsBehind (Ok span) after old_pairs new_pairs old_heads new_heads read =
    IsReadBehind span after old_pairs new_pairs old_heads new_heads read
ReadsBehind (Err e) after old_pairs new_pairs old_heads new_heads read = Fails e read
