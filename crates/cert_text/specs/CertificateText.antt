-- The texts of lemmas and of certificates.
use Rattle.std.specs.Prelude.{◌≡◌, ◌≢◌, ℕ, List, Bool, true, false, Result, Ok, Err, codes, length, if◌then◌else◌}
use Rattle.match_limits.specs.declared.TheConstants.{LAST_SIDE, MOST_COLOURS, MOST_SYMMETRIES, MOST_LEMMAS}
use Rattle.match_limits.specs.declared.TheConstants.{LAST_LEMMA}
use Rattle.std.specs.Str.{bytes_eq}
use Rattle.match_board.specs.declared.symmetry_lines.SymmetryLine.{SymmetryLine}
use Rattle.text_words.specs.declared.faults.TextFault.{TextFault}
use Rattle.text_words.specs.declared.faults.TextKind.{TextKind}
use Rattle.text_words.specs.declared.faults.TextKind.TheVariants.{Word}
use Rattle.match_limits.specs.declared.ranges.Ranges.{Ranges}
use Rattle.match_limits.specs.declared.ranges.TheConstants.{SECOND}
use Rattle.match_limits.specs.Ranges.{ranges_of}
use Rattle.cert_tree.specs.declared.faults.AssembleFault.TheVariants.{Memory}
use Rattle.cert_tree.specs.Assembly.{Assembles}
use Rattle.text_words.specs.PlainWords.{fixed_in, number_in}
use Rattle.text_words.specs.Words.{colour_in, pair_in}
use Rattle.text_words.specs.Place.{Read, ◌>>=◌, give, line_of, word_by, entries, opening, counted, closing, end_of_text}
use Rattle.text_words.specs.Place.{times, start, value_of}
use Rattle.cert_tree.specs.Certificate.{Contents, Piece, piece_number}
use Rattle.cert_text.specs.declared.faults.CertTextFault.{CertTextFault}
use Rattle.cert_text.specs.declared.faults.CertTextFault.TheVariants as faults
use Rattle.cert_text.specs.Entries.{entries_before}
use Rattle.cert_text.specs.TreeText.{tree_by}

-- ---- symmetries

-- whether sides are mirrored, by its sign
abbrev pub mirrored_in : List ℕ → Result Bool TextKind
mirrored_in word =
    if bytes_eq word (codes "+") then Ok false else (if bytes_eq word (codes "-") then Ok true else Err Word)

unfoldable pub symmetry_line : Ranges → Read SymmetryLine
symmetry_line ranges = line_of (do
  _ ← word_by (fixed_in (codes "symmetry"))
  shift ← word_by (number_in 0 LAST_SIDE)
  mirrored ← word_by mirrored_in
  _ ← word_by (fixed_in (codes "cells"))
  cells ← entries_before (codes "colours") ranges.most_cells (number_in 0 ranges.last_cell)
  _ ← word_by (fixed_in (codes "colours"))
  colours ← entries_before (codes "tiles") MOST_COLOURS colour_in
  _ ← word_by (fixed_in (codes "tiles"))
  tiles ← entries ranges.most_cells (number_in 0 ranges.last_cell)
  give (record { shift = shift; mirrored = mirrored; cells = cells; colours = colours; tiles = tiles }))

-- ---- lemmas

unfoldable pub lemma_line : Ranges → Read Piece
lemma_line ranges = line_of (do
  _ ← word_by (fixed_in (codes "lemma"))
  number ← word_by (number_in 0 LAST_LEMMA)
  _ ← word_by (fixed_in (codes "prefix"))
  prefix ← entries_before (codes "tree") ranges.most_cells (pair_in ranges)
  _ ← word_by (fixed_in (codes "tree"))
  tree ← tree_by ranges ranges.most_levels
  give (record { number = number; prefix = prefix; tree = tree }))

-- one such line, in the ranges of version 2, and nothing after it
unfoldable pub lemma_text : Read Piece
lemma_text = do
  piece ← lemma_line SECOND
  _ ← end_of_text
  give piece

-- the lemma of a text, or the text's first fault
unfoldable pub lemma_of : List ℕ → Result Piece TextFault
lemma_of text = value_of (lemma_text (start text))

-- ---- certificates

-- what a certificate's text says: its version, its symmetries, and its lemmas in the order of their lines
pub record Said : Type 0 where
  pub version : ℕ
  pub symmetries : List SymmetryLine
  pub pieces : List Piece

-- `count` lemmas and the end of the text, where the version and the symmetries were read before them
abbrev pub lemmas_then_end : ℕ → List SymmetryLine → ℕ → Read Said
lemmas_then_end version symmetries count = do
  pieces ← times count (lemma_line (ranges_of version))
  _ ← closing
  give (record { version = version; symmetries = symmetries; pieces = pieces })

unfoldable pub certificate_text : Read Said
certificate_text = do
  version ← opening (codes "certificate")
  many ← counted (codes "symmetries") 0 MOST_SYMMETRIES
  symmetries ← times many (symmetry_line (ranges_of version))
  count ← counted (codes "lemmas") 0 MOST_LEMMAS
  lemmas_then_end version symmetries count

-- What a text says, or its first fault. The lemmas may make no certificate.
unfoldable pub certificate_of : List ℕ → Result Said TextFault
certificate_of text = value_of (certificate_text (start text))

-- ---- what a call comes to

-- The certificate that is assembled of what a text says, or the first fault of its lemmas. Of want of memory nothing is
-- said.
abbrev pub Makes : Said → Result Contents CertTextFault → Type 0
Makes said (Ok c) =
    (c.symmetries ≡ said.symmetries) × Assembles piece_number (length said.pieces) said.pieces (Ok c.lemmas)
Makes said (Err (faults.Text fault)) = ⊥
Makes said (Err (faults.Assemble fault)) =
    (fault ≢ Memory) × Assembles piece_number (length said.pieces) said.pieces (Err fault)
Makes said (Err faults.Memory) = Unit {0}

-- The fault of a text. Of want of memory nothing is said.
abbrev pub IsTextFault : TextFault → Result Contents CertTextFault → Type 0
IsTextFault fault (Ok c) = ⊥
IsTextFault fault (Err (faults.Text other)) = other ≡ fault
IsTextFault fault (Err (faults.Assemble other)) = ⊥
IsTextFault fault (Err faults.Memory) = Unit {0}

-- What a call returned is this outcome: what the text says is assembled, or the text has this fault.
abbrev pub CertificateGives : Result Contents CertTextFault → Result Said TextFault → Type 0
CertificateGives result (Ok said) = Makes said result
CertificateGives result (Err fault) = IsTextFault fault result
