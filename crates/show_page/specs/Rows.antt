-- What a page tells of its texts.
use Rattle.std.specs.Prelude.{ℕ, List, [], ◌∷◌, decimal, length}
use Rattle.hex.specs.Hex.{encode_lower}
use Rattle.sha2.specs.Sha256.{sha256}
use Rattle.show_page.specs.Joined.{joined}
use Rattle.show_page.specs.Texts.{ThreeTexts, place}
use Rattle.show_page.specs.declared.rows.Told.{Told}
use Rattle.show_page.specs.declared.fixed.TheConstants.{BEFORE_PUZZLE_PLACE, BEFORE_PUZZLE_LENGTH, BEFORE_PUZZLE_DIGEST}
use Rattle.show_page.specs.declared.fixed.TheConstants.{BEFORE_LIST_PLACE, BEFORE_LIST_LENGTH, BEFORE_LIST_DIGEST}
use Rattle.show_page.specs.declared.fixed.TheConstants.{BEFORE_CERTIFICATE_PLACE, BEFORE_CERTIFICATE_LENGTH}
use Rattle.show_page.specs.declared.fixed.TheConstants.{BEFORE_CERTIFICATE_DIGEST}

-- what a row tells of a text
pub record Row : Type 0 where
  pub place : List ℕ
  pub length : List ℕ
  pub digest : List ℕ

-- three rows, with fixed text before all that they tell
unfoldable pub rows_with : (puzzle list certificate : Row) → List ℕ
rows_with puzzle list certificate =
    joined (BEFORE_PUZZLE_PLACE.now ∷ puzzle.place ∷ BEFORE_PUZZLE_LENGTH.now ∷ puzzle.length
    ∷ BEFORE_PUZZLE_DIGEST.now ∷ puzzle.digest
    ∷ BEFORE_LIST_PLACE.now ∷ list.place ∷ BEFORE_LIST_LENGTH.now ∷ list.length
    ∷ BEFORE_LIST_DIGEST.now ∷ list.digest
    ∷ BEFORE_CERTIFICATE_PLACE.now ∷ certificate.place ∷ BEFORE_CERTIFICATE_LENGTH.now ∷ certificate.length
    ∷ BEFORE_CERTIFICATE_DIGEST.now ∷ certificate.digest ∷ [])

-- where a text is, how many bytes it has, and its SHA-256 in hex digits
abbrev pub row_of : List ℕ → Row
row_of text =
    record { place = place text; length = decimal (length text); digest = encode_lower (sha256 text) }

-- a row for each text
abbrev pub rows_text : ThreeTexts → List ℕ
rows_text texts = rows_with (row_of texts.puzzle) (row_of texts.list) (row_of texts.certificate)

-- a row, by what is written into it
abbrev pub row_in : Told → Row
row_in told = record { place = told.place.now; length = told.length.now; digest = told.digest.now }
