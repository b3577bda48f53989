-- A page as bytes: fixed text with holes.
use Rattle.std.specs.Prelude.{ℕ, List, [], ◌∷◌}
use Rattle.show_page.specs.Joined.{joined}
use Rattle.show_page.specs.declared.fixed.TheConstants.{BEFORE_TITLE, BEFORE_HEADING, BEFORE_PICTURE, BEFORE_PICTURE_NAME}
use Rattle.show_page.specs.declared.fixed.TheConstants.{BEFORE_SHEET, BEFORE_ANSWER, BEFORE_PUZZLE, BEFORE_LIST}
use Rattle.show_page.specs.declared.fixed.TheConstants.{BEFORE_CERTIFICATE, LAST}

-- what stands in the holes; counts and rows have fixed text of their own
pub record Holes : Type 0 where
  pub title : List ℕ
  pub counts : List ℕ
  pub picture : List ℕ
  pub picture_name : List ℕ
  pub sheet : List ℕ
  pub rows : List ℕ
  pub answer : List ℕ
  pub puzzle : List ℕ
  pub list : List ℕ
  pub certificate : List ℕ

-- the title stands at two places
abbrev pub page_pieces : Holes → List (List ℕ)
page_pieces h =
    BEFORE_TITLE.now ∷ h.title ∷ BEFORE_HEADING.now ∷ h.title ∷ h.counts
    ∷ BEFORE_PICTURE.now ∷ h.picture ∷ BEFORE_PICTURE_NAME.now ∷ h.picture_name ∷ BEFORE_SHEET.now ∷ h.sheet
    ∷ h.rows ∷ BEFORE_ANSWER.now ∷ h.answer
    ∷ BEFORE_PUZZLE.now ∷ h.puzzle ∷ BEFORE_LIST.now ∷ h.list ∷ BEFORE_CERTIFICATE.now ∷ h.certificate ∷ LAST.now ∷ []

-- the bytes of a page
unfoldable pub page_text : Holes → List ℕ
page_text h = joined (page_pieces h)
