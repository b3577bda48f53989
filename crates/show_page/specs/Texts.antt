-- The texts of a list, and where a page has them.
use Rattle.std.specs.Prelude.{ℕ, List, [], codes, if◌then◌else◌, length, nat_le}
use Rattle.show_page.specs.declared.texts.ListTexts.{ListTexts}
use Rattle.show_page.specs.declared.texts.TheConstants.{MOST_INSIDE}

-- the bytes of the three texts
pub record ThreeTexts : Type 0 where
  pub puzzle : List ℕ
  pub list : List ℕ
  pub certificate : List ℕ

abbrev pub texts_of : ListTexts → ThreeTexts
texts_of texts = record { puzzle = texts.puzzle.now; list = texts.list.now; certificate = texts.certificate.now }

-- where a text is
abbrev pub place : List ℕ → List ℕ
place text = if nat_le (length text) MOST_INSIDE then codes "this page" else codes "a file beside this page"

-- what the page itself has of a text: its bytes as they are, or nothing where they are too many for that
abbrev pub inside : List ℕ → List ℕ
inside text = if nat_le (length text) MOST_INSIDE then text else []
