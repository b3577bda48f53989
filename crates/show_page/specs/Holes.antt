-- What stands in the holes of a page.
use Rattle.std.specs.Prelude.{ℕ, List, ◌==◌, if◌then◌else◌, codes, decimal}
use Rattle.show_page.specs.Counts.{counts_text}
use Rattle.show_page.specs.Pages.{Holes}
use Rattle.show_page.specs.Rows.{rows_text}
use Rattle.show_page.specs.Texts.{ThreeTexts, inside}
use Rattle.show_page.specs.Titles.{escaped}
use Rattle.show_page.specs.declared.counts.PageCounts.{PageCounts}
use Rattle.show_page.specs.declared.pages.Fillings.{Fillings}

-- what the first picture shows, by how many arrangements are listed
abbrev pub picture_name : (listed : ℕ) → List ℕ
picture_name listed = if listed == 0 then codes "The puzzle: its board and its tiles" else codes "Arrangement 0"

-- The title, escaped; the counts; the first picture and the sheet; a row for each text; how many are listed, as the
-- answer says it; and each text that isn't too large.
abbrev pub holes_of : (title : List ℕ) → ThreeTexts → PageCounts → (first sheet : List ℕ) → Holes
holes_of title texts counts first sheet =
    record {
      title = escaped title;
      counts = counts_text counts;
      picture = first;
      picture_name = picture_name counts.listed;
      sheet = sheet;
      rows = rows_text texts;
      answer = decimal counts.listed;
      puzzle = inside texts.puzzle;
      list = inside texts.list;
      certificate = inside texts.certificate;
    }

-- the holes, by what is written into them
abbrev pub holes_with : Fillings → Holes
holes_with f =
    record {
      title = f.title.now;
      counts = f.counts.now;
      picture = f.picture.now;
      picture_name = f.picture_name.now;
      sheet = f.sheet.now;
      rows = f.rows.now;
      answer = f.answer.now;
      puzzle = f.puzzle.now;
      list = f.list.now;
      certificate = f.certificate.now;
    }
