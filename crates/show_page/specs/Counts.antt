-- How a page tells how many arrangements there are.
use Rattle.std.specs.Prelude.{ℕ, List, [], ◌∷◌, decimal}
use Rattle.show_page.specs.Joined.{joined}
use Rattle.show_page.specs.declared.counts.PageCounts.{PageCounts}
use Rattle.show_page.specs.declared.fixed.TheConstants.{BEFORE_ARRANGEMENTS, BEFORE_PICTURES, BEFORE_ORBITS}
use Rattle.show_page.specs.declared.fixed.TheConstants.{BEFORE_SYMMETRIES, BEFORE_LISTED}

-- these numbers, each behind what the page says of it
unfoldable pub counts_with : (arrangements pictures orbits symmetries listed : List ℕ) → List ℕ
counts_with arrangements pictures orbits symmetries listed =
    joined (BEFORE_ARRANGEMENTS.now ∷ arrangements ∷ BEFORE_PICTURES.now ∷ pictures ∷ BEFORE_ORBITS.now ∷ orbits
    ∷ BEFORE_SYMMETRIES.now ∷ symmetries ∷ BEFORE_LISTED.now ∷ listed ∷ [])

-- the counts in decimal
abbrev pub counts_text : PageCounts → List ℕ
counts_text counts =
    counts_with (decimal counts.count.arrangements) (decimal counts.count.pictures) (decimal counts.count.orbits)
    (decimal counts.symmetries) (decimal counts.listed)
