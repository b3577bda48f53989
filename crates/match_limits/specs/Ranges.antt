-- The versions of texts, and the ranges that their numbers have.
use Rattle.std.specs.Prelude.{◌≡◌, ◌⊎◌, ◌≤◌, ◌+◌, ◌*◌, ◌==◌, if◌then◌else◌, ℕ}
use Rattle.match_limits.specs.declared.TheConstants.{MOST_PLAIN_CELLS, MOST_CELLS}
use Rattle.match_limits.specs.declared.ranges.Ranges.{Ranges}
use Rattle.match_limits.specs.declared.ranges.TheConstants.{FIRST, SECOND}

-- There are two versions.
abbrev pub IsVersion : ℕ → Type 0
IsVersion version = (version ≡ 1) ⊎ (version ≡ 2)

-- the ranges of a version
unfoldable pub ranges_of : ℕ → Ranges
ranges_of version = if version == 1 then FIRST else SECOND

-- Each range goes by the most cells, which are at least those of a plain board and at most those of any board.
pub record AreRanges (ranges : Ranges) : Type 0 where
  pub plain : MOST_PLAIN_CELLS ≤ ranges.most_cells
  pub few : ranges.most_cells ≤ MOST_CELLS
  pub last : ranges.last_cell + 1 ≡ ranges.most_cells
  pub rules : ranges.most_rules ≡ 4 * ranges.most_cells
  pub children : ranges.most_children ≡ 4 * ranges.most_cells
  pub levels : ranges.most_levels ≡ ranges.most_cells + 1
