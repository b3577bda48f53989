-- What fits beside pairs that are placed, by rows and by counts.
use Rattle.std.specs.Prelude.{ℕ}
use Rattle.match_puzzle.specs.Prefix.{Layout, with_pair}
use Rattle.match_puzzle.specs.declared.placements.Pair.{Pair}
use Rattle.fit_counts.specs.FitRows.{AreRows, AreRowsBeside}
use Rattle.fit_counts.specs.FitSizes.{AreSizes, AreSizesOf, AreCovered, FitsPair, FitsElsewhere, FitsBeside}
use Rattle.fit_counts.specs.declared.placing.Counts.{Counts}

-- the partial arrangement with one pair more
abbrev pub with_one : Layout → Pair → Layout
with_one v x = record { puzzle = v.puzzle; placed = with_pair v.placed x.cell x.placement }

-- Rows and counts are those of what is placed.
pub record AreCounts (v : Layout) (counts : Counts) : Type 0 where
  pub rows : AreRows v.puzzle v.placed counts.rows
  pub sizes : AreSizes v.puzzle v.placed counts.sizes.items

-- Where the pair is placed, the other pairs of its cell are counted no more, and those of its tile still are.
pub record AreCountsElsewhere (v : Layout) (x : Pair) (counts : Counts) : Type 0 where
  pub open_items : AreSizesOf v.puzzle (with_pair v.placed x.cell x.placement) (FitsElsewhere v.puzzle v.placed x)
      counts.sizes.items
  pub settled : AreCovered v.puzzle v.placed counts.sizes.items

-- Where the pair is placed, rows and counts have of other cells and tiles what goes with its first `sides` sides.
pub record AreCountsBeside (v : Layout) (x : Pair) (sides : ℕ) (counts : Counts) : Type 0 where
  pub rows : AreRowsBeside v.puzzle v.placed x sides counts.rows
  pub open_items : AreSizesOf v.puzzle (with_pair v.placed x.cell x.placement) (FitsBeside v.puzzle v.placed x sides)
      counts.sizes.items
  pub settled : AreCovered v.puzzle v.placed counts.sizes.items

-- Rows and counts are those with the pair placed, but that its cell and its tile are not marked as covered yet.
pub record AreCountsToCover (v : Layout) (x : Pair) (counts : Counts) : Type 0 where
  pub rows : AreRows v.puzzle (with_pair v.placed x.cell x.placement) counts.rows
  pub open_items : AreSizesOf v.puzzle (with_pair v.placed x.cell x.placement)
      (FitsPair v.puzzle (with_pair v.placed x.cell x.placement)) counts.sizes.items
  pub settled : AreCovered v.puzzle v.placed counts.sizes.items
