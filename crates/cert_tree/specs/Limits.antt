-- Which trees and lemmas are within limits: those of a board of at most `cells` cells and as many tiles.
use Rattle.std.specs.Prelude.{◌≤◌, ◌<◌, ◌+◌, ◌*◌, ℕ, zero, suc, length}
use Rattle.match_limits.specs.declared.TheConstants.{LAST_ARRANGEMENT, LAST_LEMMA, LAST_SYMMETRY, LAST_TURN}
use Rattle.std.specs.List.{AllByRecursion}
use Rattle.match_puzzle.specs.declared.items.Item.{Item}
use Rattle.match_puzzle.specs.declared.items.Item.TheVariants as items
use Rattle.match_puzzle.specs.declared.placements.Pair.{Pair}
use Rattle.cert_tree.specs.Tree.{Tree, Forest, branch, dead, found, same, image, none, more, count}
use Rattle.cert_tree.specs.Certificate.{Piece}

abbrev mutual
  -- The tree has at most `room` levels of nodes.
  pub HasLevels : (room : ℕ) → Tree → Type 0
  HasLevels zero tree = ⊥
  HasLevels (suc room) (branch item children) = HaveLevels room children
  HasLevels (suc room) (dead item) = Unit {0}
  HasLevels (suc room) (found number) = Unit {0}
  HasLevels (suc room) (same lemma) = Unit {0}
  HasLevels (suc room) (image lemma symmetry) = Unit {0}

  pub HaveLevels : (room : ℕ) → Forest → Type 0
  HaveLevels room none = Unit {0}
  HaveLevels room (more tree trees) = HasLevels room tree × HaveLevels room trees

abbrev pub IsItemWithin : (cells : ℕ) → Item → Type 0
IsItemWithin cells (items.Cell cell) = cell < cells
IsItemWithin cells (items.Tile tile) = tile < cells

abbrev mutual
  -- The tree has at most `room` levels, and its numbers are within the limits of a board of at most `cells` cells and
  -- as many tiles. A branch has at most four children for each cell, or each tile.
  pub IsTreeWithin : (cells room : ℕ) → Tree → Type 0
  IsTreeWithin cells zero tree = ⊥
  IsTreeWithin cells (suc room) (branch item children) =
      IsItemWithin cells item × (1 ≤ count children) × (count children ≤ 4 * cells)
      × AreTreesWithin cells room children
  IsTreeWithin cells (suc room) (dead item) = IsItemWithin cells item
  IsTreeWithin cells (suc room) (found number) = number ≤ LAST_ARRANGEMENT
  IsTreeWithin cells (suc room) (same lemma) = lemma ≤ LAST_LEMMA
  IsTreeWithin cells (suc room) (image lemma symmetry) = (lemma ≤ LAST_LEMMA) × (symmetry ≤ LAST_SYMMETRY)

  pub AreTreesWithin : (cells room : ℕ) → Forest → Type 0
  AreTreesWithin cells room none = Unit {0}
  AreTreesWithin cells room (more tree trees) = IsTreeWithin cells room tree × AreTreesWithin cells room trees

-- The children of a branch are at least one and at most as many as it may have, and each is within the limits.
abbrev pub AreChildrenWithin : (cells room : ℕ) → Forest → Type 0
AreChildrenWithin cells room children =
    (1 ≤ count children) × (count children ≤ 4 * cells) × AreTreesWithin cells room children

abbrev pub IsPairWithin : (cells : ℕ) → Pair → Type 0
IsPairWithin cells x = (x.cell < cells) × (x.placement.tile < cells) × (x.placement.turn ≤ LAST_TURN)

-- The lemma is within the limits. Its tree has a level for each cell, and one below them.
pub record IsLemmaWithin (cells : ℕ) (piece : Piece) : Type 0 where
  pub number : piece.number ≤ LAST_LEMMA
  pub few_pairs : length piece.prefix ≤ cells
  pub pairs : AllByRecursion (IsPairWithin cells) piece.prefix
  pub tree : IsTreeWithin cells (cells + 1) piece.tree
