-- What may be wrong with a tree at a prefix, and where.
use Rattle.std.specs.Prelude.{◌≡◌, ◌≢◌, ◌⊎◌, ◌≤◌, ℕ, zero, suc, List, [], ◌∷◌, Some, length, map, slice_get}
use Rattle.match_board.specs.Board.{cell_count}
use Rattle.match_limits.specs.First.{Rank, IsFirst, rank_by}
use Rattle.match_puzzle.specs.Puzzle.{Task, AllHaveToStand}
use Rattle.match_puzzle.specs.Prefix.{Prefix, Has, IsFree, IsUsed, IsWithin, with_pair}
use Rattle.match_puzzle.specs.Fitting.{AreFitting}
use Rattle.match_puzzle.specs.declared.items.Item.{Item}
use Rattle.match_puzzle.specs.declared.items.Item.TheVariants.{Cell, Tile}
use Rattle.match_puzzle.specs.declared.placements.Placement.{Placement}
use Rattle.match_puzzle.specs.declared.placements.Pair.{Pair}
use Rattle.puzzle_symmetry.specs.Images.{IsImageWithin}
use Rattle.match_board.specs.declared.symmetry_lines.SymmetryLine.{SymmetryLine}
use Rattle.cert_check.specs.declared.faults.NodeFault.{NodeFault}
use Rattle.cert_check.specs.declared.faults.NodeFault.TheVariants.{CellRange, CellTaken, TileSpare, TileRange, TileTaken}
use Rattle.cert_check.specs.declared.faults.NodeFault.TheVariants.{WrongCount, NotDead, NotWhole, ListRange, NotListed}
use Rattle.cert_check.specs.declared.faults.NodeFault.TheVariants.{NotEarlier, SymmetryRange, NotWithin}
use Rattle.cert_check.specs.Setting.{Setting}
use Rattle.cert_tree.specs.Tree.{Tree, Forest, branch, dead, found, same, image, none, more, count}
use Rattle.cert_check.specs.NodeRules.{IsBranch, Holds}

-- The item is none of the puzzle, or it is settled; or it is a tile, and not all have to stand.
abbrev pub ItemFails : Task → Prefix → Item → NodeFault → Type 0
ItemFails p q (Cell cell) CellRange = cell_count p.board ≤ cell
ItemFails p q (Cell cell) CellTaken = (x : Placement) × Has q cell x
ItemFails p q (Tile tile) TileSpare = AllHaveToStand p → ⊥
ItemFails p q (Tile tile) TileRange = length p.words ≤ tile
ItemFails p q (Tile tile) TileTaken = IsUsed q tile
ItemFails p q item fault = ⊥

-- What may be wrong with a branch of `number` children, except in the children themselves.
abbrev pub BranchFails : Task → Prefix → Item → ℕ → NodeFault → Type 0
BranchFails p q item number (WrongCount fits children) =
    (xs : List Pair) × AreFitting p q item xs × (fits ≡ length xs) × (children ≡ number)
    × ((fits ≢ children) ⊎ (children ≡ 0))
BranchFails p q item number fault = ItemFails p q item fault

-- What may be wrong with a dead end.
abbrev pub DeadFails : Task → Prefix → Item → NodeFault → Type 0
DeadFails p q item (NotDead fits) = (xs : List Pair) × AreFitting p q item xs × (fits ≡ length xs) × (fits ≢ 0)
DeadFails p q item fault = ItemFails p q item fault

-- What may be wrong where an arrangement is named as found.
abbrev pub FoundFails : Setting → Prefix → ℕ → NodeFault → Type 0
FoundFails s q number NotWhole = (cell : ℕ) × IsFree q cell
FoundFails s q number ListRange = length s.listed ≤ number
FoundFails s q number NotListed = (a : List Placement) × (slice_get s.listed number ≡ Some a) × (q ≢ map Some a)
FoundFails s q number fault = ⊥

-- What may be wrong where a lemma is cited.
abbrev pub SameFails : Setting → Prefix → ℕ → NodeFault → Type 0
SameFails s q lemma NotEarlier = length s.earlier ≤ lemma
SameFails s q lemma NotWithin = (pairs : List Pair) × (slice_get s.earlier lemma ≡ Some pairs) × (IsWithin pairs q → ⊥)
SameFails s q lemma fault = ⊥

-- What may be wrong where the image of a lemma is cited.
abbrev pub ImageFails : Setting → Prefix → (lemma symmetry : ℕ) → NodeFault → Type 0
ImageFails s q lemma symmetry NotEarlier = length s.earlier ≤ lemma
ImageFails s q lemma symmetry SymmetryRange = length s.symmetries ≤ symmetry
ImageFails s q lemma symmetry NotWithin =
    (pairs : List Pair) × (g : SymmetryLine) × (slice_get s.earlier lemma ≡ Some pairs)
    × (slice_get s.symmetries symmetry ≡ Some g)
    × (IsImageWithin s.puzzle g pairs q → ⊥)
ImageFails s q lemma symmetry fault = ⊥

-- When a fault of the node itself occurs.
abbrev pub NodeFails : Setting → Tree → Prefix → NodeFault → Type 0
NodeFails s (branch item children) q = BranchFails s.puzzle q item (count children)
NodeFails s (dead item) q = DeadFails s.puzzle q item
NodeFails s (found number) q = FoundFails s q number
NodeFails s (same lemma) q = SameFails s q lemma
NodeFails s (image lemma symmetry) q = ImageFails s q lemma symmetry

-- the order of the faults
abbrev pub node_rank : NodeFault → Rank
node_rank TileSpare = rank_by 0
node_rank CellRange = rank_by 1
node_rank CellTaken = rank_by 2
node_rank TileRange = rank_by 3
node_rank TileTaken = rank_by 4
node_rank (WrongCount fits children) = rank_by 5
node_rank (NotDead fits) = rank_by 6
node_rank NotWhole = rank_by 7
node_rank ListRange = rank_by 8
node_rank NotListed = rank_by 9
node_rank NotEarlier = rank_by 10
node_rank SymmetryRange = rank_by 11
node_rank NotWithin = rank_by 12

-- the node's own fault: the first kind that occurs
abbrev pub IsNodeFault : Setting → Tree → Prefix → NodeFault → Type 0
IsNodeFault s tree q = IsFirst node_rank (NodeFails s tree q)

abbrev mutual
  -- The fault at the end of the path is the tree's first, in preorder: each branch on the way is right itself, and the
  -- children before the path's hold.
  pub FailsAt : Setting → Tree → Prefix → List ℕ → NodeFault → Type 0
  FailsAt s tree q [] fault = IsNodeFault s tree q fault
  FailsAt s (branch item children) q (number ∷ path) fault =
      (xs : List Pair) × IsBranch s.puzzle q item (count children) xs × EachFails s children q xs number path fault
  FailsAt s (dead item) q (number ∷ path) fault = ⊥
  FailsAt s (found listed) q (number ∷ path) fault = ⊥
  FailsAt s (same lemma) q (number ∷ path) fault = ⊥
  FailsAt s (image lemma symmetry) q (number ∷ path) fault = ⊥

  -- The child with this number fails so, and the children before it hold.
  pub EachFails : Setting → Forest → Prefix → List Pair → (number : ℕ) → List ℕ → NodeFault → Type 0
  EachFails s none q xs number path fault = ⊥
  EachFails s (more tree trees) q [] number path fault = ⊥
  EachFails s (more tree trees) q (x ∷ xs) zero path fault = FailsAt s tree (with_pair q x.cell x.placement) path fault
  EachFails s (more tree trees) q (x ∷ xs) (suc number) path fault =
      Holds s tree (with_pair q x.cell x.placement) × EachFails s trees q xs number path fault
