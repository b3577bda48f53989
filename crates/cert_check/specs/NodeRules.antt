-- When a tree holds at a prefix. Nothing is said of what it covers.
use Rattle.std.specs.Prelude.{◌≡◌, ◌≢◌, ℕ, List, [], ◌∷◌, Some, length, map, slice_get}
use Rattle.match_puzzle.specs.Puzzle.{Task}
use Rattle.match_puzzle.specs.Prefix.{Prefix, IsWithin, with_pair}
use Rattle.match_puzzle.specs.Fitting.{FitsItem, AreFitting, IsOpen}
use Rattle.match_puzzle.specs.declared.items.Item.{Item}
use Rattle.match_puzzle.specs.declared.placements.Placement.{Placement}
use Rattle.match_puzzle.specs.declared.placements.Pair.{Pair}
use Rattle.puzzle_symmetry.specs.Images.{IsImageWithin}
use Rattle.match_board.specs.declared.symmetry_lines.SymmetryLine.{SymmetryLine}
use Rattle.cert_check.specs.Setting.{Setting}
use Rattle.cert_tree.specs.Tree.{Tree, Forest, branch, dead, found, same, image, none, more, count}

-- The item is one of the puzzle and not settled, and the branch has a child for each pair that fits and settles it, and
-- at least one.
pub record IsBranch (p : Task) (q : Prefix) (item : Item) (children : ℕ) (xs : List Pair) : Type 0 where
  pub unsettled : IsOpen p q item
  pub fitting : AreFitting p q item xs
  pub many : length xs ≡ children
  pub some : children ≢ 0

-- The item is one of the puzzle and not settled, and no pair that settles it fits.
pub record IsDead (p : Task) (q : Prefix) (item : Item) : Type 0 where
  pub unsettled : IsOpen p q item
  pub nothing : (x : Pair) → FitsItem p q item x → ⊥

-- The prefix is the listed arrangement with this number.
abbrev pub IsListedAt : Setting → Prefix → ℕ → Type 0
IsListedAt s q number = (a : List Placement) × (slice_get s.listed number ≡ Some a) × (q ≡ map Some a)

-- An earlier lemma has this number, and its prefix stands in this one.
abbrev pub IsCited : Setting → Prefix → ℕ → Type 0
IsCited s q lemma = (pairs : List Pair) × (slice_get s.earlier lemma ≡ Some pairs) × IsWithin pairs q

-- An earlier lemma and a symmetry have these numbers, and the image of the lemma's prefix stands in this one.
abbrev pub IsCitedByImage : Setting → Prefix → (lemma symmetry : ℕ) → Type 0
IsCitedByImage s q lemma symmetry =
    (pairs : List Pair) × (g : SymmetryLine) × (slice_get s.earlier lemma ≡ Some pairs)
    × (slice_get s.symmetries symmetry ≡ Some g) × IsImageWithin s.puzzle g pairs q

abbrev mutual
  -- The tree holds at the prefix.
  pub Holds : Setting → Tree → Prefix → Type 0
  Holds s (branch item children) q =
      (xs : List Pair) × IsBranch s.puzzle q item (count children) xs × EachHolds s children q xs
  Holds s (dead item) q = IsDead s.puzzle q item
  Holds s (found number) q = IsListedAt s q number
  Holds s (same lemma) q = IsCited s q lemma
  Holds s (image lemma symmetry) q = IsCitedByImage s q lemma symmetry

  -- Each child holds at the prefix with the pair at its place.
  pub EachHolds : Setting → Forest → Prefix → List Pair → Type 0
  EachHolds s none q [] = Unit {0}
  EachHolds s none q (x ∷ xs) = ⊥
  EachHolds s (more tree trees) q [] = ⊥
  EachHolds s (more tree trees) q (x ∷ xs) = Holds s tree (with_pair q x.cell x.placement) × EachHolds s trees q xs
