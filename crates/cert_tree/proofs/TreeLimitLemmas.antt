-- Trees within limits, level by level and child by child.
use Rattle.std.proofs.Common.{◌≡◌, ◌≢◌, ℕ, zero, suc, ◌+◌, ◌*◌, ◌-◌, ◌<◌, ◌≤◌, Bool, true, false, List, length, get_or, drop, refl, sym, subst, arith}
use Rattle.std.specs.Prelude.{MatchBool}
use Rattle.match_puzzle.specs.declared.items.Item.{Item}
use Rattle.match_limits.specs.declared.TheConstants.{MOST_CELLS}
use Rattle.cert_tree.specs.declared.nodes.Node.{Node}
use Rattle.cert_tree.specs.Tree.{Tree, Forest, branch, dead, found, same, image, none, more, tree_of, forest_of, IsNarrow, AreNarrow}
use Rattle.cert_tree.specs.Limits.{HasLevels, HaveLevels, IsItemWithin, IsTreeWithin, AreTreesWithin, AreChildrenWithin}
use Rattle.cert_tree.proofs.TreeLemmas.{count-forest_of, forest_of-drop}

-- ---- a level

pub branch_parts : (cells room : ℕ) (item : Item) (children : Forest) → IsTreeWithin cells room (branch item children) → IsItemWithin cells item × AreChildrenWithin cells (room - 1) children
branch_parts cells zero item children fits = absurd fits
branch_parts cells (suc room) item children fits =
    let less : suc room - 1 ≡ room = omega arith in
    (fits.0, subst (λ r. AreChildrenWithin cells r children) (sym less) (fits.1, fits.2, fits.3))

branch_again : (cells room : ℕ) (item : Item) (children : Forest) → room ≢ 0 → IsItemWithin cells item → AreChildrenWithin cells (room - 1) children → IsTreeWithin cells room (branch item children)
branch_again cells zero item children some fits all = absurd (some refl)
branch_again cells (suc room) item children some fits all =
    let less : suc room - 1 ≡ room = omega arith in
    let below = subst (λ r. AreChildrenWithin cells r children) less all in
    (fits, below.0, below.1, below.2)

-- a branch is within limits where its children are
pub branch_by_children : (cells room : ℕ) (item : Item) (children : Forest) (b : Bool) → room ≢ 0 → IsItemWithin cells item → MatchBool b (AreChildrenWithin cells (room - 1) children) (AreChildrenWithin cells (room - 1) children → ⊥)
    → MatchBool b (IsTreeWithin cells room (branch item children)) (IsTreeWithin cells room (branch item children) → ⊥)
branch_by_children cells room item children true some fits all = branch_again cells room item children some fits all
branch_by_children cells room item children false some fits not = λ within. not (branch_parts cells room item children within).1

-- a tree within the limits of its text is narrow
mutual
  pub narrow_within : (cells : ℕ) → cells ≤ MOST_CELLS → (room : ℕ) (tree : Tree) → IsTreeWithin cells room tree → IsNarrow tree
  narrow_within cells few zero tree fits = absurd fits
  narrow_within cells few (suc room) (branch item children) fits = (omega (arith, fits.2, few), all_narrow_within cells few room children fits.3)
  narrow_within cells few (suc room) (dead item) fits = tt
  narrow_within cells few (suc room) (found number) fits = tt
  narrow_within cells few (suc room) (same lemma) fits = tt
  narrow_within cells few (suc room) (image lemma symmetry) fits = tt

  all_narrow_within : (cells : ℕ) → cells ≤ MOST_CELLS → (room : ℕ) (trees : Forest) → AreTreesWithin cells room trees → AreNarrow trees
  all_narrow_within cells few room none fits = tt
  all_narrow_within cells few room (more tree trees) fits = (narrow_within cells few room tree fits.0, all_narrow_within cells few room trees fits.1)

-- a tree within the limits of its text has no more levels than these allow
mutual
  pub levels_within : (cells room : ℕ) (tree : Tree) → IsTreeWithin cells room tree → HasLevels room tree
  levels_within cells zero tree fits = absurd fits
  levels_within cells (suc room) (branch item children) fits = all_levels_within cells room children fits.3
  levels_within cells (suc room) (dead item) fits = tt
  levels_within cells (suc room) (found number) fits = tt
  levels_within cells (suc room) (same lemma) fits = tt
  levels_within cells (suc room) (image lemma symmetry) fits = tt

  all_levels_within : (cells room : ℕ) (trees : Forest) → AreTreesWithin cells room trees → HaveLevels room trees
  all_levels_within cells room none fits = tt
  all_levels_within cells room (more tree trees) fits = (levels_within cells room tree fits.0, all_levels_within cells room trees fits.1)

-- ---- a child

pub first_child : (cells room : ℕ) (nodes : List Node) (i : ℕ) (d : Node) → i < length nodes → AreTreesWithin cells room (forest_of (drop i nodes)) → IsTreeWithin cells room (tree_of (get_or nodes i d)) × AreTreesWithin cells room (forest_of (drop (i + 1) nodes))
first_child cells room nodes i d lt all = subst (AreTreesWithin cells room) (forest_of-drop nodes i d lt) all

pub more_children : (cells room : ℕ) (nodes : List Node) (i : ℕ) (d : Node) → i < length nodes → IsTreeWithin cells room (tree_of (get_or nodes i d)) → AreTreesWithin cells room (forest_of (drop (i + 1) nodes)) → AreTreesWithin cells room (forest_of (drop i nodes))
more_children cells room nodes i d lt one others = subst (AreTreesWithin cells room) (sym (forest_of-drop nodes i d lt)) (one, others)

-- so many nodes are children by their limits
pub children_by_nodes : (cells room : ℕ) (nodes : List Node) (b : Bool) → 0 < length nodes → length nodes ≤ 4 * cells → MatchBool b (AreTreesWithin cells room (forest_of nodes)) (AreTreesWithin cells room (forest_of nodes) → ⊥)
    → MatchBool b (AreChildrenWithin cells room (forest_of nodes)) (AreChildrenWithin cells room (forest_of nodes) → ⊥)
children_by_nodes cells room nodes true some few all = (omega (arith, some, count-forest_of nodes), omega (arith, few, count-forest_of nodes), all)
children_by_nodes cells room nodes false some few not = λ within. not within.2

pub too_many : (cells room : ℕ) (nodes : List Node) → 4 * cells < length nodes → AreChildrenWithin cells room (forest_of nodes) → ⊥
too_many cells room nodes many within = omega (arith, many, within.1, count-forest_of nodes)

pub too_few : (cells room : ℕ) (nodes : List Node) → length nodes ≤ 0 → AreChildrenWithin cells room (forest_of nodes) → ⊥
too_few cells room nodes few within = omega (arith, few, within.0, count-forest_of nodes)
