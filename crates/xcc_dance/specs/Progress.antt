-- How a search goes on from a selection.
use Rattle.std.specs.Prelude.{◌≡◌, ◌⊎◌, ◌≤◌, ◌+◌, ◌-◌, ◌*◌, ◌++◌, ℕ, List, Some, Contains, length, slice_get}
use Rattle.match_limits.specs.declared.TheConstants.{MOST_ARRANGEMENTS, MOST_CELLS, MOST_CHILDREN}
use Rattle.match_puzzle.specs.declared.placements.Placement.{Placement}
use Rattle.cert_tree.specs.Heads.{heads_of, heads_in}
use Rattle.cert_tree.specs.Tree.{Tree, Forest, count}
use Rattle.cert_tree.specs.Limits.{HasLevels, HaveLevels, IsTreeWithin, AreTreesWithin}
use Rattle.xcc_form.specs.Chosen.{Selection, IsFoundFrom}
use Rattle.xcc_dance.specs.Found.{branch_count, branch_total, IsFoundBelow, AreFoundBelow}
use Rattle.xcc_dance.specs.declared.progress.Progress.{Progress}

-- how many levels of nodes there can be below the one of these choices: one for each option that may still be chosen
abbrev pub levels_below : Selection → ℕ
levels_below s = MOST_CELLS - length s.chosen

-- Each number names in the one list what it names in the other.
abbrev pub AreKept : (before after : List (List Placement)) → Type 0
AreKept before after = (number : ℕ) (a : List Placement) → slice_get before number ≡ Some a → slice_get after number ≡ Some a

-- The heads of one such tree went behind those before.
abbrev pub PutsTree : (before after : Progress) → (IsSuch : Tree → Type 0) → Type 0
PutsTree before after IsSuch = (tree : Tree) × (after.heads.items ≡ before.heads.items ++ heads_of tree) × IsSuch tree

-- The heads of such trees did, one tree after the other.
abbrev pub PutsTrees : (before after : Progress) → (AreSuch : Forest → Type 0) → Type 0
PutsTrees before after AreSuch = (trees : Forest) × (after.heads.items ≡ before.heads.items ++ heads_in trees) × AreSuch trees

-- Fuel may be spent, and arrangements found that have all chosen options.
pub record GoesOn (s : Selection) (before after : Progress) : Type 0 where
  pub fuel : after.fuel ≤ before.fuel
  pub more : length before.found.items ≤ length after.found.items
  pub kept : AreKept before.found.items after.found.items
  pub found : (a : List Placement) → Contains after.found.items a → Contains before.found.items a ⊎ IsFoundFrom s a

-- The tree of these choices, with a unit of fuel spent for each branch node. What it found is bounded by that fuel: one
-- arrangement, and for each branch node as many more as the node may have children.
pub record IsTreeOf (s : Selection) (before after : Progress) (tree : Tree) : Type 0 where
  pub spent : after.fuel + branch_count tree ≡ before.fuel
  pub numbers : IsFoundBelow (length after.found.items) tree
  pub levels : HasLevels (levels_below s + 1) tree
  pub within : length after.found.items ≤ MOST_ARRANGEMENTS → IsTreeWithin MOST_CELLS (levels_below s + 1) tree
  pub few : length after.found.items + MOST_CHILDREN * after.fuel
      ≤ length before.found.items + MOST_CHILDREN * before.fuel + 1

-- The trees of these choices with one of several options more.
pub record AreTreesOf (s : Selection) (before after : Progress) (trees : Forest) : Type 0 where
  pub spent : after.fuel + branch_total trees ≡ before.fuel
  pub numbers : AreFoundBelow (length after.found.items) trees
  pub levels : HaveLevels (levels_below s) trees
  pub within : length after.found.items ≤ MOST_ARRANGEMENTS → AreTreesWithin MOST_CELLS (levels_below s) trees
  pub few : length after.found.items + MOST_CHILDREN * after.fuel
      ≤ length before.found.items + MOST_CHILDREN * before.fuel + count trees
