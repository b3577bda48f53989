-- Nodes of trees, and what is placed there.
use Rattle.std.specs.Prelude.{◌≡◌, ℕ, List, [], ◌∷◌, Some, slice_get}
use Rattle.match_puzzle.specs.Puzzle.{Task}
use Rattle.match_puzzle.specs.Prefix.{Prefix, with_pair}
use Rattle.match_puzzle.specs.declared.placements.Pair.{Pair}
use Rattle.cert_tree.specs.Tree.{Tree, branch, dead, found, same, image, count}
use Rattle.cert_tree.specs.Heads.{first, past}
use Rattle.cert_check.specs.NodeRules.{IsBranch}

-- The branch's child with this number is the node, and what is placed there is the prefix with one pair more: that with
-- this number among those that fit.
abbrev pub IsChild : Task → Tree → Prefix → (number : ℕ) → (node : Tree) (placed : Prefix) → Type 0
IsChild p (branch item children) q number node placed =
    (xs : List Pair) × IsBranch p q item (count children) xs
    × (x : Pair) × (slice_get xs number ≡ Some x)
    × (node ≡ first (past number children)) × (placed ≡ with_pair q x.cell x.placement)
IsChild p (dead item) q number node placed = ⊥
IsChild p (found listed) q number node placed = ⊥
IsChild p (same lemma) q number node placed = ⊥
IsChild p (image lemma symmetry) q number node placed = ⊥

-- The path, of child numbers from the top of the tree, leads to the node, where this is placed.
abbrev pub LeadsTo : Task → Tree → Prefix → (path : List ℕ) → (node : Tree) (placed : Prefix) → Type 0
LeadsTo p tree q [] node placed = (node ≡ tree) × (placed ≡ q)
LeadsTo p tree q (number ∷ path) node placed =
    (child : Tree) × (there : Prefix) × IsChild p tree q number child there × LeadsTo p child there path node placed

-- It leads to some node.
abbrev pub IsPath : Task → Tree → Prefix → (path : List ℕ) → Type 0
IsPath p tree q path = (node : Tree) × (placed : Prefix) × LeadsTo p tree q path node placed
