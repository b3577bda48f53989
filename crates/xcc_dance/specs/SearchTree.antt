-- The tree of a search, node by node.
use Rattle.std.specs.Prelude.{◌≡◌, ◌⊎◌, ℕ, List, [], ◌∷◌, Option, None, Some, slice_get}
use Rattle.match_board.specs.Board.{cell_count}
use Rattle.match_puzzle.specs.declared.placements.Placement.{Placement}
use Rattle.match_puzzle.specs.declared.placements.Pair.{Pair}
use Rattle.match_puzzle.specs.declared.items.Item.{Item}
use Rattle.cert_tree.specs.Tree.{Tree, Forest, branch, dead, found, same, image, none, more}
use Rattle.xcc_form.specs.Options.{cover_of}
use Rattle.xcc_form.specs.Correspondence.{IsSolutionOf}
use Rattle.xcc_form.specs.Chosen.{Selection, Picks, AreOpenAt, with_option}
use Rattle.xcc_dance.specs.Placing.{ArePairsOf}
use Rattle.match_puzzle.specs.Fitting.{IsNumberOf}
use Rattle.xcc_dance.specs.Found.{IsCitation}
use Rattle.xcc_dance.specs.declared.cites.Cite.{Cite}

-- what may be answered for a child, by its pairs in the order of their placing
abbrev pub Answers : Type 1
Answers = List Pair → Option Cite → Type 0

-- The node is about the item with this number, which the rule may pick.
abbrev pub IsAbout : Picks → Selection → (number : ℕ) → Item → Type 0
IsAbout picks s number item = IsNumberOf (cell_count s.compiled.puzzle.board) number item × picks s number

-- The arrangement with this number is the one whose options are chosen.
abbrev pub StandsThere : List (List Placement) → Selection → (number : ℕ) → Type 0
StandsThere all s number = (a : List Placement) × (slice_get all number ≡ Some a) × IsSolutionOf s.compiled a s.chosen

-- The child is what was answered for it; where that is none, it is searched.
abbrev pub IsAnswered : Answers → Selection → Tree → (Searched : Type 0) → Type 0
IsAnswered answers s tree Searched = (pairs : List Pair) × ArePairsOf s.compiled s.chosen pairs
    × (((cite : Cite) × answers pairs (Some cite) × IsCitation cite tree) ⊎ (answers pairs None × Searched))

abbrev mutual
  -- It is the tree of a search from these choices. A branch and a dead end are about an item that the rule may pick: the
  -- branch has a child for each of its open options, rising, and there is none at the dead end. A found node has the
  -- number of the arrangement that stands there.
  pub IsSearchTree : Picks → Answers → List (List Placement) → Selection → Tree → Type 0
  IsSearchTree picks answers all s (branch item children) = (number : ℕ) × IsAbout picks s number item
      × ((options : List ℕ) × AreOpenAt (cover_of s.compiled) s.chosen number options
      × AreChildren picks answers all s options children)
  IsSearchTree picks answers all s (dead item) = (number : ℕ) × IsAbout picks s number item
      × AreOpenAt (cover_of s.compiled) s.chosen number []
  IsSearchTree picks answers all s (found number) = StandsThere all s number
  IsSearchTree picks answers all s (same lemma) = ⊥
  IsSearchTree picks answers all s (image lemma symmetry) = ⊥

  -- They are children of these choices, one for each of the options, in their order.
  pub AreChildren : Picks → Answers → List (List Placement) → Selection → List ℕ → Forest → Type 0
  AreChildren picks answers all s [] none = Unit {0}
  AreChildren picks answers all s [] (more tree trees) = ⊥
  AreChildren picks answers all s (option ∷ options) none = ⊥
  AreChildren picks answers all s (option ∷ options) (more tree trees) =
      IsAnswered answers (with_option s option) tree (IsSearchTree picks answers all (with_option s option) tree)
      × AreChildren picks answers all s options trees

-- what was answered for these choices, or else the tree of a search from them
abbrev pub IsChild : Picks → Answers → List (List Placement) → Selection → Tree → Type 0
IsChild picks answers all s tree = IsAnswered answers s tree (IsSearchTree picks answers all s tree)

-- There is a child for each open option of the item with this number, rising.
abbrev pub AreBranchesOf : Picks → Answers → List (List Placement) → Selection → (number : ℕ) → Forest → Type 0
AreBranchesOf picks answers all s number children = (options : List ℕ)
    × AreOpenAt (cover_of s.compiled) s.chosen number options × AreChildren picks answers all s options children
