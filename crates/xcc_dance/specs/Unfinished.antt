-- A search that isn't done.
use Rattle.std.specs.Prelude.{◌≡◌, ◌<◌, ◌+◌, ℕ, List, None}
use Rattle.match_limits.specs.Listing.{IsListing}
use Rattle.match_puzzle.specs.declared.placements.Placement.{Placement}
use Rattle.match_puzzle.specs.declared.placements.Pair.{Pair}
use Rattle.cert_tree.specs.Tree.{Forest}
use Rattle.xcc_form.specs.ExactCover.{Cover}
use Rattle.xcc_form.specs.Options.{cover_of}
use Rattle.xcc_form.specs.Clashes.{IsOpenAt}
use Rattle.xcc_form.specs.Chosen.{Selection, with_option, Picks}
use Rattle.xcc_dance.specs.Placing.{ArePairsOf}
use Rattle.xcc_dance.specs.Found.{branch_total}
use Rattle.xcc_dance.specs.SearchTree.{Answers, AreChildren}

-- what is made of the tree of a search, up to a branch node that is wanted
pub data Part : Type 0 where
  -- a branch on the item with this number is wanted
  wanted : (number : ℕ) → Part
  -- a branch on the item with this number: the trees of its first children, and the part of the next one
  begun : (number : ℕ) → (done : Forest) → (next : Part) → Part

-- how many branch nodes it has
abbrev pub made : Part → ℕ
made (wanted number) = 0
made (begun number done next) = branch_total done + made next + 1

-- It was answered that nothing stands for the choices.
abbrev pub IsNotCited : Answers → Selection → Type 0
IsNotCited answers s = (pairs : List Pair) × ArePairsOf s.compiled s.chosen pairs × answers pairs None

-- all open options of the item below this one, rising
abbrev pub AreOpenBelow : Cover → (chosen : List ℕ) → (item bound : ℕ) → (options : List ℕ) → Type 0
AreOpenBelow x chosen item bound options =
    IsListing ◌<◌ (λ option. (option < bound) × IsOpenAt x chosen item option) options

-- The trees are children of these choices, one for each of the item's open options below the next one, rising. Nothing
-- was cited for the child of the next one, which is searched.
pub record AreFirstChildren (picks : Picks) (answers : Answers) (all : List (List Placement)) (s : Selection)
    (number : ℕ) (trees : Forest) (Searched : Selection → Type 0) : Type 0 where
  pub options : List ℕ
  pub next : ℕ
  pub below : AreOpenBelow (cover_of s.compiled) s.chosen number next options
  pub children : AreChildren picks answers all s options trees
  pub next_open : IsOpenAt (cover_of s.compiled) s.chosen number next
  pub not_cited : IsNotCited answers (with_option s next)
  pub searched : Searched (with_option s next)

-- It is a part of the tree of a search from these choices. Each branch, the wanted one too, is on an item that the rule
-- may pick and that has an open option.
abbrev pub IsPartOfSearch : Picks → Answers → List (List Placement) → Selection → Part → Type 0
IsPartOfSearch picks answers all s (wanted number) = picks s number
    × ((option : ℕ) × IsOpenAt (cover_of s.compiled) s.chosen number option)
IsPartOfSearch picks answers all s (begun number done next) = picks s number
    × AreFirstChildren picks answers all s number done (λ t. IsPartOfSearch picks answers all t next)

-- A search from these choices is unfinished after `nodes` branch nodes: another one is wanted.
abbrev pub IsUnfinished : Picks → Answers → List (List Placement) → Selection → (nodes : ℕ) → Type 0
IsUnfinished picks answers all s nodes = (part : Part) × IsPartOfSearch picks answers all s part × (made part ≡ nodes)

-- The children of a branch on the item with this number are unfinished after `nodes` branch nodes.
abbrev pub AreUnfinished : Picks → Answers → List (List Placement) → Selection → (number nodes : ℕ) → Type 0
AreUnfinished picks answers all s number nodes = (done : Forest) × (next : Part)
    × AreFirstChildren picks answers all s number done (λ t. IsPartOfSearch picks answers all t next)
    × (branch_total done + made next ≡ nodes)
