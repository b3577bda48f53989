-- What a search comes to.
use Rattle.std.specs.Prelude.{◌≡◌, ◌<◌, ◌≤◌, ℕ, Bool, true, false, List, Contains, length}
use Rattle.match_limits.specs.declared.TheConstants.{MOST_ARRANGEMENTS, MOST_CELLS, MOST_LEMMAS, MOST_LEVELS, MOST_SYMMETRIES}
use Rattle.match_puzzle.specs.declared.placements.Placement.{Placement}
use Rattle.match_puzzle.specs.declared.placements.Pair.{Pair}
use Rattle.cert_tree.specs.Tree.{Tree, tree_of}
use Rattle.cert_tree.specs.Limits.{HasLevels, IsTreeWithin}
use Rattle.xcc_form.specs.Options.{Compiled}
use Rattle.xcc_form.specs.Chosen.{Selection, Picks}
use Rattle.xcc_dance.specs.Placing.{ArePairsOf, IsArrangementWith}
use Rattle.xcc_dance.specs.Found.{branch_count, IsFoundBelow}
use Rattle.xcc_dance.specs.SearchTree.{Answers, IsSearchTree}
use Rattle.xcc_dance.specs.Unfinished.{IsUnfinished}
use Rattle.xcc_dance.specs.declared.cites.Cite.{Cite}
use Rattle.xcc_dance.specs.declared.cites.Cite.TheVariants.{Same, Image}
use Rattle.xcc_dance.specs.declared.searches.Outcome.{Outcome}
use Rattle.xcc_dance.specs.declared.searches.Outcome.TheVariants as plain
use Rattle.xcc_dance.specs.declared.searches.PackedOutcome.{PackedOutcome}
use Rattle.xcc_dance.specs.declared.searches.PackedOutcome.TheVariants as packed

-- The numbers are those of lemmas and symmetries that a certificate may have.
abbrev pub IsCiteWithin : Cite → Type 0
IsCiteWithin (Same lemma) = lemma < MOST_LEMMAS
IsCiteWithin (Image lemma symmetry) = (lemma < MOST_LEMMAS) × (symmetry < MOST_SYMMETRIES)

-- a search: its engine, which keeps what is chosen, how many branch nodes its last run made, and whether it failed
pub record SearchState (S : Type 0) : Type 0 where
  pub engine : S
  pub branches : ℕ
  pub failed : Bool

-- What was found are arrangements that extend the prefix, and the tree names them by number. The tree has `branches`
-- branch nodes, and no more levels than a lemma's text may have. It is within all limits of that text where no more was
-- found than may be listed.
pub record IsSearched (x : Compiled) (prefix : List Pair) (tree : Tree) (found : List (List Placement))
    (branches : ℕ) : Type 0 where
  pub found_are : (a : List Placement) → Contains found a → IsArrangementWith x.puzzle prefix a
  pub numbers : IsFoundBelow (length found) tree
  pub branch_nodes : branch_count tree ≡ branches
  pub levels : HasLevels MOST_LEVELS tree
  pub within : length found ≤ MOST_ARRANGEMENTS → IsTreeWithin MOST_CELLS MOST_LEVELS tree

-- All was found, and the engine is what it was, with link arrays each link and each size.
abbrev pub IsDone : {S : Type 0} → (selection : S → Selection) → (before after : SearchState S) → List Pair → Tree
    → (found : List (List Placement)) → Type 0
IsDone selection before after prefix tree found =
    IsSearched (selection after.engine).compiled prefix tree found after.branches
    × (after.engine ≡ before.engine) × (after.failed ≡ false)

-- Just the fuel was spent, and the search failed.
abbrev pub IsGivenUp : {S : Type 0} → (after : SearchState S) → (fuel : ℕ) → Type 0
IsGivenUp after fuel = (after.branches ≡ fuel) × (after.failed ≡ true)

-- The outcome of a run, by what the search was before and is then.
abbrev pub IsOutcome : {S : Type 0} → (selection : S → Selection) → (before after : SearchState S) → List Pair
    → (fuel : ℕ) → Outcome → Type 0
IsOutcome selection before after prefix fuel (plain.Done tree found) =
    IsDone selection before after prefix (tree_of tree) found.items
IsOutcome selection before after prefix fuel plain.GaveUp = IsGivenUp after fuel

-- The outcome of a run with a packed tree, by what the search was before and is then.
abbrev pub IsPackedOutcome : {S : Type 0} → (selection : S → Selection) → (before after : SearchState S) → List Pair
    → (fuel : ℕ) → PackedOutcome → Type 0
IsPackedOutcome selection before after prefix fuel (packed.Done tree found) =
    IsDone selection before after prefix tree found.items
IsPackedOutcome selection before after prefix fuel packed.GaveUp = IsGivenUp after fuel

-- The tree is that of a search from the options of the prefix.
abbrev pub IsTreeFrom : Picks → Answers → Compiled → List Pair → Tree → (found : List (List Placement)) → Type 0
IsTreeFrom picks answers x prefix tree found = (chosen : List ℕ) × ArePairsOf x chosen prefix
    × IsSearchTree picks answers found (record { compiled = x; chosen = chosen }) tree

-- A search from these options is unfinished after `nodes` branch nodes.
abbrev pub IsUnfinishedFrom : Picks → Answers → Compiled → List Pair → (nodes : ℕ) → Type 0
IsUnfinishedFrom picks answers x prefix nodes = (chosen : List ℕ) × ArePairsOf x chosen prefix
    × ((all : List (List Placement)) × IsUnfinished picks answers all (record { compiled = x; chosen = chosen }) nodes)

-- The tree that a run came to is that of a search from the options of the prefix. Where it gave up, such a search is
-- unfinished after as many branch nodes as there was fuel.
abbrev pub IsSearchOf : Picks → Answers → Compiled → List Pair → (fuel : ℕ) → Outcome → Type 0
IsSearchOf picks answers x prefix fuel (plain.Done tree found) =
    IsTreeFrom picks answers x prefix (tree_of tree) found.items
IsSearchOf picks answers x prefix fuel plain.GaveUp = IsUnfinishedFrom picks answers x prefix fuel

-- The packed tree that a run came to is that of a search from the options of the prefix. Where it gave up, such a search
-- is unfinished after as many branch nodes as there was fuel.
abbrev pub IsPackedSearchOf : Picks → Answers → Compiled → List Pair → (fuel : ℕ) → PackedOutcome → Type 0
IsPackedSearchOf picks answers x prefix fuel (packed.Done tree found) =
    IsTreeFrom picks answers x prefix tree found.items
IsPackedSearchOf picks answers x prefix fuel packed.GaveUp = IsUnfinishedFrom picks answers x prefix fuel
