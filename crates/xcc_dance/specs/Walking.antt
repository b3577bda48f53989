-- How the walk of a search goes on, and how it ends.
use Rattle.std.specs.Prelude.{◌≡◌, ◌<◌, ◌≤◌, ◌+◌, ◌*◌, ◌^◌, ℕ, Bool, List, Result, IfOk, MatchBool, length}
use Rattle.std.specs.declared.alloc.AllocError.{AllocError}
use Rattle.match_limits.specs.declared.TheConstants.{MOST_CELLS, MOST_CHILDREN}
use Rattle.match_board.specs.Board.{cell_count}
use Rattle.match_puzzle.specs.Fitting.{IsNumberOf}
use Rattle.match_puzzle.specs.declared.placements.Pair.{Pair}
use Rattle.fit_counts.specs.Placing.{FitInTurn}
use Rattle.xcc_form.specs.Options.{cover_of}
use Rattle.xcc_form.specs.Chosen.{Selection, Picks, IsSelection, IsUncovered, HasSize}
use Rattle.xcc_dance.specs.Progress.{GoesOn, IsTreeOf, AreTreesOf, PutsTree, PutsTrees}
use Rattle.xcc_dance.specs.SearchTree.{Answers, IsSearchTree, IsChild, AreBranchesOf}
use Rattle.xcc_dance.specs.Unfinished.{IsNotCited, IsUnfinished, AreUnfinished}
use Rattle.xcc_dance.specs.declared.paths.Branch.{Branch}
use Rattle.xcc_dance.specs.declared.progress.Progress.{Progress}

-- The rule may branch on this uncovered item, which has the number `node.number` and `node.size` open options.
pub record IsBranchAt (picks : Picks) (s : Selection) (node : Branch) : Type 0 where
  pub right : IsSelection s.compiled s.chosen
  pub uncovered : IsUncovered (cover_of s.compiled) s.chosen node.number
  pub picked : picks s node.number
  pub sized : HasSize (cover_of s.compiled) s.chosen node.number node.size
  pub number : IsNumberOf (cell_count s.compiled.puzzle.board) node.number node.about
  pub most : cell_count s.compiled.puzzle.board ≤ MOST_CELLS
  pub few : node.number < 2 * cell_count s.compiled.puzzle.board

-- A walk may begin: it may ask about all pairs that fit in turn, and numbers of 32 bits are enough for what was found,
-- all that it may find with its fuel, and `more` beyond that.
pub record MayWalk (s : Selection) (Takes : List Pair → Type 0) (progress : Progress) (more : ℕ) : Type 0 where
  pub takes : (pairs : List Pair) → FitInTurn s.compiled.puzzle pairs → Takes pairs
  pub room : length progress.found.items + MOST_CHILDREN * progress.fuel + more < 2 ^ 32

-- What a walk leaves, whichever way it returns: the puzzle as it was, whoever was asked changed as it may be, and
-- progress that goes on from before.
pub record WalksOn {E C : Type 0} (selection : E → Selection) (moves : C → C → Type 0) (old new : E) (asked told : C)
    (before after : Progress) : Type 0 where
  pub compiled : (selection new).compiled ≡ (selection old).compiled
  pub moved : moves asked told
  pub goes_on : GoesOn (selection old) before after

-- How a walk ends where memory wasn't refused: what is chosen is as before and something is made, or no fuel is left and
-- something is unfinished.
abbrev pub Ends : {E : Type 0} → (old new : E) → (after : Progress) → (Made Unfinished : Type 0)
    → Result Bool AllocError → Type 0
Ends old new after Made Unfinished result =
    IfOk result (λ done. MatchBool done ((new ≡ old) × Made) ((after.fuel ≡ 0) × Unfinished))

-- The walk ends with the tree of a search from what was chosen, or unfinished.
abbrev pub EndsAsTree : {E : Type 0} → (E → Selection) → Picks → Answers → (old new : E) → (before after : Progress)
    → Result Bool AllocError → Type 0
EndsAsTree selection picks answers old new before after = Ends old new after
    (PutsTree before after (λ t. IsTreeOf (selection old) before after t
    × IsSearchTree picks answers after.found.items (selection old) t))
    (IsUnfinished picks answers after.found.items (selection old) before.fuel)

-- The walk ends with a child for each open option of the item with this number, or unfinished.
abbrev pub EndsAsBranches : {E : Type 0} → (E → Selection) → Picks → Answers → (number : ℕ) → (old new : E)
    → (before after : Progress) → Result Bool AllocError → Type 0
EndsAsBranches selection picks answers number old new before after = Ends old new after
    (PutsTrees before after (λ ts. AreTreesOf (selection old) before after ts
    × AreBranchesOf picks answers after.found.items (selection old) number ts))
    (AreUnfinished picks answers after.found.items (selection old) number before.fuel)

-- The walk ends with what stands for the choices as a child, or unfinished.
abbrev pub EndsAsChild : {E : Type 0} → (E → Selection) → Picks → Answers → (old new : E) → (before after : Progress)
    → Result Bool AllocError → Type 0
EndsAsChild selection picks answers old new before after = Ends old new after
    (PutsTree before after (λ t. IsTreeOf (selection old) before after t
    × IsChild picks answers after.found.items (selection old) t))
    (IsNotCited answers (selection old) × IsUnfinished picks answers after.found.items (selection old) before.fuel)
