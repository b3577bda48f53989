-- How options lie in vectors: their pairs by number, and their edges one option after another.
use Rattle.std.specs.Prelude.{◌≡◌, ◌<◌, ◌≤◌, ◌+◌, ◌*◌, ℕ, List, [], ◌∷◌, ◌++◌, Option, Some, length, slice_get, slice_index}
use Rattle.std.specs.Prelude.{slice_range}
use Rattle.match_limits.specs.declared.TheConstants.{MOST_CELLS, MOST_ENTRIES}
use Rattle.match_limits.specs.Listing.{IsListing}
use Rattle.match_puzzle.specs.Puzzle.{Task, IsPuzzle}
use Rattle.match_puzzle.specs.declared.placements.Pair.{Pair}
use Rattle.xcc_form.specs.Options.{Choice, AreSharedEdges, AreShownEdges, IsOptionPair, PairComesBefore}
use Rattle.xcc_form.specs.Numbers.{AreNumbered}
use Rattle.xcc_form.specs.declared.edges.Edge.{Edge}
use Rattle.xcc_form.specs.declared.edges.SharedEdge.{SharedEdge}

-- the edges from the option's start up to the next start
abbrev pub edges_of : (starts : List ℕ) → List Edge → (option : ℕ) → List Edge
edges_of starts edges option = slice_range edges (slice_index starts option) (slice_index starts (option + 1))

-- the options with these pairs, of which the first has this number
unfoldable pub choices_from : (first : ℕ) → List Pair → (starts : List ℕ) → List Edge → List Choice
choices_from first [] starts edges = []
choices_from first (x ∷ pairs) starts edges =
    record { pair = x; edges = edges_of starts edges first } ∷ choices_from (first + 1) pairs starts edges

-- The edges of each option are those that its pair shows; there is one start more than there are options, the end of
-- all. There are at most four edges for each cell.
pub record AreLaidOut (p : Task) (shared : List SharedEdge) (pairs : List Pair) (starts : List ℕ)
    (edges : List Edge) : Type 0 where
  pub starts_long : length starts ≡ length pairs + 1
  pub first : slice_index starts 0 ≡ 0
  pub last : slice_index starts (length pairs) ≡ length edges
  pub rising : (option : ℕ) → option < length pairs → slice_index starts option ≤ slice_index starts (option + 1)
  pub within : (option : ℕ) → option ≤ length pairs → slice_index starts option ≤ length edges
  pub shown : (option : ℕ) (x : Pair) → slice_get pairs option ≡ Some x
      → AreShownEdges p shared x (edges_of starts edges option)
  pub few : length edges ≤ 4 * MOST_CELLS * length pairs

-- More edges were added: those that the pair shows.
pub record AddsEdges (p : Task) (shared : List SharedEdge) (x : Pair) (old new : List Edge) : Type 0 where
  pub more : List Edge
  pub added : new ≡ old ++ more
  pub shown : AreShownEdges p shared x more
  pub few : length more ≤ length shared

-- what is kept of a compiled puzzle
pub record IsKept (p : Task) (shared : List SharedEdge) (pairs : List Pair) (starts : List ℕ)
    (edges : List Edge) (numbers : List (Option ℕ)) : Type 0 where
  pub puzzle : IsPuzzle p
  pub all_shared : AreSharedEdges p.board shared
  pub all_pairs : IsListing PairComesBefore (IsOptionPair p) pairs
  pub laid_out : AreLaidOut p shared pairs starts edges
  pub few : 2 * length pairs + length edges ≤ MOST_ENTRIES
  pub few_shared : length shared ≤ 4 * MOST_CELLS
  pub numbered : AreNumbered (length p.words) pairs numbers
