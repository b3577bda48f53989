-- Open options, said of pairs: they are those whose pairs fit.
use Rattle.std.specs.Prelude.{◌≡◌, ◌<◌, ◌↔◌, ℕ, List, Contains, length}
use Rattle.match_board.specs.Board.{cell_count}
use Rattle.match_limits.specs.Listing.{ByKey}
use Rattle.match_puzzle.specs.Fitting.{Fits, FitsItem, Settles, AreFitting, HasFewestFitting, IsNumberOf, item_key}
use Rattle.match_puzzle.specs.Fitting as items
use Rattle.fit_counts.specs.Placing.{prefix_of}
use Rattle.match_puzzle.specs.declared.items.Item.{Item}
use Rattle.match_puzzle.specs.declared.placements.Pair.{Pair}
use Rattle.xcc_form.specs.Options.{Compiled, cover_of}
use Rattle.xcc_form.specs.Correspondence.{IsPairOf}
use Rattle.xcc_form.specs.Clashes.{IsOpen, IsOpenAt}
use Rattle.xcc_form.specs.Chosen.{AreOpenAt, HasSize, IsUncovered, IsToBranchOn}
use Rattle.xcc_dance.specs.Placing.{ArePairsOf}

-- An option is open just where its pair fits beside the pairs of the chosen ones.
abbrev pub AreOpenWhereFitting : Compiled → (chosen : List ℕ) → (pairs : List Pair) → Type 0
AreOpenWhereFitting x chosen pairs =
    (option : ℕ) (y : Pair) → IsPairOf x option y
    → IsOpen (cover_of x) chosen option ↔ Fits x.puzzle (prefix_of x.puzzle pairs) y.cell y.placement

-- An option is open at an item just where its pair fits and settles the item.
abbrev pub AreOpenWhereSettling : Compiled → (chosen : List ℕ) → (pairs : List Pair) → Type 0
AreOpenWhereSettling x chosen pairs =
    (number : ℕ) (item : Item) → IsNumberOf (cell_count x.puzzle.board) number item → (option : ℕ) (y : Pair)
    → IsPairOf x option y
    → IsOpenAt (cover_of x) chosen number option ↔ FitsItem x.puzzle (prefix_of x.puzzle pairs) item y

-- Options of an item stand in the order of the pairs that settle it.
abbrev pub StandAsPairs : Compiled → Type 0
StandAsPairs x =
    (item : Item) (option other : ℕ) (y z : Pair) → IsPairOf x option y → IsPairOf x other z → Settles item y
    → Settles item z → (option < other) ↔ ByKey (item_key item) y z

-- All pairs that fit and settle the item with this number, in their order.
pub record AreFittingAt (x : Compiled) (pairs : List Pair) (number : ℕ) (fitting : List Pair) : Type 0 where
  pub item : Item
  pub numbered : IsNumberOf (cell_count x.puzzle.board) number item
  pub all : AreFitting x.puzzle (prefix_of x.puzzle pairs) item fitting

-- An option is open at an item just where its pair is one of those that fit and settle the item.
abbrev pub AreOpenWhereListed : Compiled → (chosen : List ℕ) → (pairs : List Pair) → Type 0
AreOpenWhereListed x chosen pairs =
    (number : ℕ) (fitting : List Pair) → AreFittingAt x pairs number fitting → (option : ℕ) (y : Pair)
    → IsPairOf x option y → IsOpenAt (cover_of x) chosen number option ↔ Contains fitting y

-- The open options of an item are those of the pairs that fit and settle it, in their order.
abbrev pub AreOpenInOrder : Compiled → (chosen : List ℕ) → (pairs : List Pair) → Type 0
AreOpenInOrder x chosen pairs =
    (number : ℕ) (fitting : List Pair) → AreFittingAt x pairs number fitting
    → (options : List ℕ) × AreOpenAt (cover_of x) chosen number options × ArePairsOf x options fitting

-- The pairs of the open options of an item are all those that fit and settle it, in their order.
abbrev pub AreFittingInOrder : Compiled → (chosen : List ℕ) → (pairs : List Pair) → Type 0
AreFittingInOrder x chosen pairs =
    (number : ℕ) (item : Item) (options : List ℕ) → IsNumberOf (cell_count x.puzzle.board) number item
    → AreOpenAt (cover_of x) chosen number options
    → (fitting : List Pair) × AreFitting x.puzzle (prefix_of x.puzzle pairs) item fitting × ArePairsOf x options fitting

-- There are as many open options of an item as pairs that fit and settle it.
abbrev pub AreAsManyAsFitting : Compiled → (chosen : List ℕ) → (pairs : List Pair) → Type 0
AreAsManyAsFitting x chosen pairs =
    (number size : ℕ) (fitting : List Pair) → AreFittingAt x pairs number fitting
    → HasSize (cover_of x) chosen number size ↔ (length fitting ≡ size)

-- An item is uncovered just where it is open.
abbrev pub AreUncoveredWhereOpen : Compiled → (chosen : List ℕ) → (pairs : List Pair) → Type 0
AreUncoveredWhereOpen x chosen pairs =
    (number : ℕ) (item : Item) → IsNumberOf (cell_count x.puzzle.board) number item
    → IsUncovered (cover_of x) chosen number ↔ items.IsOpen x.puzzle (prefix_of x.puzzle pairs) item

-- An item is to be branched on just where it has the fewest pairs that fit.
abbrev pub AreBranchedOnWhereFewest : Compiled → (chosen : List ℕ) → (pairs : List Pair) → Type 0
AreBranchedOnWhereFewest x chosen pairs =
    (number : ℕ) (item : Item) → IsNumberOf (cell_count x.puzzle.board) number item
    → IsToBranchOn (cover_of x) chosen number ↔ HasFewestFitting x.puzzle (prefix_of x.puzzle pairs) item
