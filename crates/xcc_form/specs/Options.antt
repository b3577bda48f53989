-- The exact cover of a puzzle: its primary items are the cells, then the tiles where all have to stand, its secondary
-- items the shared edges.
use Rattle.std.specs.Prelude.{◌≡◌, ◌⊎◌, ◌<◌, ◌+◌, ◌==◌, if◌then◌else◌, ℕ, List, [], ◌∷◌, Some, length, map, slice_get}
use Rattle.match_limits.specs.declared.TheConstants.{MOST_ENTRIES}
use Rattle.match_board.specs.Board.{cell_count, Meets}
use Rattle.match_board.specs.declared.figures.Figure.{Figure}
use Rattle.match_limits.specs.Listing.{IsListing, ComesBefore, ByKey}
use Rattle.match_puzzle.specs.Puzzle.{Task, IsPuzzle, IsLegal, HasRule, colour_of, mate_of}
use Rattle.match_puzzle.specs.Fitting.{tile_turn}
use Rattle.match_puzzle.specs.declared.placements.Pair.{Pair}
use Rattle.xcc_form.specs.ExactCover.{ItemSet, Cover, entry_count}
use Rattle.xcc_form.specs.declared.edges.Edge.{Edge}
use Rattle.xcc_form.specs.declared.edges.SharedEdge.{SharedEdge}

-- the lesser (cell, side) of a shared edge
abbrev pub least_place : SharedEdge → ℕ × ℕ
least_place e = (e.cell, e.side)

-- The two sides meet, and the lesser (cell, side) is named first.
abbrev pub IsSharedEdge : Figure → SharedEdge → Type 0
IsSharedEdge s e =
    Meets s e.cell e.side e.other_cell e.other_side × ComesBefore (e.cell, e.side) (e.other_cell, e.other_side)

-- all shared edges of the board, by their lesser (cell, side)
abbrev pub AreSharedEdges : Figure → List SharedEdge → Type 0
AreSharedEdges s edges = IsListing (ByKey least_place) (IsSharedEdge s) edges

-- The side of the cell is one of the two that meet there.
abbrev pub IsSideOf : SharedEdge → (cell side : ℕ) → Type 0
IsSideOf e cell side = ((e.cell ≡ cell) × (e.side ≡ side)) ⊎ ((e.other_cell ≡ cell) × (e.other_side ≡ side))

-- a legal placement at a cell, which shows what the border and clues ask there
pub record IsOptionPair (p : Task) (x : Pair) : Type 0 where
  pub cell : x.cell < cell_count p.board
  pub legal : IsLegal p x.placement
  pub border : (side colour : ℕ) → HasRule p x.cell side colour → colour_of p x.placement side ≡ colour

-- by cell, then by tile, then by turn
abbrev pub PairComesBefore : (x y : Pair) → Type 0
PairComesBefore x y = (x.cell < y.cell) ⊎ ((x.cell ≡ y.cell) × ByKey tile_turn x.placement y.placement)

-- how many items options take: the cells, then the tiles
abbrev pub item_count : Task → ℕ
item_count p = cell_count p.board + length p.words

-- how many of them have to be taken: the tiles too, where all have to stand
abbrev pub primary_count : Task → ℕ
primary_count p = if length p.words == cell_count p.board then item_count p else cell_count p.board

-- the colour that a cell gives to a shared edge: what is shown at the lesser (cell, side), or the mate of what is shown
-- at the other
abbrev pub colour_given : Task → SharedEdge → (cell shown : ℕ) → ℕ
colour_given p e cell shown = if e.cell == cell then shown else mate_of p shown

-- The item is that of a shared edge of the pair's cell, with the colour that the placement gives to it.
pub record IsShownEdge (p : Task) (shared : List SharedEdge) (x : Pair) (e : Edge) : Type 0 where
  pub number : ℕ
  pub edge : SharedEdge
  pub side : ℕ
  pub numbered : slice_get shared number ≡ Some edge
  pub side_of : IsSideOf edge x.cell side
  pub item : e.item ≡ item_count p + number
  pub colour : e.colour ≡ colour_given p edge x.cell (colour_of p x.placement side)

-- all shared edges of the pair's cell with the colours given, by item
abbrev pub AreShownEdges : Task → List SharedEdge → Pair → List Edge → Type 0
AreShownEdges p shared x edges = IsListing (λ e f. e.item < f.item) (IsShownEdge p shared x) edges

-- an option: its cell and its tile, as the pair, and its shared edges
pub record Choice : Type 0 where
  pub pair : Pair
  pub edges : List Edge

-- a puzzle with its shared edges and options, by number
pub record Compiled : Type 0 where
  pub puzzle : Task
  pub shared : List SharedEdge
  pub options : List Choice

-- an option's cell and placement
abbrev pub pair_of : Choice → Pair
pair_of c = c.pair

-- The options are those of the puzzle: one for each legal placement at each cell that shows what is asked there.
pub record IsCompiled (x : Compiled) : Type 0 where
  pub puzzle : IsPuzzle x.puzzle
  pub shared : AreSharedEdges x.puzzle.board x.shared
  pub pairs : IsListing PairComesBefore (IsOptionPair x.puzzle) (map pair_of x.options)
  pub edges : (option : ℕ) (c : Choice) → slice_get x.options option ≡ Some c
      → AreShownEdges x.puzzle x.shared c.pair c.edges

-- an option as the items that it has, on a board of `cells` cells
abbrev pub items_of : ℕ → Choice → ItemSet
items_of cells c = record { primary = c.pair.cell ∷ (cells + c.pair.placement.tile) ∷ []; coloured = c.edges }

-- the exact cover
abbrev pub cover_of : Compiled → Cover
cover_of x =
    record {
      primaries = primary_count x.puzzle;
      takable = item_count x.puzzle;
      secondaries = length x.shared;
      options = map
          (items_of (cell_count x.puzzle.board)) x.options;
    }

-- how many items its options have
abbrev pub entries_of : Compiled → ℕ
entries_of x = entry_count (cover_of x).options

-- The options of the puzzle have too many items.
abbrev pub HasTooManyEntries : Task → Type 0
HasTooManyEntries p = (x : Compiled) × (x.puzzle ≡ p) × IsCompiled x × (MOST_ENTRIES < entries_of x)
