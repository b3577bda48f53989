-- How the sides of tiles balance that aren't turned: of two squares side by side the one shows east what the other
-- shows west, or its mate.
use Rattle.std.specs.Prelude.{◌≡◌, ◌<◌, ◌+◌, ◌-◌, ◌*◌, ◌%◌, ◌==◌, ◌&&◌, if◌then◌else◌, ℕ, zero, suc, Bool, false, List, []}
use Rattle.std.specs.Prelude.{MatchBool, count_by, length, nat_lt, slice_index, slice_index_or}
use Rattle.match_limits.specs.declared.TheConstants.{MOST_COLOURS}
use Rattle.match_board.specs.Board.{cell_count, side_count, Meets}
use Rattle.match_board.specs.Turns.{shown}
use Rattle.match_board.specs.declared.figures.Figure.{Figure}
use Rattle.match_puzzle.specs.Puzzle.{Task, AllHaveToStand, colour_of, mate_of}
use Rattle.match_puzzle.specs.declared.placements.Placement.{Placement}
use Rattle.match_puzzle.specs.declared.placements.Pair.{Pair}
use Rattle.xcc_form.specs.Options.{Compiled, Choice}
use Rattle.count_search.specs.declared.balances.Balance.{Balance}

-- the opposite side of a square
abbrev pub opposite : ℕ → ℕ
opposite side = (side + 2) % 4

-- What a side gives to its edge: north and east the colour that it shows, south and west the mate of that. Sides match
-- where they give the same.
abbrev pub given : Task → (side colour : ℕ) → ℕ
given p side colour = if nat_lt side 2 then colour else mate_of p colour

-- The placement gives the colour on the side.
abbrev pub gives : Task → (side colour : ℕ) → Placement → Bool
gives p side colour x = given p side (colour_of p x side) == colour

-- The tile with this word, unturned, gives the colour on the side.
abbrev pub word_gives : Task → (side colour : ℕ) → List ℕ → Bool
word_gives p side colour word = given p side (shown word 0 side) == colour

-- The side of the cell is an outer one, by a table of these.
abbrev pub is_outer : List (List Bool) → (cell side : ℕ) → Bool
is_outer outer cell side = slice_index_or (slice_index_or outer cell []) side false

-- For each side of each cell it is told whether it is an outer one, which meets nothing.
pub record TellOuter (s : Figure) (outer : List (List Bool)) : Type 0 where
  pub long : length outer ≡ cell_count s
  pub each : (cell side : ℕ) → cell < cell_count s → side < 4 → MatchBool (is_outer outer cell side)
      ((cell' side' : ℕ) → Meets s cell side cell' side' → ⊥)
      ((cell' : ℕ) × (side' : ℕ) × Meets s cell side cell' side')

-- a pair that stands nowhere
abbrev pub no_choice : Choice
no_choice = record { pair = record { cell = 0; placement = record { tile = 0; turn = 0 } }; edges = [] }

-- the pair of an option
abbrev pub pair_at : Compiled → (option : ℕ) → Pair
pair_at x option = (slice_index_or x.options option no_choice).pair

-- The pair's tile gives the colour on this side, which is an outer one there.
abbrev pub pair_gives : Task → List (List Bool) → (side colour : ℕ) → Pair → Bool
pair_gives p outer side colour y = is_outer outer y.cell side && gives p side colour y.placement

-- The option's does.
abbrev pub option_gives : Compiled → List (List Bool) → (side colour option : ℕ) → Bool
option_gives x outer side colour option = pair_gives x.puzzle outer side colour (pair_at x option)

-- The option puts a tile at an outer side in this direction.
abbrev pub is_at_border : Compiled → List (List Bool) → (side option : ℕ) → Bool
is_at_border x outer side option = is_outer outer (pair_at x option).cell side

-- How many sides in this direction give the colour: those of tiles, and those of the border at which a chosen option
-- puts a tile, as if the border showed what goes with it.
abbrev pub side_total : Compiled → List (List Bool) → (chosen : List ℕ) → (side colour : ℕ) → ℕ
side_total x outer chosen side colour =
    count_by (word_gives x.puzzle side colour) x.puzzle.words
    + count_by (option_gives x outer (opposite side) colour) chosen

-- how many outer sides there are in this direction
abbrev pub outer_total : List (List Bool) → (side : ℕ) → ℕ
outer_total outer side = count_by (λ row. slice_index_or row side false) outer

-- where the number of a side and a colour stands
abbrev pub place_of : (side colour : ℕ) → ℕ
place_of side colour = MOST_COLOURS * side + colour

-- Each tile of the puzzle has to stand, as it is, on a board of squares.
pub record AreUnturnedSquares (p : Task) : Type 0 where
  pub four : side_count p.board ≡ 4
  pub unturned : p.turns ≡ false
  pub all : AllHaveToStand p

-- where these options are chosen: which sides are outer ones, how many sides in each direction give each colour, and how
-- many outer sides in each direction have no tile yet
pub record IsBalance (x : Compiled) (chosen : List ℕ) (b : Balance) : Type 0 where
  pub squares : AreUnturnedSquares x.puzzle
  pub outer : TellOuter x.puzzle.board b.outer.items
  pub sides : (side colour : ℕ) → side < 4 → colour < MOST_COLOURS
      → slice_index b.sides (place_of side colour) ≡ side_total x b.outer.items chosen side colour
  pub free : (side : ℕ) → side < 4 → slice_index b.free side + count_by (is_at_border x b.outer.items side) chosen
      ≡ outer_total b.outer.items side

-- how many more sides in this direction give the first so many colours than in the opposite one: those that have to lie
-- at outer sides
abbrev pub surplus : (sides : List ℕ) → (side count : ℕ) → ℕ
surplus sides side zero = 0
surplus sides side (suc count) = surplus sides side count
    + (slice_index sides (place_of side count) - slice_index sides (place_of (opposite side) count))

-- In one direction fewer outer sides are free than have to be.
pub record IsShort (b : Balance) : Type 0 where
  pub side : ℕ
  pub side_in : side < 4
  pub short : slice_index b.free side < surplus b.sides side MOST_COLOURS
