-- What may be wrong with a puzzle.
use Rattle.std.specs.Prelude.{◌≡◌, ◌≢◌, ◌<◌, ◌≤◌, ◌⊎◌, ℕ, Some, false, length, slice_get}
use Rattle.match_limits.specs.declared.TheConstants.{MOST_COLOURS}
use Rattle.match_board.specs.Board.{cell_count, side_count, IsBorderPair}
use Rattle.match_limits.specs.First.{Rank, rank_by, rank_by_two}
use Rattle.match_board.specs.Mates.{BreaksMatesAt}
use Rattle.match_board.specs.Clues.{Clue}
use Rattle.match_puzzle.specs.Puzzle.{Task, AreEnough, word_of}
use Rattle.match_board.specs.declared.figures.Figure.{Figure}
use Rattle.match_board.specs.Borders.{BorderRule, Asks, StandsInRule, IsAsLongAsBorder}
use Rattle.match_puzzle.specs.declared.faults.PuzzleFault.{PuzzleFault}
use Rattle.match_puzzle.specs.declared.faults.PuzzleFault.TheVariants.{FixedTriangles, TileCount, TileSides, BadColour}
use Rattle.match_puzzle.specs.declared.faults.PuzzleFault.TheVariants.{BorderLength, Mates, Clue as BadClue, Memory}

-- The border asks a side of the clue's cell for another colour.
abbrev pub DefiesBorder : Figure → BorderRule → Clue → Type 0
DefiesBorder s border c =
    (side : ℕ) × (colour : ℕ) × (other : ℕ) × IsBorderPair s c.cell side × Asks s border c.cell side colour
    × (slice_get c.asks side ≡ Some (Some other)) × (colour ≢ other)

-- The clue's cell isn't there, or doesn't come after that of an earlier clue; or the clue hasn't as many sides as a
-- cell; or the border asks another colour.
abbrev pub BreaksCluesAt : Task → ℕ → Type 0
BreaksCluesAt p n =
    (c : Clue) × (slice_get p.clues n ≡ Some c)
    × ((cell_count p.board ≤ c.cell)
    ⊎ ((before : ℕ) × (d : Clue) × (before < n) × (slice_get p.clues before ≡ Some d) × (c.cell ≤ d.cell))
    ⊎ (length c.asks ≢ side_count p.board)
    ⊎ DefiesBorder p.board p.border c)

-- When a fault occurs; want of memory is none of the puzzle.
abbrev pub PuzzleFails : Task → PuzzleFault → Type 0
PuzzleFails p FixedTriangles = (side_count p.board ≡ 3) × (p.turns ≡ false)
PuzzleFails p TileCount = AreEnough p.mating.version (cell_count p.board) (length p.words) → ⊥
PuzzleFails p (TileSides tile) = (tile < length p.words) × (length (word_of p tile) ≢ side_count p.board)
PuzzleFails p (BadColour place) = (colour : ℕ) × StandsInRule p.border place colour × (MOST_COLOURS ≤ colour)
PuzzleFails p BorderLength = IsAsLongAsBorder p.board p.border → ⊥
PuzzleFails p (Mates place) = BreaksMatesAt p.mating.mates place
PuzzleFails p (BadClue number) = BreaksCluesAt p number
PuzzleFails p Memory = ⊥

-- the order of the faults
abbrev pub puzzle_rank : PuzzleFault → Rank
puzzle_rank FixedTriangles = rank_by 1
puzzle_rank TileCount = rank_by 2
puzzle_rank (TileSides tile) = rank_by_two 3 tile
puzzle_rank (BadColour place) = rank_by_two 4 place
puzzle_rank BorderLength = rank_by 5
puzzle_rank (Mates place) = rank_by_two 6 place
puzzle_rank (BadClue number) = rank_by_two 7 number
puzzle_rank Memory = rank_by 8
