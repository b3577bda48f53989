-- How faults are told: the kind, and then where.
use Rattle.std.specs.Prelude.{ℕ, List, ◌++◌, codes, decimal}
use Rattle.match_puzzle.specs.declared.faults.PuzzleFault.{PuzzleFault}
use Rattle.match_puzzle.specs.declared.faults.PuzzleFault.TheVariants as puzzles
use Rattle.match_puzzle.specs.declared.faults.ArrangementFault.{ArrangementFault}
use Rattle.match_puzzle.specs.declared.faults.ArrangementFault.TheVariants as arrangements
use Rattle.match_puzzle.specs.declared.faults.PrefixFault.{PrefixFault}
use Rattle.match_puzzle.specs.declared.faults.PrefixFault.TheVariants as prefixes

abbrev pub puzzle_fault_text : PuzzleFault → List ℕ
puzzle_fault_text puzzles.FixedTriangles = codes "fixed-triangles"
puzzle_fault_text puzzles.TileCount = codes "tile-count"
puzzle_fault_text (puzzles.TileSides tile) = codes "tile-sides " ++ decimal tile
puzzle_fault_text (puzzles.BadColour place) = codes "bad-colour " ++ decimal place
puzzle_fault_text puzzles.BorderLength = codes "border-length"
puzzle_fault_text (puzzles.Mates place) = codes "mates " ++ decimal place
puzzle_fault_text (puzzles.Clue number) = codes "clue " ++ decimal number
puzzle_fault_text puzzles.Memory = codes "out of memory"

abbrev pub arrangement_fault_text : ArrangementFault → List ℕ
arrangement_fault_text arrangements.Length = codes "length"
arrangement_fault_text (arrangements.TileRange cell) = codes "tile " ++ decimal cell
arrangement_fault_text (arrangements.Turn cell) = codes "turn " ++ decimal cell
arrangement_fault_text (arrangements.TileTwice cell) = codes "twice " ++ decimal cell
arrangement_fault_text (arrangements.BorderBroken cell side) =
    codes "border " ++ decimal cell ++ codes " " ++ decimal side
arrangement_fault_text (arrangements.EdgeBroken cell side) =
    codes "edge " ++ decimal cell ++ codes " " ++ decimal side

abbrev pub prefix_fault_text : PrefixFault → List ℕ
prefix_fault_text (prefixes.Cell place) = codes "cell " ++ decimal place
prefix_fault_text (prefixes.Tile place) = codes "tile " ++ decimal place
prefix_fault_text (prefixes.Turn place) = codes "turn " ++ decimal place
