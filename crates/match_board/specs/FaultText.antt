-- How faults are told.
use Rattle.std.specs.Prelude.{ℕ, List, codes}
use Rattle.match_board.specs.declared.boards.BoardFault.{BoardFault}
use Rattle.match_board.specs.declared.boards.BoardFault.TheVariants as boards
use Rattle.match_board.specs.declared.classes.TilesFault.{TilesFault}
use Rattle.match_board.specs.declared.classes.TilesFault.TheVariants as tiles

abbrev pub board_fault_text : BoardFault → List ℕ
board_fault_text boards.Empty = codes "board empty"
board_fault_text boards.TooLarge = codes "board too-large"

abbrev pub tiles_fault_text : TilesFault → List ℕ
tiles_fault_text tiles.TooMany = codes "too many tiles"
tiles_fault_text tiles.Memory = codes "out of memory"
