use Rattle.std.proofs.Common.{◌≡◌, ◌<◌, ℕ, [], map, length, slice_index_or}
use Rattle.match_board.specs.Board.{side_count}
use Rattle.match_board.specs.Tile.{word}
use Rattle.match_puzzle.proofs.tables.odd_tile.Given as goal

abbrev pub invariant-loop-number : goal.invariant-loop-number
invariant-loop-number l = (k : ℕ) → k < l.number → length (slice_index_or (map word l.tiles) k []) ≡ side_count l.board
