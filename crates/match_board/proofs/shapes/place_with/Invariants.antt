use Rattle.std.proofs.Common.{◌≡◌, ◌≤◌}
use Rattle.match_board.specs.Board.{marks_from}
use Rattle.match_board.proofs.shapes.place_with.Given as goal

abbrev pub invariant-loop-place : goal.invariant-loop-place
invariant-loop-place l = record { count : l.count ≡ marks_from l.mask l.first l.place; few : l.count ≤ l.left; small : l.count ≤ l.place }
