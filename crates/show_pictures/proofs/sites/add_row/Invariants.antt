use Rattle.std.proofs.Common.{◌+◌}
use Rattle.match_board.specs.Board.{cells_above, cells_left}
use Rattle.show_pictures.specs.Sites.{AreSitesTo}
use Rattle.show_pictures.proofs.sites.add_row.Given as goal

abbrev pub invariant-loop-place : goal.invariant-loop-place
invariant-loop-place l =
    AreSitesTo l.figure (cells_above l.figure l.row + cells_left l.figure l.row l.place) l.sites.items
