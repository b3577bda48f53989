use Rattle.match_board.specs.Board.{cells_above}
use Rattle.show_pictures.specs.Sites.{AreSitesTo}
use Rattle.show_pictures.proofs.sites.sites_of.Given as goal

abbrev pub invariant-loop-row : goal.invariant-loop-row
invariant-loop-row l = AreSitesTo l.figure (cells_above l.figure l.row) l.sites.items
