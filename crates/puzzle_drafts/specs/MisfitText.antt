-- How it is told why no puzzle can be as is asked.
use Rattle.std.specs.Prelude.{ℕ, List, codes}
use Rattle.puzzle_drafts.specs.declared.misfits.Misfit.{Misfit}
use Rattle.puzzle_drafts.specs.declared.misfits.Misfit.TheVariants.{EmptyBoard, LargeBoard, FixedTriangles, FewColours}
use Rattle.puzzle_drafts.specs.declared.misfits.Misfit.TheVariants.{ManyColours, OddMates, LoneMate, ManyTiles, ManyClues}

abbrev pub misfit_text : Misfit → List ℕ
misfit_text EmptyBoard = codes "a board of no cells"
misfit_text LargeBoard = codes "a board of over 100 cells"
misfit_text FixedTriangles = codes "triangles that may not be turned"
misfit_text FewColours = codes "too few colours"
misfit_text ManyColours = codes "over 36 colours"
misfit_text OddMates = codes "an odd number of colours for mates"
misfit_text LoneMate = codes "a colour without its mate"
misfit_text ManyTiles = codes "over 256 tiles"
misfit_text ManyClues = codes "more clues than cells"
