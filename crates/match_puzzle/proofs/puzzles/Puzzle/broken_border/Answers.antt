use Rattle.std.proofs.Common.{arith, ap}
use Rattle.std.proofs.lemmas.Option.{slice_get_within}
use Rattle.match_board.specs.Board.{cell_count, side_count}
use Rattle.match_board.proofs.FirstSideLemmas.{least_side_told}
use Rattle.match_puzzle.specs.ArrangementFaults.{ObeysBorderAt, BreaksBorderAt}
use Rattle.match_puzzle.proofs.puzzles.Puzzle.broken_border.Goals as goal

pub first_side-requires : goal.first_side-requires
first_side-requires c = λ cell side cell_in side_in passed.
    (omega (arith, cell_in, ap cell_count c.board.ensures.value), (omega (arith, side_in, ap side_count c.board.ensures.value), (c.requires.long, c.requires.legal)))

pub returns : goal.returns
returns c =
    let p = c.args.self.now in
    let a = c.args.placements.now in
    least_side_told p.board (BreaksBorderAt p a) (ObeysBorderAt p a) (λ cell side obeys o. o.4 (obeys o.1 o.0 o.2 o.3)) (λ cell side o. o.3.side_in)
    c.board.result.now c.board.ensures.value c.first_side.result c.first_side.ensures _
    (λ all cell side colour x stands rule. all cell side (omega (arith, slice_get_within a cell x stands, c.requires.long)) rule.side_in colour x stands rule)
