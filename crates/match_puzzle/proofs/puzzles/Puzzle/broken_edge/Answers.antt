use Rattle.std.proofs.Common.{ap, arith}
use Rattle.std.proofs.lemmas.Option.{slice_get_within}
use Rattle.match_board.specs.Board.{cell_count, side_count}
use Rattle.match_board.proofs.FirstSideLemmas.{least_side_told}
use Rattle.match_puzzle.specs.Arrangement.{MatchesEdgeAt}
use Rattle.match_puzzle.specs.ArrangementFaults.{BreaksEdgeAt}
use Rattle.match_puzzle.proofs.ArrangementLemmas.{side_in_range}
use Rattle.match_puzzle.proofs.puzzles.Puzzle.broken_edge.Goals as goal

pub first_side-requires : goal.first_side-requires
first_side-requires c = λ cell side cell_in side_in passed. (
  c.requires.puzzle,
  (
    omega (arith, cell_in, ap cell_count c.board.ensures.value),
    (
      omega (arith, side_in, ap side_count c.board.ensures.value),
      (
        c.requires.long,
        (
          c.requires.legal,
          λ other k lt k_in. passed other k lt (omega (arith, k_in, ap side_count c.board.ensures.value)),
        ),
      ),
    ),
  ),
)

pub returns : goal.returns
returns c =
    let p = c.args.self.now in
    let a = c.args.placements.now in
    least_side_told p.board (BreaksEdgeAt p a) (MatchesEdgeAt p a) (λ cell side matches o. o.7 (matches o.1 o.2 o.0 o.3 o.5 o.4 o.6)) (λ cell side o. side_in_range o.5)
    c.board.result.now c.board.ensures.value c.first_side.result c.first_side.ensures _
    (λ all cell side other k x y meets here there. all cell side (omega (arith, slice_get_within a cell x here, c.requires.long)) (side_in_range meets) other k x y meets here there)
