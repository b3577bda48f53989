use Rattle.std.proofs.Common.{arith, ap}
use Rattle.match_board.specs.Board.{side_count}
use Rattle.match_puzzle.proofs.Words.{legal_below}
use Rattle.match_puzzle.proofs.puzzles.Puzzle.turn_showing.Goals as goal

pub returns : goal.returns
returns c = λ y showing.
    let below = legal_below c.args.self.now y c.board.ensures.puzzle showing.legal in
    let count = c.sides-turn-end.ensures.count in
    let same = ap side_count c.board.ensures.value in
    let past = c.loop-turn-test.false in
    c.loop-turn.invariant y (omega (arith, below, count, same, past)) showing
