use Rattle.std.proofs.Common.{sym}
use Rattle.match_limits.proofs.OptionLemmas.{same_pair}
use Rattle.match_puzzle.proofs.puzzles.Puzzle.meets.Goals as goal

pub returns-in-Border-clause-only : goal.returns-in-Border-clause-only
returns-in-Border-clause-only c = λ c' k m.
    let side = rw c.in-Border.is at c.side.ensures in
    absurd (side.0.meets_nothing c' k m)

pub returns-in-Edge-clause-only : goal.returns-in-Edge-clause-only
returns-in-Edge-clause-only c = λ c' k m.
    let side = rw c.in-Edge.is at c.side.ensures in
    let e = side.1 c' k m in
    same_pair (sym e.0) (sym e.1)
