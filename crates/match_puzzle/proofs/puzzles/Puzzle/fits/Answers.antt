use Rattle.std.proofs.Common.{subst, arith}
use borrow.Author.Tests.{ltb-true}
use Rattle.match_puzzle.specs.Puzzle.{IsPuzzle}
use Rattle.match_puzzle.proofs.FittingLemmas.{fits_by_turn, small_turn}
use Rattle.match_puzzle.proofs.puzzles.Puzzle.fits.Goals as goal

pub returns-then-placement-lt-MOST_TURNS : goal.returns-then-placement-lt-MOST_TURNS
returns-then-placement-lt-MOST_TURNS c =
    rw (← c.requires.made) (fits_by_turn c.args.partial.now.puzzle c.args.partial.now.placed c.args.cell c.args.placement c.fitting_turns-turns.result (c.fitting_turns-turns.ensures.turns c.args.placement.turn c.if-placement-lt-MOST_TURNS.true))

pub returns-else-placement-lt-MOST_TURNS : goal.returns-else-placement-lt-MOST_TURNS
returns-else-placement-lt-MOST_TURNS c = (
  λ less. absurd (omega (arith, ltb-true c.args.placement.turn 4 less, c.if-placement-lt-MOST_TURNS.false)),
  λ fits. absurd (omega (arith, small_turn c.args.self.now c.args.placement (subst IsPuzzle c.requires.made c.fitting_turns-turns.ensures.puzzle) fits.legal, c.if-placement-lt-MOST_TURNS.false)),
)
