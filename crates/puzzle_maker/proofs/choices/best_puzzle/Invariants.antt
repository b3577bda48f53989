use Rattle.puzzle_maker.specs.Plans.{IsMadeAsPlanned}
use Rattle.puzzle_maker.proofs.choices.best_puzzle.Given as goal

abbrev pub invariant-loop : goal.invariant-loop
invariant-loop g l = IsMadeAsPlanned l.plan l.best.puzzle
