use Rattle.puzzle_maker.specs.Plans.{IsAsPlanned}
use Rattle.puzzle_maker.proofs.clues.puzzle_with_clues.Given as goal

abbrev pub invariant-loop : goal.invariant-loop
invariant-loop l = IsAsPlanned l.plan l.puzzle
