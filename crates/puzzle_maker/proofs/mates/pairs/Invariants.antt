use Rattle.puzzle_drafts.specs.Drafts.{ArePairs}
use Rattle.puzzle_maker.proofs.mates.pairs.Given as goal

abbrev pub invariant-loop-colour : goal.invariant-loop-colour
invariant-loop-colour l = ArePairs l.alone l.colour l.mates.items
