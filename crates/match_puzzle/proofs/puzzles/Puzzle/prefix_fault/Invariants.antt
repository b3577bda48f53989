use Rattle.match_puzzle.proofs.PrefixFaultLemmas.{AreRight}
use Rattle.match_puzzle.proofs.puzzles.Puzzle.prefix_fault.Given as goal

abbrev pub invariant-loop-place : goal.invariant-loop-place
invariant-loop-place l = AreRight l.self l.pairs l.place l.least l.seen
