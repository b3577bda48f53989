use Rattle.std.proofs.Common.{◌≤◌, vec_len}
use Rattle.puzzle_maker.proofs.clues.clues_at.Given as goal

abbrev pub invariant-loop-cell : goal.invariant-loop-cell
invariant-loop-cell l = vec_len l.clues ≤ l.cell
