use Rattle.std.proofs.Common.{◌≡◌, ◌≤◌, ◌+◌, ◌++◌, List, length}
use Rattle.count_totals.specs.Lines.{AreInRange, text_of}
use Rattle.count_totals.specs.Tallies.{Tells}
use Rattle.count_totals.specs.declared.lines.Line.{Line}
use Rattle.count_totals.proofs.totals.tally_of.Given as goal

abbrev pub invariant-loop-ahead : goal.invariant-loop-ahead
invariant-loop-ahead l =
    (lines : List Line) × (l.fn.text ≡ text_of lines ++ l.ahead) × AreInRange lines × Tells l.tally lines
    × (l.number ≡ length lines) × (l.number + length l.ahead ≤ length l.fn.text)

abbrev pub decreases-loop-ahead : goal.decreases-loop-ahead
decreases-loop-ahead l = length l.ahead
