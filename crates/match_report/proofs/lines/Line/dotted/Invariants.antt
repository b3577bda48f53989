use Rattle.std.proofs.Common.{◌≡◌, ◌++◌, drop}
use Rattle.match_report.specs.Line.{dotted}
use Rattle.match_report.proofs.lines.Line.dotted.Given as goal

abbrev pub invariant-loop-number : goal.invariant-loop-number
invariant-loop-number l = l.self ++ dotted (drop l.number-index l.numbers) ≡ l.fn.self ++ dotted l.numbers
