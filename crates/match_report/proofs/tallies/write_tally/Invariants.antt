use Rattle.std.proofs.Common.{◌≡◌}
use Rattle.match_report.specs.TallyText.{worker_words}
use Rattle.match_report.proofs.NumberedLemmas.{numbered_lines}
use Rattle.match_report.proofs.tallies.write_tally.Given as goal

abbrev pub invariant-loop-worker : goal.invariant-loop-worker
invariant-loop-worker l = l.text.items ≡ numbered_lines worker_words l.tally l.worker
