use Rattle.std.proofs.Common.{◌≡◌, length}
use Rattle.command_runs.proofs.CensusLemmas.{HaveEach}
use Rattle.command_runs.proofs.census_runs.counts_of.Given as goal

abbrev pub invariant-loop-later : goal.invariant-loop-later
invariant-loop-later g l = record {
  long : length l.counts.items ≡ l.later;
  each : HaveEach l.xcc l.branches l.parts l.counts.items;
}
