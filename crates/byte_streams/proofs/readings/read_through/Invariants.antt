use Rattle.std.proofs.Common.{◌≡◌, ◌≤◌, ◌+◌, ◌-◌, length}
use Rattle.std.specs.Io.KnownBytes.{Consumes}
use Rattle.byte_streams.proofs.readings.read_through.Given as goal

abbrev pub invariant-loop-count : goal.invariant-loop-count
invariant-loop-count g l = record {
  came : Consumes (g.R.Source.left l.fn.reader) (g.R.Source.left l.reader) l.text.items;
  room : length l.text.items ≤ l.bound;
  calm : g.R.Source.errors l.reader ≡ g.R.Source.errors l.fn.reader;
}

abbrev pub decreases-loop-count : goal.decreases-loop-count
decreases-loop-count g l = l.bound + 1 - length l.text.items
