use Rattle.std.proofs.Common.{◌≡◌, ◌++◌, List, ℕ, drop}
use Rattle.std.specs.List.{flat_map}
use Rattle.std.specs.Io.KnownBytes.{Appends}
use Rattle.byte_streams.proofs.writings.write_parts.Given as goal

abbrev pub invariant-loop-part : goal.invariant-loop-part
invariant-loop-part g l = record {
  gone : (front : List ℕ) × (flat_map (λ part. part.items) l.parts ≡ front ++ flat_map (λ part. part.items) (drop l.part-index l.parts)) × Appends (g.W.Sink.written l.fn.writer) (g.W.Sink.written l.writer) front;
  calm : g.W.Sink.errors l.writer ≡ g.W.Sink.errors l.fn.writer;
}
