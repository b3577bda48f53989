-- Streams before a run and after it.
use Rattle.std.specs.Prelude.{◌≡◌}
use Rattle.byte_streams.specs.Moves.{Writing, writing_of}
use Rattle.byte_streams.specs.declared.sinks.Sink.{Ghosts as SinkMembers}
use Rattle.command_orders.specs.declared.streams.Streams.{Streams}

-- The references are the same.
pub record AreSameStreams {I W E : Type 0} (old new : Streams I W E) : Type 0 where
  pub input : new.input.ghost_name ≡ old.input.ghost_name
  pub output : new.output.ghost_name ≡ old.output.ghost_name
  pub errors : new.errors.ghost_name ≡ old.errors.ghost_name

-- what went to the output between, and to the errors
abbrev pub output_of : {I W E : Type 0} → SinkMembers W → (old new : Streams I W E) → Writing
output_of sink old new = writing_of sink old.output.now new.output.now

abbrev pub errors_of : {I W E : Type 0} → SinkMembers E → (old new : Streams I W E) → Writing
errors_of sink old new = writing_of sink old.errors.now new.errors.now
