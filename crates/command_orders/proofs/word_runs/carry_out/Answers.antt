use Rattle.std.proofs.Common.{inl, inr, refl, subst}
use Rattle.byte_streams.specs.Moves.{writing_of}
use Rattle.command_orders.specs.WordRuns.{TellsFault}
use Rattle.command_orders.proofs.word_runs.carry_out.Goals as goal

pub returns-in-Ok-clause-run : goal.returns-in-Ok-clause-run
returns-in-Ok-clause-run g c = inl (c.in-Ok.ensures.run, rw c.in-Ok.ensures.errors refl)

pub returns-in-Err-clause-run : goal.returns-in-Err-clause-run
returns-in-Err-clause-run g c = inr (
  c.in-Err.hinted.fault,
  c.in-Err.ensures.run,
  c.stopped-exit.ensures.exit,
  subst (λ e. TellsFault (writing_of g.E.Sink e c.stopped-exit.new.errors) c.in-Err.hinted.fault) c.in-Err.ensures.errors c.stopped-exit.ensures.told,
)
