use Rattle.crew_machine.proofs.MachineLemmas.{every_run}
use Rattle.crew_machine.proofs.laws.every_run_is_sound.Goals as goal

pub returns : goal.returns
returns c = every_run
