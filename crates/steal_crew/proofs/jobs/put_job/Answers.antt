use Rattle.steal_crew.proofs.JobLemmas.{deals}
use Rattle.steal_crew.proofs.jobs.put_job.Goals as goal

pub push_as-requires-clause-rule : goal.push_as-requires-clause-rule
push_as-requires-clause-rule g c = deals _ _ _ c.requires.part
