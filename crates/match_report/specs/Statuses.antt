-- What a check found.
use Rattle.cert_check.specs.declared.faults.Answer.{Answer}
use Rattle.cert_check.specs.declared.faults.Answer.TheVariants as answers
use Rattle.match_report.specs.declared.statuses.Status.{Status}
use Rattle.match_report.specs.declared.statuses.Status.TheVariants.{Complete, Refused}

-- the status of an answer
abbrev pub status_of : Answer → Status
status_of answers.Complete = Complete
status_of (answers.Refused fault) = Refused
