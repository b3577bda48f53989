use Rattle.command_runs.proofs.check_runs.verdict_of.Goals as goal

pub returns : goal.returns
returns g c = record {
  answer = c.in_ok-answer.answer;
  answered = c.in_ok-answer.ensures.answer;
  sound = c.in_ok-answer.ensures.complete;
  line = c.in_ok-verdict.ensures.line;
  status = c.in_ok-verdict.ensures.status;
}
