use Rattle.cert_check.proofs.forks.earlier.Goals as goal

pub returns : goal.returns
returns c = c.or.ensures
