use Rattle.cert_check.proofs.repeats.first_repeated.Goals as goal

pub returns : goal.returns
returns c = c.least_repeated.ensures
