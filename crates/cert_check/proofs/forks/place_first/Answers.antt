use Rattle.cert_check.proofs.forks.place_first.Goals as goal

pub unreachable-requires : goal.unreachable-requires
unreachable-requires c = c.requires.some c.in_default.ensures.0

pub place-requires-clause-legal : goal.place-requires-clause-legal
place-requires-clause-legal c = (c.requires.fits c.in-Some.pair c.take_first.new.self c.in-Some.ensures).legal

pub place-requires-clause-free : goal.place-requires-clause-free
place-requires-clause-free c = (c.requires.fits c.in-Some.pair c.take_first.new.self c.in-Some.ensures).free

pub place-requires-clause-unused : goal.place-requires-clause-unused
place-requires-clause-unused c = (c.requires.fits c.in-Some.pair c.take_first.new.self c.in-Some.ensures).unused
