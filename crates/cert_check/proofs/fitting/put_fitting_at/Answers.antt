use Rattle.match_puzzle.proofs.FittingLemmas.{fitting_common}
use Rattle.cert_check.proofs.fitting.put_fitting_at.Goals as goal

pub returns-clause-fitting : goal.returns-clause-fitting
returns-clause-fitting c =
    fitting_common c.args.partial.now.puzzle c.args.partial.now.placed c.args.cell _ _ _ _ _ c.free.ensures c.as_asked.ensures c.as_asked-2.ensures c.as_asked-3.ensures c.as_asked-4.ensures c.requires.free c.put_common.new.self c.put_common.ensures
