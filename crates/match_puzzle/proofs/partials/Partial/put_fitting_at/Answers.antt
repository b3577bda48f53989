use Rattle.std.proofs.Common.{◌≡◌, ◌∙◌, Some, None, ap, rules}
use Rattle.match_puzzle.specs.Prefix.{IsFree}
use Rattle.match_puzzle.proofs.FittingLemmas.{fitting_common}
use Rattle.match_puzzle.proofs.partials.Partial.put_fitting_at.Goals as goal

pub returns-clause-fitting : goal.returns-clause-fitting
returns-clause-fitting c =
    let none : c.at.result ≡ None = search rules in
    let free : IsFree c.args.self.now.placed c.args.cell = c.at.ensures.value ∙ ap Some none in
    fitting_common c.args.self.now.puzzle c.args.self.now.placed c.args.cell _ _ _ _ _ c.free.ensures c.as_asked.ensures c.as_asked-2.ensures c.as_asked-3.ensures c.as_asked-4.ensures free c.put_common.new.self c.put_common.ensures
