use Rattle.std.proofs.Common.{ap, drop, ◌∙◌}
use Rattle.cert_check.proofs.SceneLemmas.{taken_is}
use Rattle.cert_check.proofs.scenes.pair_at.Goals as goal

pub returns : goal.returns
returns c =
    let (xs, fitting, from) = c.pairs_from-pairs.ensures in
    let past = from ∙ ap (λ n. drop n xs) c.from.ensures in
    (xs, fitting, taken_is c.args.number xs c.pairs_from-pairs.result c.take_first.new.self c.take_first.result past c.take_first.ensures)
