use Rattle.std.proofs.Common.{subst}
use Rattle.cert_text.specs.LemmaParts.{TellsOfLimits}
use Rattle.cert_text.proofs.crew_limits.are_lemmas_within.Goals as goal

pub returns-in-None : goal.returns-in-None
returns-in-None g c = subst (λ n. TellsOfLimits c.args.version c.args.lemmas.now 0 n c.are_lemmas_within_limits.result) c.len.ensures c.are_lemmas_within_limits.ensures
