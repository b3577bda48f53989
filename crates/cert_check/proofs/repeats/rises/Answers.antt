use Rattle.std.proofs.Common.{rules}
use Rattle.std.proofs.lemmas.Fn.{always_returns_same}
use Rattle.cert_check.proofs.RepeatLemmas.{is_before, rises_told}
use Rattle.cert_check.proofs.repeats.rises.Goals as goal

pub returns : goal.returns
returns c =
    rises_told c.args.listed.now c.is_sorted_by.result (c.is_sorted_by.ensures.cases is_before (always_returns_same _ _ _ (λ a r f' h. search rules)))
