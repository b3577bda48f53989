use Rattle.std.proofs.lemmas.Result.{IfErr-weaker}
use Rattle.count_totals.specs.Totals.{FailsToTotal, Lack}
use Rattle.count_totals.proofs.TallyLemmas.{go_together}
use Rattle.count_totals.proofs.TextLemmas.{fails_at_end}
use Rattle.count_totals.proofs.totals.total_of.Goals as goal

pub returns-clause-fault : goal.returns-clause-fault
returns-clause-fault c =
    let told = c.in_ok-tally.ensures.tells in
    IfErr-weaker c.total.result (Lack told.0) (FailsToTotal c.args.text.now) (λ fault lack. fails_at_end c.args.text.now told.0 fault told.1 (go_together c.in_ok-tally.tally told.0 told.2) lack) (c.total.ensures.lack told.0 told.2)
