use Rattle.std.proofs.Common.{sym, subst}
use Rattle.std.proofs.lemmas.Result.{IfOk-weaker}
use Rattle.cert_check.specs.Walk.{TellsOfLemma}
use Rattle.cert_check.proofs.jobs.walk_tree.Goals as goal

pub returns : goal.returns
returns g c =
    IfOk-weaker c.boxed.result _ _ (λ finding is. subst (TellsOfLemma c.args.prepared.now c.args.number) (sym is) c.in_ok-found.ensures) c.boxed.ensures
