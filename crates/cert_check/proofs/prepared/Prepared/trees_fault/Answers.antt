use Rattle.std.proofs.Common.{◌∙◌, length, arith, ap, subst}
use Rattle.std.proofs.lemmas.Option.{slice_get_within}
use Rattle.cert_check.specs.Setting.{Question}
use Rattle.cert_check.specs.Walk.{TellsOfLemma}
use Rattle.cert_check.proofs.prepared.Prepared.trees_fault.Goals as goal

pub returns-in-Some : goal.returns-in-Some
returns-in-Some g c =
    let told = subst (TellsOfLemma c.args.self.now c.loop-number.number) c.in-Some.is c.in_ok-fault.ensures.tells in
    record { occurs = (told.0, told.1, told.2); before = c.loop-number.invariant.before }

pub returns : goal.returns
returns g c = λ number lemma at.
    let lemmas = c.lemmas.ensures.lemmas ∙ ap (λ (q : Question). q.lemmas) c.self.view_is in
    let lt = slice_get_within c.args.self.now.lemmas number lemma at in
    let end = c.loop-number-test.false in
    c.loop-number.invariant.before number lemma (omega (arith, lt, ap length lemmas, c.len-number-end.ensures, end)) at
