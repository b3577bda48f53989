use Rattle.std.proofs.Common.{◌≡◌, ◌∙◌, List, length, sym, ap, subst, vec_len}
use Rattle.rayon.proofs.ListFacts.{IfOk-then}
use Rattle.cert_check.specs.Setting.{Question}
use Rattle.cert_check.specs.Jobs.{Finding, IsFirstFound}
use Rattle.cert_check.proofs.FindingLemmas.{tells_trees}
use Rattle.cert_check.proofs.crew_checks.trees_fault.Goals as goal

pub returns : goal.returns
returns g c =
    let question = c.args.prepared.now in
    let findings = c.in_ok-found.found.items in
    let n : vec_len c.in_ok-found.found ≡ length findings = c.in_ok-found.found.ok.0 in
    let long : length findings ≡ length question.lemmas = sym n ∙ c.in_ok-found.ensures.many ∙ c.len-count.ensures
    ∙ ap length (c.lemmas.ensures.lemmas ∙ ap (λ (q : Question). q.lemmas) c.question.ensures.question) in
    IfOk-then c.first_found.result _ _ c.first_found.ensures (λ said first.
    tells_trees question findings long c.in_ok-found.ensures.each said (subst (λ (fs : List Finding). IsFirstFound fs said) c.deref.ensures.value first))
