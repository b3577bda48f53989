use Rattle.std.proofs.Common.{IfSome, subst, sym}
use Rattle.xcc_form.specs.Chosen.{Selection}
use Rattle.count_search.specs.Balance.{IsBalance}
use Rattle.count_search.specs.Extensions.{IsExtension}
use Rattle.count_search.proofs.BalanceLemmas.{none_if_short}
use Rattle.count_search.proofs.balanced_sets.BalancedSetsRulesOut.is_ruled_out.Goals as goal

pub returns-in-Some : goal.returns-in-Some
returns-in-Some c = λ is_short a extends.
    let s = c.self.inside.sets in
    let balance = subst (λ o. IfSome o (IsBalance s.compiled s.chosen)) c.in-Some.is c.self.invariant in
    none_if_short s.compiled s.chosen c.in-Some.balance c.chosen-right.ensures.right balance (c.is_short.ensures is_short) a (subst (λ (v : Selection). IsExtension v a) (sym c.self.view_is) extends)
