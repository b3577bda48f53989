use Rattle.std.proofs.Common.{IfOk, MatchOption, sym, subst}
use Rattle.match_puzzle.specs.Arrangement.{IsArrangement, HasArrangements}
use Rattle.match_puzzle.specs.Numbers.{AreMoreThan}
use Rattle.xcc_form.specs.Chosen.{Selection, IsSelection}
use Rattle.count_search.specs.Looks.{AreLooks}
use Rattle.count_search.specs.Branches.{AllChoose, HaveTogether, HaveMoreTogether}
use Rattle.count_search.proofs.TotalLemmas.{told_of_split}
use Rattle.count_search.proofs.SpreadLemmas.{ok_then, split_of}
use Rattle.count_search.proofs.totals.count_arrangements.Goals as goal

pub count_branches-requires-clause-looks : goal.count_branches-requires-clause-looks
count_branches-requires-clause-looks g c =
    subst (λ (v : Selection). AreLooks v.compiled c.deref.result.now) (sym c.in_ok-engine.ensures) (subst (AreLooks c.args.count.xcc.now) (sym c.deref.ensures.value) c.in_ok-looks.ensures)

pub count_branches-requires-clause-selections : goal.count_branches-requires-clause-selections
count_branches-requires-clause-selections g c =
    let x = c.args.count.xcc.now in
    subst (λ (v : Selection). AllChoose (IsSelection v.compiled) c.deref-2.result.now) (sym c.in_ok-engine.ensures)
    (subst (AllChoose (IsSelection x)) (sym c.deref-2.ensures.value) (c.in_ok-spread.ensures.selections x c.requires.selections))

pub returns-clause-counted : goal.returns-clause-counted
returns-clause-counted g c =
    let x = c.args.count.xcc.now in
    let branches = c.args.count.branches.items in
    let spread = c.in_ok-spread.spread.items in
    let most = c.args.most in
    let counted = subst (λ (v : Selection). IfOk c.count_branches.result (λ o. MatchOption o (HaveMoreTogether v.compiled c.deref-2.result.now most) (HaveTogether v.compiled c.deref-2.result.now))) c.in_ok-engine.ensures c.count_branches.ensures.counted in
    ok_then (λ o. MatchOption o (HaveMoreTogether x spread most) (HaveTogether x spread)) (λ o. MatchOption o (AreMoreThan most (IsArrangement x.puzzle)) (HasArrangements x.puzzle))
    (λ o said. told_of_split x spread most o (split_of x spread branches (c.in_ok-spread.ensures.stand x) c.requires.split) (c.in_ok-spread.ensures.selections x c.requires.selections) said) c.count_branches.result
    (subst (λ bs. IfOk c.count_branches.result (λ o. MatchOption o (HaveMoreTogether x bs most) (HaveTogether x bs))) c.deref-2.ensures.value counted)
