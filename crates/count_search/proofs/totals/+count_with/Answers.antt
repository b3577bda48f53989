use Rattle.std.proofs.Common.{◌++◌, IfOk, MatchOption, arith, sym, subst}
use Rattle.match_puzzle.specs.Numbers.{AreMoreThan}
use Rattle.xcc_form.specs.Chosen.{Selection, IsSelection}
use Rattle.count_search.specs.Looks.{AreLooks}
use Rattle.xcc_dance.proofs.PickingLemmas.{none_picked, one_picked, picked_chosen, picked_is_open}
use Rattle.count_search.specs.Extensions.{IsExtension, HasExtensions}
use Rattle.count_search.proofs.totals.+count_with.Goals as goal

pub choose-requires : goal.choose-requires
choose-requires g t c =
    let s = g.E.OpenOptions.selection c.args.engine.now in
    picked_is_open s.compiled s.chosen c.in-Some.others.now c.args.options.now c.in-Some.option.now c.in-Some.ensures.cases.0 c.requires.selection

pub count_with-counted-requires : goal.count_with-counted-requires
count_with-counted-requires g t c =
    let s = g.E.OpenOptions.selection c.args.engine.now in
    let others = c.in-Some.others.now in
    let shorter = c.in-Some.ensures.cases.1 in
    λ κs below. (
      omega (arith, c.decreases, shorter),
      (
        below,
        (
          subst (λ (v : Selection). AreLooks v.compiled c.args.looks.now) (sym c.in_ok-choose.ensures.chosen) c.requires.looks,
          subst (λ (v : Selection). IsSelection v.compiled (v.chosen ++ others)) (sym c.in_ok-choose.ensures.chosen)
              (picked_chosen s.compiled s.chosen others c.args.options.now c.in-Some.option.now c.in-Some.ensures.cases.0 c.requires.selection),
        ),
      ),
    )

pub returns-in_default-clause-counted : goal.returns-in_default-clause-counted
returns-in_default-clause-counted g t c =
    let s = g.E.OpenOptions.selection c.args.engine.now in
    let most = c.args.most in
    subst
    (λ cs. IfOk c.count_below.result (λ o. MatchOption o (AreMoreThan most (IsExtension (record { compiled = s.compiled; chosen = cs }))) (HasExtensions (record { compiled = s.compiled; chosen = cs }))))
    (sym (none_picked s.chosen c.args.options.now c.in_default.ensures.cases)) c.count_below.ensures.counted

pub returns-clause-counted : goal.returns-clause-counted
returns-clause-counted g t c =
    let s = g.E.OpenOptions.selection c.args.engine.now in
    let others = c.in-Some.others.now in
    let most = c.args.most in
    let counted = subst
    (λ (v : Selection). IfOk c.count_with-counted.result (λ o. MatchOption o (AreMoreThan most (IsExtension (record { compiled = v.compiled; chosen = v.chosen ++ others }))) (HasExtensions (record { compiled = v.compiled; chosen = v.chosen ++ others }))))
    c.in_ok-choose.ensures.chosen c.count_with-counted.ensures.counted in
    subst
    (λ cs. IfOk c.count_with-counted.result (λ o. MatchOption o (AreMoreThan most (IsExtension (record { compiled = s.compiled; chosen = cs }))) (HasExtensions (record { compiled = s.compiled; chosen = cs }))))
    (one_picked s.chosen others c.args.options.now c.in-Some.option.now c.in-Some.ensures.cases.0) counted
