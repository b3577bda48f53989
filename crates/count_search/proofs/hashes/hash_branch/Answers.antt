use Rattle.std.proofs.Common.{◌∙◌, rules, arith, ap, ap₂, fold, length}
use Rattle.std.proofs.lemmas.List.{take_all}
use Rattle.std.proofs.lemmas.List.Sums.{fold_more}
use Rattle.count_search.specs.Hash.{hash_with}
use Rattle.count_search.proofs.hashes.hash_branch.Goals as goal

pub loop-option-init : goal.loop-option-init
loop-option-init c = c.hash_with-hash.ensures ∙ ap₂ hash_with (c.hash_with.ensures ∙ ap (hash_with c.args.before) c.weight.ensures.value) (ap length c.chosen-chosen.ensures)

pub loop-option-preserved : goal.loop-option-preserved
loop-option-preserved c = search (rules, fold_more)

pub returns : goal.returns
returns c =
    let end = c.loop-option-test.false in
    c.loop-option.invariant ∙ ap (fold hash_with _) (take_all c.loop-option.option-index c.chosen-chosen.result.now (omega (arith, end)) ∙ c.chosen-chosen.ensures)
