use Rattle.std.proofs.Common.{◌∙◌, arith, refl, ap, sym, fold, take}
use Rattle.std.proofs.lemmas.List.{take_all}
use Rattle.std.proofs.lemmas.List.Sums.{fold_more}
use Rattle.count_search.specs.Hash.{first_hash, hash_branch}
use Rattle.count_search.proofs.hashes.hash_of.Goals as goal

pub loop-branch-init : goal.loop-branch-init
loop-branch-init c = refl

pub loop-branch-preserved : goal.loop-branch-preserved
loop-branch-preserved c =
    let b = c.branch-item.result in
    let branches = c.args.branches.now in
    let more = fold_more hash_branch first_hash branches c.loop-branch.branch-index b c.loop-branch-test.true in
    c.hash_branch-hash.ensures ∙ ap (λ hash. hash_branch hash b) c.loop-branch.invariant ∙ ap (hash_branch (fold hash_branch first_hash (take c.loop-branch.branch-index branches))) c.branch-item.is ∙ sym more

pub returns : goal.returns
returns c =
    let end = c.loop-branch-test.false in
    c.loop-branch.invariant ∙ ap (fold hash_branch first_hash) (take_all c.loop-branch.branch-index c.args.branches.now (omega (arith, end)))
