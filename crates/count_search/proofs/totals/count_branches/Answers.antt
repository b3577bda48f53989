use Rattle.std.proofs.Common.{◌≤◌, ◌-◌, ◌/◌, ◌++◌, MatchOption, IfSome, ap, ◌∙◌, subst, arith}
use Rattle.std.proofs.lemmas.List.{take_all}
use Rattle.match_limits.proofs.ListLemmas.{contains_at}
use Rattle.match_puzzle.specs.Numbers.{AreMoreThan}
use Rattle.xcc_form.specs.Chosen.{Selection}
use Rattle.count_search.specs.Branches.{HaveTogether}
use Rattle.count_search.proofs.BranchLemmas.{read_at}
use Rattle.xcc_dance.proofs.PickingLemmas.{selection_for}
use Rattle.count_search.proofs.PickingLemmas.{chosen_for}
use Rattle.count_search.proofs.TotalLemmas.{within_share, one_more_taken, more_than_share}
use Rattle.count_search.specs.Extensions.{IsExtension, HasExtensions}
use Rattle.count_search.proofs.totals.count_branches.Goals as goal

pub count_with-requires-clause-selection : goal.count_with-requires-clause-selection
count_with-requires-clause-selection g c =
    let s = g.E.OpenOptions.selection c.args.engine.now in
    let b = c.branch-item.result in
    let at = read_at c.args.branches.now c.loop-branch.branch-index b c.loop-branch-test.true c.branch-item.is in
    selection_for (g.E.OpenOptions.selection c.loop-branch.engine) s b.chosen c.chosen.result.now (ap g.E.OpenOptions.selection c.loop-branch.invariant.same) c.requires.empty c.chosen.ensures
    (c.requires.selections b (contains_at c.args.branches.now c.loop-branch.branch-index b at))

pub returns-in_default-clause-counted : goal.returns-in_default-clause-counted
returns-in_default-clause-counted g c =
    let s = g.E.OpenOptions.selection c.args.engine.now in
    let v = g.E.OpenOptions.selection c.loop-branch.engine in
    let i = c.loop-branch.invariant in
    let b = c.branch-item.result in
    let weight = c.weight-weight.result in
    let chosen = chosen_for v s b c.chosen.result.now (ap g.E.OpenOptions.selection i.same) c.requires.empty c.chosen.ensures in
    let share = (c.args.most - c.loop-branch.total) / weight in
    let here : Selection = record { compiled = v.compiled; chosen = v.chosen ++ c.chosen.result.now } in
    let more = subst (λ o. MatchOption o (AreMoreThan share (IsExtension here)) (HasExtensions here)) c.in_default.is c.in_ok-count.ensures.counted in
    more_than_share s.compiled c.args.branches.now c.loop-branch.branch-index b weight c.loop-branch.total c.args.most c.loop-branch-test.true c.branch-item.is c.weight-weight.ensures.value c.weight-weight.ensures.least i.total i.most
    (subst (λ t. AreMoreThan share (IsExtension t)) chosen more)

pub overflow_mul-more : goal.overflow_mul-more
overflow_mul-more g c =
    let few = subst (λ o. IfSome o (λ n. n ≤ (c.args.most - c.loop-branch.total) / c.weight-weight.result)) c.in-Some.is c.in_ok-count.ensures.most in
    let within = within_share (c.args.most - c.loop-branch.total) c.weight-weight.result c.in-Some.count few in
    let fits = c.ranges.most in
    omega (arith, within, fits)

pub overflow_add-total : goal.overflow_add-total
overflow_add-total g c =
    let few = subst (λ o. IfSome o (λ n. n ≤ (c.args.most - c.loop-branch.total) / c.weight-weight.result)) c.in-Some.is c.in_ok-count.ensures.most in
    let within = within_share (c.args.most - c.loop-branch.total) c.weight-weight.result c.in-Some.count few in
    let le = c.loop-branch.invariant.most in
    let fits = c.ranges.most in
    omega (arith, within, le, fits)

pub loop-branch-preserved : goal.loop-branch-preserved
loop-branch-preserved g c =
    let s = g.E.OpenOptions.selection c.args.engine.now in
    let v = g.E.OpenOptions.selection c.loop-branch.engine in
    let i = c.loop-branch.invariant in
    let b = c.branch-item.result in
    let index = c.loop-branch.branch-index in
    let weight = c.weight-weight.result in
    let count = c.in-Some.count in
    let chosen = chosen_for v s b c.chosen.result.now (ap g.E.OpenOptions.selection i.same) c.requires.empty c.chosen.ensures in
    let share = (c.args.most - c.loop-branch.total) / weight in
    let here : Selection = record { compiled = v.compiled; chosen = v.chosen ++ c.chosen.result.now } in
    let counted = subst (λ o. MatchOption o (AreMoreThan share (IsExtension here)) (HasExtensions here)) c.in-Some.is c.in_ok-count.ensures.counted in
    let few = subst (λ o. IfSome o (λ n. n ≤ share)) c.in-Some.is c.in_ok-count.ensures.most in
    let within = within_share (c.args.most - c.loop-branch.total) weight count few in
    let le = i.most in
    let at = read_at c.args.branches.now index b c.loop-branch-test.true c.branch-item.is in
    record {
      same = c.in_ok-count.ensures.same ∙ i.same;
      total = one_more_taken s.compiled c.args.branches.now index b weight c.loop-branch.total count at c.weight-weight.ensures.value i.total (subst (λ t. HasExtensions t count) chosen counted);
      most = omega (arith, within, le);
    }

pub returns-clause-counted : goal.returns-clause-counted
returns-clause-counted g c =
    let end = c.loop-branch-test.false in
    subst (λ these. HaveTogether (g.E.OpenOptions.selection c.args.engine.now).compiled these c.loop-branch.total) (take_all c.loop-branch.branch-index c.args.branches.now (omega (arith, end))) c.loop-branch.invariant.total
