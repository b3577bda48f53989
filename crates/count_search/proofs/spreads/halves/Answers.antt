use Rattle.std.proofs.Common.{◌≡◌, ◌++◌, ◌∷◌, [], List, length, length-append, append-nil, arith, refl, ap, ap₂, sym, ◌∙◌, subst}
use Rattle.count_search.specs.Branches.{WeightedBranch, AllChoose, HaveTogether}
use Rattle.xcc_form.specs.Chosen.{IsSelection}
use Rattle.count_search.proofs.SpreadLemmas.{stand_next, selections_next}
use Rattle.count_search.proofs.spreads.halves.Goals as goal

pub loop-branch-init : goal.loop-branch-init
loop-branch-init c =
    let these = c.new-these.ensures.items in
    let others = c.new-others.ensures.items in
    let gives = c.into_iter-branch-iterator.ensures.into_iter_gives in
    let rest = c.into_iter-branch-iterator.result.rest.items in
    let all = ap₂ (λ xs ys. (xs ++ ys) ++ rest) these others ∙ gives.0 in
    let a = ap length these in
    let b = ap length others in
    let e = ap length gives.0 in
    record {
      stand = λ x total t. subst (λ bs. HaveTogether x bs total) all t;
      selections = λ x are. subst (AllChoose (IsSelection x)) (sym all) are;
      long = omega (arith, a, b, e);
      rest = gives.1 ∙ c.args.branches.ok.0 ∙ sym (ap length gives.0);
    }

pub loop-branch-preserved : goal.loop-branch-preserved
loop-branch-preserved c =
    let i = c.loop-branch.invariant in
    let these = c.loop-branch.these.items in
    let others = c.loop-branch.others.items in
    let rest = c.next.new.self.rest.items in
    let branch = c.in-Some.branch in
    let steps = c.in-Some.ensures.steps.0 in
    let first : c.swap.new.x.items ≡ others = ap (λ v. v.items) c.swap.ensures.x_after in
    let second : c.swap.new.y.items ≡ these ++ branch ∷ [] = ap (λ v. v.items) c.swap.ensures.y_after ∙ c.in_ok-push.ensures.items in
    let all = ap₂ (λ xs ys. (xs ++ ys) ++ rest) first second in
    let a = ap length first in
    let b = ap length second in
    let more = length-append these (branch ∷ []) in
    let fewer = ap length steps in
    let before = i.long in
    record {
      stand = λ x total t. stand_next x these others rest c.args.branches.items branch (λ n u. i.stand x n (subst (λ bs. HaveTogether x ((these ++ others) ++ bs) n) (sym steps) u)) total (subst (λ bs. HaveTogether x bs total) all t);
      selections = λ x are. subst (AllChoose (IsSelection x)) (sym all) (selections_next x these others rest branch (subst (λ bs. AllChoose (IsSelection x) ((these ++ others) ++ bs)) steps (i.selections x are)));
      long = omega (arith, a, b, more, fewer, before);
      rest = (let all = i.rest in let fewer = c.in-Some.ensures.steps.1 in let long = ap length steps in omega (arith, all, fewer, long));
    }

no_items : (xs : List WeightedBranch) → length xs ≡ 0 → xs ≡ []
no_items [] e = refl
no_items (x ∷ xs) e = absurd (omega (arith, e))

pub returns-clause-stand : goal.returns-clause-stand
returns-clause-stand c = λ x total t.
    let i = c.loop-branch.invariant in
    let both = c.loop-branch.these.items ++ c.loop-branch.others.items in
    let none = no_items c.loop-branch.branch-iterator.rest.items (sym i.rest ∙ c.in-None.ensures.steps.0) in
    let all = c.in_ok-append.ensures.items ∙ sym (append-nil both) ∙ ap (λ xs. both ++ xs) (sym none) in
    i.stand x total (subst (λ bs. HaveTogether x bs total) all t)

pub returns-clause-selections : goal.returns-clause-selections
returns-clause-selections c = λ x are.
    let i = c.loop-branch.invariant in
    let both = c.loop-branch.these.items ++ c.loop-branch.others.items in
    let none = no_items c.loop-branch.branch-iterator.rest.items (sym i.rest ∙ c.in-None.ensures.steps.0) in
    let all = c.in_ok-append.ensures.items ∙ sym (append-nil both) ∙ ap (λ xs. both ++ xs) (sym none) in
    subst (AllChoose (IsSelection x)) (sym all) (i.selections x are)

pub returns-clause-long : goal.returns-clause-long
returns-clause-long c =
    let i = c.loop-branch.invariant in
    let none : length c.loop-branch.branch-iterator.rest.items ≡ 0 = sym i.rest ∙ c.in-None.ensures.steps.0 in
    let all = ap length c.in_ok-append.ensures.items in
    let both = length-append c.loop-branch.these.items c.loop-branch.others.items in
    let long = i.long in
    omega (arith, none, all, both, long)
