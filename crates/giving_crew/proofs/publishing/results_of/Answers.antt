use Rattle.std.proofs.Common.{◌≡◌, ◌<◌, ◌∙◌, ℕ, IfOk, vec_len, arith, subst}
use Rattle.steal_crew.specs.Results.{filled}
use Rattle.giving_crew.specs.LiveWorkers.{AreByNumber}
use Rattle.giving_crew.proofs.LiveResultLemmas.{all_filled, some_drawn, both_entered}
use Rattle.giving_crew.proofs.publishing.results_of.Goals as goal

pub take_results-requires-clause-some : goal.take_results-requires-clause-some
take_results-requires-clause-some g c κs within = let some : 0 < c.args.count =
    some_drawn c.args.count _ _ (c.requires 0) in
    let a : vec_len c.enter_all.new.slots ≡ c.args.count =
    c.enter_all.ensures.len ∙ (c.enter.ensures.len ∙ c.in_ok-slots.ensures.0) in omega arith

pub take_results-requires-clause-filled : goal.take_results-requires-clause-filled
take_results-requires-clause-filled g c κs within = λ x some lt.
    let a : vec_len c.enter_all.new.slots ≡ vec_len c.enter.new.slots = c.enter_all.ensures.len in
    let b : vec_len c.enter.new.slots ≡ vec_len c.in_ok-slots.slots = c.enter.ensures.len in
    let d : vec_len c.in_ok-slots.slots ≡ c.args.count = c.in_ok-slots.ensures.0 in
    both_entered (filled x c.in_ok-slots.slots.items) (filled x c.enter.new.slots.items)
    (filled x c.enter_all.new.slots.items) _ _ (all_filled x c.args.count _ _ (c.requires x) some (omega arith))
    (c.enter.ensures.filled x (omega arith)) (c.enter_all.ensures.filled x (omega arith))

pub returns : goal.returns
returns g c = λ work source rest.
    let entered = c.enter_all.ensures.slots work source rest.others_done (c.enter.ensures.slots work source rest.own_done (c.in_ok-slots.ensures.1 work source)) in
    subst (λ (n : ℕ). IfOk c.take_results.result (AreByNumber (g.W.LiveWork.gives work source) c.args.first n))
    (c.enter_all.ensures.len ∙ (c.enter.ensures.len ∙ c.in_ok-slots.ensures.0)) (c.take_results.ensures work source entered)
