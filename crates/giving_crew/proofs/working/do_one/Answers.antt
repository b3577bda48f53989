use Rattle.std.proofs.Common.{ap, ◌∙◌, ◌++◌, ◌∷◌, []}
use Rattle.giving_crew.proofs.LiveWorkerLemmas.{ready_more, moved_one}
use Rattle.giving_crew.proofs.working.do_one.Goals as goal

pub returns : goal.returns
returns g c = let number = c.args.numbered.number in let result = c.in_ok-result.result in
    let more = c.push_reserved.ensures.items ∙ ap (λ z. z ++ (number, result) ∷ []) c.in_ok-reserve.ensures.items in
    record {
      ready = ready_more _ _ _ _ _ number c.args.numbered.job result c.requires c.in_ok-result.ensures.hand.same
          c.in_ok-result.ensures.result more;
      moved = moved_one _ _ _ number result c.in_ok-result.ensures.hand more;
    }
