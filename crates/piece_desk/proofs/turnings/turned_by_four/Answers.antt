use Rattle.std.proofs.Common.{subst}
use Rattle.std.proofs.lemmas.Result.{IfOk-weaker}
use Rattle.piece_desk.specs.Turnings.{AreTurned}
use Rattle.piece_desk.specs.declared.turnings.Half.{Half}
use Rattle.piece_desk.proofs.TurningLemmas.{both_turned, split_apart}
use Rattle.piece_desk.proofs.turnings.turned_by_four.Goals as goal

pub returns : goal.returns
returns g c =
    let lemmas = c.args.lemmas.now in
    let front = c.split_at.result.0.now in
    let back = c.split_at.result.1.now in
    let apart = split_apart c.middle.result lemmas front back c.split_at.ensures.front c.split_at.ensures.back in
    let h = c.in_ok-front.ensures in
    let is_front = subst (λ (half : Half). AreTurned c.args.count c.args.first.now half.lemmas.now c.in_ok-front.front) h.left.shows h.left.says.met in
    let is_back = subst (λ (half : Half). AreTurned c.args.count c.args.first.now half.lemmas.now c.in_ok-front.back) h.right.shows h.right.says.met in
    IfOk-weaker c.with.result _ _ (λ all is. both_turned c.args.count c.args.first.now lemmas front back all c.in_ok-front.front c.in_ok-front.back apart is_front is_back is) c.with.ensures
