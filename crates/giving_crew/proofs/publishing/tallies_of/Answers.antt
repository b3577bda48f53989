use Rattle.std.proofs.Common.{arith, ◌≡◌, ◌<◌, length, vec_len}
use Rattle.giving_crew.proofs.LiveResultLemmas.{tallies_more}
use Rattle.giving_crew.proofs.publishing.tallies_of.Goals as goal

pub loop-at-preserved : goal.loop-at-preserved
loop-at-preserved g c = let inv = c.loop-at.invariant in
    let n : vec_len c.args.others.now ≡ length c.args.others.now.items = c.args.others.now.ok.0 in
    let low = c.loop-at-test.true in let end = c.len-at-end.ensures in let l = inv.len in
    let m = c.in_ok-push-3.ensures.len in
    let inside : c.loop-at.at < length c.args.others.now.items = omega arith in record {
      len = omega arith;
      all = λ x. tallies_more x _ c.loop-at.at _ _ c.in_ok-with_numbers-2.field-0 c.new.result _ c.index.result.now
          c.in_ok-push-3.ensures.items c.in_ok-with_numbers-2.ensures c.new.ensures.items inside c.index.ensures
          (inv.all x);
    }
