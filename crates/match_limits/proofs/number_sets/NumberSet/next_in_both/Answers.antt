use Rattle.std.proofs.Common.{◌≤◌, ◌/◌, arith}
use Rattle.match_limits.proofs.SetPairLemmas.{first_mask, next_mask, none_at_first, none_in_both, none_more, next_few, next_found}
use Rattle.match_limits.proofs.number_sets.NumberSet.next_in_both.Goals as goal

pub loop-i-init : goal.loop-i-init
loop-i-init c = record {
  mask = first_mask c.args.from c.from-first.result c.from-first.ensures;
  none = none_at_first c.self.inside.words c.other.inside.words c.args.from c.from-first.result c.from-first.ensures;
}

pub loop-i-preserved : goal.loop-i-preserved
loop-i-preserved c =
    let i = c.loop-i.i in
    let first : c.args.from / 64 ≤ i = omega (arith, c.from-first.ensures, c.loop-i.auto.i) in
    record {
      mask = next_mask c.args.from i first;
      none = none_more c.self.inside.words c.other.inside.words c.self.inside.end c.self.invariant c.other.invariant.small c.args.from i c.loop-i.invariant.none c.loop-i.mask c.loop-i-test.true c.loop-i.invariant.mask c.if-word-ne0.false;
    }

pub returns-then-word-ne0-clause-few : goal.returns-then-word-ne0-clause-few
returns-then-word-ne0-clause-few c =
    next_few c.self.inside.words c.other.inside.words c.self.inside.end c.self.invariant c.other.invariant.small c.args.from c.loop-i.i c.loop-i.invariant.none c.loop-i.mask c.loop-i-test.true c.loop-i.invariant.mask c.if-word-ne0.true

pub returns-then-word-ne0-clause-least : goal.returns-then-word-ne0-clause-least
returns-then-word-ne0-clause-least c =
    rw (← c.self.view_is, ← c.other.view_is)
    (next_found c.self.inside.words c.other.inside.words c.self.inside.end c.self.invariant c.other.invariant.small c.args.from c.loop-i.i c.loop-i.invariant.none c.loop-i.mask c.loop-i-test.true c.loop-i.invariant.mask c.if-word-ne0.true)

pub returns-clause-least : goal.returns-clause-least
returns-clause-least c =
    rw (← c.self.view_is, ← c.other.view_is)
    (none_in_both c.self.inside.words c.other.inside.words c.self.inside.end c.self.invariant c.other.invariant.small c.args.from c.loop-i.i c.loop-i.invariant.none c.loop-i-test.false)
