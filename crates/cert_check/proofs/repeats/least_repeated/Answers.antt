use Rattle.std.proofs.Common.{◌-◌, arith, sym, ◌∙◌, true≢false}
use Rattle.cert_check.proofs.RepeatLemmas.{at_place, among, least_none, least_kept, least_more, least_is}
use Rattle.cert_check.proofs.repeats.least_repeated.Goals as goal
use Rattle.cert_check.proofs.repeats.least_repeated.Goals.{then-are_equal, else-are_equal}

pub loop-next-init : goal.loop-next-init
loop-next-init c = least_none c.args.listed.now c.args.places.now

pub are_equal-requires-clause-first : goal.are_equal-requires-clause-first
are_equal-requires-clause-first c =
    let places = c.args.places.now in
    c.requires.places.within (at_place places (c.loop-next.next - 1)) (among c.args.listed.now places c.requires.places c.requires.sorted (c.loop-next.next - 1) (omega arith))

pub are_equal-requires-clause-second : goal.are_equal-requires-clause-second
are_equal-requires-clause-second c =
    let places = c.args.places.now in
    c.requires.places.within (at_place places c.loop-next.next) (among c.args.listed.now places c.requires.places c.requires.sorted c.loop-next.next c.loop-next-test.true)

pub are_equal-requires-clause-alike : goal.are_equal-requires-clause-alike
are_equal-requires-clause-alike c =
    let places = c.args.places.now in
    let n = c.loop-next.next in
    let member = among c.args.listed.now places c.requires.places c.requires.sorted in
    c.requires.places.alike (at_place places (n - 1)) (at_place places n) (member (n - 1) (omega arith)) (member n c.loop-next-test.true)

pub loop-next-preserved : goal.loop-next-preserved
loop-next-preserved c =
    let listed = c.args.listed.now in
    let places = c.args.places.now in
    let n = c.loop-next.next in
    elim c.if-are_equal.branch [
      | then-are_equal w ↦ rw w.least-is (least_more listed places n c.loop-next.least w.lesser.result (omega arith) c.loop-next-test.true (c.are_equal.ensures.0 w.if-are_equal.true) w.lesser.ensures c.loop-next.invariant)
      | else-are_equal w ↦ rw w.least-is (least_kept listed places n c.loop-next.least (λ same. true≢false (sym (c.are_equal.ensures.1 same) ∙ w.if-are_equal.false)) c.loop-next.invariant)
    ]

pub returns : goal.returns
returns c = least_is c.args.listed.now c.args.places.now c.requires.places c.requires.sorted c.loop-next.next c.loop-next.least c.loop-next-test.false c.loop-next.invariant
