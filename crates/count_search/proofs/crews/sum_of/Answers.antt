use Rattle.std.proofs.Common.{◌≡◌, ◌+◌, ◌*◌, None, length, take, arith, refl, sym, subst}
use Rattle.std.specs.Fork.{slice_chunk}
use Rattle.count_search.specs.Branches.{HaveTogether, IsTotal}
use Rattle.count_search.proofs.ChunkLemmas.{all_chunks, chunk_more, too_many_there, too_many_with}
use Rattle.count_search.proofs.crews.sum_of.Goals as goal

pub loop-total-init : goal.loop-total-init
loop-total-init c = λ x branches size are.
    let none : 0 ≡ 0 * size = omega arith in
    subst (λ k. HaveTogether x (take k branches) 0) none refl

pub loop-total-preserved : goal.loop-total-preserved
loop-total-preserved c = λ x branches size are.
    let n = c.loop-total.total-index in
    let chunk = slice_chunk branches size n in
    let told = subst (IsTotal x chunk) c.in-Some.is (are.each n None c.loop-total-test.true) in
    let before = c.loop-total.invariant x branches size are in
    let sum = c.in-Some-checked_add.ensures.1 in
    subst (HaveTogether x (take ((n + 1) * size) branches)) (sym sum)
    (chunk_more x branches size n c.loop-total.sum c.in-Some.total before told)

pub returns : goal.returns
returns c = λ x branches size are.
    let before = c.loop-total.invariant x branches size are in
    all_chunks x branches size (length c.args.totals.now) c.loop-total.total-index c.loop-total.sum are.all
    c.loop-total-test.false before

pub returns-in_default : goal.returns-in_default
returns-in_default c = λ x branches size are.
    let n = c.loop-total.total-index in
    let told = are.each n None c.loop-total-test.true in
    too_many_there x branches size n (subst (IsTotal x (slice_chunk branches size n)) c.in_default.is told)

pub returns-in_default-checked_add : goal.returns-in_default-checked_add
returns-in_default-checked_add c = λ x branches size are.
    let n = c.loop-total.total-index in
    let chunk = slice_chunk branches size n in
    let told = subst (IsTotal x chunk) c.in-Some.is (are.each n None c.loop-total-test.true) in
    let before = c.loop-total.invariant x branches size are in
    let past = c.in_default-checked_add.ensures in
    too_many_with x branches size n c.loop-total.sum c.in-Some.total before told (omega (arith, past))
