use Rattle.std.proofs.Common.{◌∙◌, ◌+◌, length, drop, ap, arith}
use Rattle.std.proofs.lemmas.Iterator.Adapters.{YieldsList-from_vec}
use Rattle.std.proofs.lemmas.Iterator.Consumers.{YieldsList-turn, YieldsList-end}
use Rattle.std.proofs.lemmas.List.{length_push}
use Rattle.std.proofs.lemmas.Result.{err_from_is_err_and}
use Rattle.cert_text.specs.Parts.{parts_say}
use Rattle.cert_text.proofs.PartLemmas.{joined_all, joined_none, onto, read_fault, read_more}
use Rattle.cert_text.proofs.parts.joined.Goals as goal

pub loop-one-init : goal.loop-one-init
loop-one-init c = λ parts are. ap (λ all. onto all (parts_say parts)) c.none-all.ensures ∙ joined_none parts

pub returns-in_err-one : goal.returns-in_err-one
returns-in_err-one c = λ parts are.
    let read = c.args.read.items in
    let gives = c.into_iter-one-iterator.ensures.into_iter_gives in
    let turn = YieldsList-turn (YieldsList-from_vec read gives.0 (gives.1 ∙ c.args.read.ok.0)) c.loop-one.yielded c.loop-one.one-iterator c.loop-one.yielded_by c.next.result c.next.new.self c.in-Some.one c.in-Some.is c.next.ensures.steps in
    let p = err_from_is_err_and c.from_residual.result c.from_residual.ensures.1 in
    rw (p.1, p.2) (read_fault parts read are (length c.loop-one.yielded) c.in-Some.one turn.0 turn.1 c.loop-one.all (c.loop-one.invariant parts are) c.in_err-one.field-0.0 c.in_err-one.was)

pub loop-one-preserved : goal.loop-one-preserved
loop-one-preserved c = λ parts are.
    let read = c.args.read.items in
    let n = length c.loop-one.yielded in
    let gives = c.into_iter-one-iterator.ensures.into_iter_gives in
    let turn = YieldsList-turn (YieldsList-from_vec read gives.0 (gives.1 ∙ c.args.read.ok.0)) c.loop-one.yielded c.loop-one.one-iterator c.loop-one.yielded_by c.next.result c.next.new.self c.in-Some.one c.in-Some.is c.next.ensures.steps in
    let more = read_more parts read are n c.in-Some.one turn.0 turn.1 c.loop-one.all (c.loop-one.invariant parts are) c.in_ok-one.field-0 c.in_ok-one.was in
    ap (λ k. onto c.in_ok-all.all (parts_say (drop k parts))) (length_push c.loop-one.yielded c.in-Some.one)
    ∙ ap (λ all. onto all (parts_say (drop (n + 1) parts))) c.in_ok-all.ensures ∙ more

pub returns : goal.returns
returns c = λ parts are.
    let read = c.args.read.items in
    let gives = c.into_iter-one-iterator.ensures.into_iter_gives in
    let end = YieldsList-end (YieldsList-from_vec read gives.0 (gives.1 ∙ c.args.read.ok.0)) c.loop-one.yielded c.loop-one.one-iterator c.loop-one.yielded_by c.next.result c.next.new.self c.in-None.is c.next.ensures.steps in
    let many = are.many in
    let all = end.1 in
    joined_all parts (length c.loop-one.yielded) c.loop-one.all (omega arith) (c.loop-one.invariant parts are)
