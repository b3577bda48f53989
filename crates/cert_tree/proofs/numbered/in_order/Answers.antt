use Rattle.std.proofs.Common.{◌≡◌, length, Result, Ok, Err, ap, subst, ◌∙◌, arith}
use Rattle.std.specs.Prelude.{IfOk, IfErr}
use Rattle.std.proofs.lemmas.List.{length-replicate}
use Rattle.cert_tree.specs.Slots.{IsEntered}
use Rattle.cert_tree.proofs.AssemblyLemmas.{all_below, first_double, assembled, missing_of}
use Rattle.cert_tree.proofs.numbered.in_order.Goals as goal

each_ok : {X E : Type 0} {P Q : X → Type 0} (r : Result X E) → ((x : X) → P x → Q x) → IfOk r P → IfOk r Q
each_ok (Ok x) f p = f x p
each_ok (Err e) f p = tt

each_err : {X E : Type 0} {P Q : E → Type 0} (r : Result X E) → ((e : E) → P e → Q e) → IfErr r P → IfErr r Q
each_err (Ok x) f p = tt
each_err (Err e) f p = f e p

pub fill-requires-clause-below : goal.fill-requires-clause-below
fill-requires-clause-below g c = λ piece at.
    let long : length c.in_ok-slots.slots.items ≡ c.args.count = ap length c.in_ok-slots.ensures ∙ length-replicate c.args.count _ in
    let lt = all_below g.N.Numbered.numbered c.args.count c.args.pieces.items c.requires piece at in
    omega (arith, lt, long)

pub returns-in-Some-clause-err : goal.returns-in-Some-clause-err
returns-in-Some-clause-err g c =
    let entered = subst (IsEntered g.N.Numbered.numbered c.args.pieces.items c.fill.new.slots.items) c.in-Some.is c.fill.ensures.entered in
    first_double g.N.Numbered.numbered c.args.count c.args.pieces.items c.requires c.in-Some.number entered.least

pub returns-clause-ok : goal.returns-clause-ok
returns-clause-ok g c =
    let entered = subst (IsEntered g.N.Numbered.numbered c.args.pieces.items c.fill.new.slots.items) c.in_default.is c.fill.ensures.entered in
    let long : length c.fill.new.slots.items ≡ c.args.count = c.fill.ensures.long ∙ ap length c.in_ok-slots.ensures ∙ length-replicate c.args.count _ in
    each_ok c.take_each.result (λ sorted all. assembled g.N.Numbered.numbered c.args.count c.args.pieces.items c.requires c.fill.new.slots.items long entered sorted.items all) c.take_each.ensures.all

pub returns-clause-err : goal.returns-clause-err
returns-clause-err g c =
    let entered = subst (IsEntered g.N.Numbered.numbered c.args.pieces.items c.fill.new.slots.items) c.in_default.is c.fill.ensures.entered in
    let long : length c.fill.new.slots.items ≡ c.args.count = c.fill.ensures.long ∙ ap length c.in_ok-slots.ensures ∙ length-replicate c.args.count _ in
    each_err c.take_each.result (λ fault first. missing_of g.N.Numbered.numbered c.args.count c.args.pieces.items c.requires c.fill.new.slots.items long entered fault first) c.take_each.ensures.missing

pub take_each-requires : goal.take_each-requires
take_each-requires g c =
    let long : length c.fill.new.slots.items ≡ c.args.count = c.fill.ensures.long ∙ ap length c.in_ok-slots.ensures ∙ length-replicate c.args.count _ in
    omega (arith, long)
