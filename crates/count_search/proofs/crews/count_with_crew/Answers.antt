use Rattle.std.proofs.Common.{length, arith, ap, sym, subst}
use Rattle.count_search.specs.Branches.{AllChoose, IsTotal}
use Rattle.xcc_form.specs.Chosen.{IsSelection}
use Rattle.count_search.specs.Looks.{AreLooks}
use Rattle.count_search.proofs.SpreadLemmas.{ok_then, total_of}
use Rattle.count_search.proofs.crews.count_with_crew.Goals as goal

pub count_chunks-requires-clause-selections : goal.count_chunks-requires-clause-selections
count_chunks-requires-clause-selections g c =
    let x = c.args.count.xcc.now in
    λ κs below. subst (AllChoose (IsSelection x)) (sym c.deref-2.ensures.value) (c.in_ok-spread.ensures.selections x c.requires.selections)

pub count_chunks-requires-clause-looks : goal.count_chunks-requires-clause-looks
count_chunks-requires-clause-looks g c = λ κs below. subst (AreLooks c.args.count.xcc.now) (sym c.deref.ensures.value) c.in_ok-looks.ensures

pub count_chunks-requires-clause-few : goal.count_chunks-requires-clause-few
count_chunks-requires-clause-few g c =
    let long = c.in_ok-spread.ensures.long in
    let value = ap length c.deref-2.ensures.value in
    let few = c.requires.few in
    λ κs below. omega (arith, long, value, few)

pub returns : goal.returns
returns g c =
    let x = c.args.count.xcc.now in
    let branches = c.args.count.branches.items in
    let spread = c.in_ok-spread.spread.items in
    ok_then (IsTotal x c.deref-2.result.now) (IsTotal x branches)
    (λ r told. total_of x spread branches r (c.in_ok-spread.ensures.stand x) (c.in_ok-spread.ensures.selections x c.requires.selections) (subst (λ bs. IsTotal x bs r) c.deref-2.ensures.value told))
    c.count_chunks.result c.count_chunks.ensures
