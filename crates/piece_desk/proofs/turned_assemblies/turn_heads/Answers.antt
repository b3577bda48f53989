use Rattle.std.proofs.Common.{◌≡◌, ◌-◌, ◌<◌, List, length, drop, get_or, set, ap, ◌∙◌, arith}
use Rattle.cert_tree.specs.declared.heads.Head.{Head}
use Rattle.piece_desk.specs.TurnedHeads.{turned_head}
use Rattle.piece_desk.proofs.TurnedAssemblyLemmas.{changed_from, unchanged_at, changed_next}
use Rattle.piece_desk.proofs.turned_assemblies.turn_heads.Goals as goal

pub loop-place-preserved : goal.loop-place-preserved
loop-place-preserved c =
    let so_far = c.loop-place.invariant in
    let turn = turned_head c.args.count c.args.first in
    let old = c.args.heads.now.items in
    let place = c.loop-place.place in
    let any = c.index.result.now in
    let lt : place < length old = omega (arith, c.loop-place-test.true, c.args.heads.now.ok.0) in
    let there : get_or c.loop-place.heads.items place any ≡ get_or (drop c.args.start old) (place - c.args.start) any =
    ap (λ (hs : List Head). get_or hs place any) so_far.turned ∙ unchanged_at turn old c.args.start place any so_far.some lt in
    record {
      some = omega (arith, so_far.some);
      turned =
          ap (λ (hs : List Head). set hs place c.turned_head.result) so_far.turned
          ∙ ap (λ (h : Head). set (changed_from turn c.args.start (place - c.args.start) old) place h) (c.turned_head.ensures ∙ ap turn (c.index.ensures ∙ there))
          ∙ changed_next turn old c.args.start place any so_far.some lt;
    }
