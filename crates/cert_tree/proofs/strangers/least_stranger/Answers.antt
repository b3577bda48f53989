use Rattle.std.proofs.Common.{◌≡◌, ◌≢◌, ◌≤◌, ◌+◌, get_or, take, ap, sym, subst, ◌∙◌, arith}
use Rattle.std.proofs.lemmas.List.{take_all}
use Rattle.cert_tree.specs.Assembly.{how_often, TellsLeast}
use Rattle.cert_tree.specs.Slots.{stranger_of}
use Rattle.cert_tree.proofs.AssemblyLemmas.{stranger_more}
use Rattle.cert_tree.proofs.strangers.least_stranger.Goals as goal

pub loop-piece-preserved : goal.loop-piece-preserved
loop-piece-preserved g c =
    let number = g.N.Numbered.numbered in
    let pieces = c.args.pieces.now in
    let i = c.loop-piece.piece-index in
    let piece = c.piece-item.result in
    let more = stranger_more number pieces i piece c.args.count c.loop-piece.least c.loop-piece-test.true c.loop-piece.invariant in
    let same : number (get_or pieces i piece) ≡ c.number.result = ap number (sym c.piece-item.is) ∙ sym c.number.ensures in
    let told : stranger_of c.args.count c.loop-piece.least (number (get_or pieces i piece)) ≡ c.stranger_so_far-least.result =
    ap (stranger_of c.args.count c.loop-piece.least) same ∙ sym c.stranger_so_far-least.ensures in
    subst (TellsLeast (λ n. (c.args.count ≤ n) × (how_often number (take (i + 1) pieces) n ≢ 0))) told more

pub returns : goal.returns
returns g c =
    let all = take_all c.loop-piece.piece-index c.args.pieces.now (omega (arith, c.loop-piece-test.false)) in
    subst (λ xs. TellsLeast (λ n. (c.args.count ≤ n) × (how_often g.N.Numbered.numbered xs n ≢ 0)) c.loop-piece.least) all c.loop-piece.invariant
