use Rattle.std.proofs.Common.{◌≢◌, ◌≤◌, subst}
use Rattle.cert_tree.specs.Assembly.{how_often, IsAssembly, TellsLeast}
use Rattle.cert_tree.proofs.AssemblyLemmas.{first_stranger, no_strangers}
use Rattle.cert_tree.proofs.numbered.assembled.Goals as goal

pub returns-in-Some-clause-err : goal.returns-in-Some-clause-err
returns-in-Some-clause-err g c =
    let number = g.N.Numbered.numbered in
    let least = subst (λ xs. TellsLeast (λ n. (c.args.count ≤ n) × (how_often number xs n ≢ 0)) c.least_stranger.result) c.deref-2.ensures.value c.least_stranger.ensures in
    first_stranger number c.args.count c.args.pieces.items c.in-Some.number (subst (TellsLeast (λ n. (c.args.count ≤ n) × (how_often number c.args.pieces.items n ≢ 0))) c.in-Some.is least)

pub in_order-requires : goal.in_order-requires
in_order-requires g c =
    let number = g.N.Numbered.numbered in
    let least = subst (λ xs. TellsLeast (λ n. (c.args.count ≤ n) × (how_often number xs n ≢ 0)) c.least_stranger.result) c.deref-2.ensures.value c.least_stranger.ensures in
    no_strangers number c.args.count c.args.pieces.items (subst (TellsLeast (λ n. (c.args.count ≤ n) × (how_often number c.args.pieces.items n ≢ 0))) c.in_default.is least)

pub returns-clause-memory : goal.returns-clause-memory
returns-clause-memory g c = λ _.
    let number = g.N.Numbered.numbered in
    let least = subst (λ xs. TellsLeast (λ n. (c.args.count ≤ n) × (how_often number xs n ≢ 0)) c.least_stranger.result) c.deref-2.ensures.value c.least_stranger.ensures in
    no_strangers number c.args.count c.args.pieces.items (subst (TellsLeast (λ n. (c.args.count ≤ n) × (how_often number c.args.pieces.items n ≢ 0))) c.in_default.is least)

pub returns-then-are_assembled-clause-ok : goal.returns-then-are_assembled-clause-ok
returns-then-are_assembled-clause-ok g c =
    subst (λ pieces. IsAssembly g.N.Numbered.numbered c.args.count pieces pieces) c.deref.ensures.value (c.are_assembled.ensures.0 c.if-are_assembled.true)
