use Rattle.std.proofs.Common.{arith, ap}
use Rattle.xcc_form.specs.Options.{Compiled, entries_of}
use Rattle.xcc_form.proofs.ChoiceLemmas.{kept_entries}
use Rattle.xcc_form.proofs.xccs.Xcc.entries.Goals as goal

pub returns-clause-count : goal.returns-clause-count
returns-clause-count c = let a = c.len.ensures in let b = c.len-2.ensures in
    let x = c.self.inside in
    let kept = x.options in
    let same = ap (λ (x : Compiled). entries_of x) c.self.view_is in
    let all = kept_entries x.puzzle.now x.shared.items kept.pairs.items kept.starts.items kept.edges.items x.numbers.items c.self.invariant in
    omega (arith, same, all, a, b, kept.pairs.ok.0, kept.edges.ok.0)
