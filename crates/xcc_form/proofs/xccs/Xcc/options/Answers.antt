use Rattle.std.proofs.Common.{arith, ap, length}
use Rattle.xcc_form.specs.Options.{Compiled}
use Rattle.xcc_form.proofs.ChoiceLemmas.{length-choices}
use Rattle.xcc_form.proofs.xccs.Xcc.options.Goals as goal

pub returns-clause-count : goal.returns-clause-count
returns-clause-count c =
    let kept = c.self.inside.options in
    let same = ap (λ (x : Compiled). length x.options) c.self.view_is in
    let long = length-choices kept.starts.items kept.edges.items 0 kept.pairs.items in
    omega (arith, same, long, c.len.ensures, kept.pairs.ok.0)
