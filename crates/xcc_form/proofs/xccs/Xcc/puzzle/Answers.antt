use Rattle.std.proofs.Common.{subst}
use Rattle.xcc_form.specs.Options.{IsCompiled}
use Rattle.xcc_form.proofs.ChoiceLemmas.{kept_compiled}
use Rattle.xcc_form.proofs.xccs.Xcc.puzzle.Goals as goal

pub returns-clause-compiled : goal.returns-clause-compiled
returns-clause-compiled c =
    let x = c.self.inside in
    let kept = x.options in
    subst IsCompiled c.self.view_is (kept_compiled x.puzzle.now x.shared.items kept.pairs.items kept.starts.items kept.edges.items x.numbers.items c.self.invariant)
