use Rattle.std.proofs.Common.{ap, sym, subst}
use Rattle.xcc_form.specs.Chosen.{Selection}
use Rattle.fit_counts.specs.Placing.{FitInTurn}
use Rattle.xcc_dance.proofs.PlacingLemmas.{fit_in_turn}
use Rattle.xcc_dance.proofs.paths.SearchPath.pairs.Goals as goal

pub returns-clause-fit : goal.returns-clause-fit
returns-clause-fit g c =
    let i = c.self.inside in
    let s = g.E.OpenOptions.selection i.engine in
    let right = c.chosen-right.ensures.right in
    let fit = fit_in_turn s.compiled right.compiled s.chosen i.pairs.items right.partial c.self.invariant in
    subst (FitInTurn (g.E.OpenOptions.selection c.args.self.now).compiled.puzzle) (sym c.deref.ensures.value) (subst (λ (v : Selection). FitInTurn v.compiled.puzzle i.pairs.items) (ap g.E.OpenOptions.selection c.self.view_is) fit)
