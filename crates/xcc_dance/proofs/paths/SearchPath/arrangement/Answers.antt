use Rattle.std.proofs.Common.{Err, ap, sym, subst, ◌∙◌}
use Rattle.xcc_form.specs.ExactCover.{IsSolution}
use Rattle.xcc_form.specs.Options.{Compiled, cover_of}
use Rattle.xcc_form.specs.Chosen.{Selection, IsSelection}
use Rattle.xcc_dance.proofs.SolutionLemmas.{is_solution}
use Rattle.xcc_dance.proofs.paths.SearchPath.arrangement.Goals as goal

pub unreachable-requires : goal.unreachable-requires
unreachable-requires g c =
    let s = g.E.OpenOptions.selection c.args.self.now in
    let here = ap g.E.OpenOptions.selection c.self.view_is in
    let right = subst (λ (v : Selection). IsSelection v.compiled v.chosen) here c.chosen.ensures.right in
    let solution = is_solution s.compiled s.chosen right c.requires in
    c.arrangement_of.ensures.refused (c.in-Err-NotASolution.is ∙ ap Err c.in-Err-NotASolution.field-0-is)
    (subst (λ (x : Compiled). IsSolution (cover_of x) c.chosen.result.now) (sym (c.xcc.ensures ∙ ap (λ (v : Selection). v.compiled) here)) (subst (IsSolution (cover_of s.compiled)) (sym (c.chosen.ensures.value ∙ ap (λ (v : Selection). v.chosen) here)) solution))
