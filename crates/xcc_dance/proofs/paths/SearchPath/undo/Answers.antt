use Rattle.std.proofs.Common.{◌≡◌, ◌-◌, ◌∙◌, length, take, arith, ap, sym, subst}
use Rattle.xcc_form.specs.Chosen.{Selection}
use Rattle.xcc_dance.specs.Placing.{ArePairsOf}
use Rattle.xcc_dance.proofs.PlacingLemmas.{pairs_less}
use Rattle.xcc_dance.proofs.paths.SearchPath.undo.Goals as goal

pub invariant_of-self : goal.invariant_of-self
invariant_of-self g c =
    let i = c.self.inside in
    let of = c.self.invariant in
    let s = g.E.OpenOptions.selection i.engine in
    let less = ap g.E.OpenOptions.selection c.undo.ensures ∙ g.met.E.OpenOptions.all_but_last i.engine in
    let last : i.pairs.len - 1 ≡ length s.chosen - 1 = omega (arith, i.pairs.ok.0, of.long) in
    subst (λ (v : Selection). ArePairsOf v.compiled v.chosen c.pop.new.self.items) (sym less)
    (subst (ArePairsOf s.compiled (take (length s.chosen - 1) s.chosen)) (sym (c.pop.ensures.rest ∙ ap (λ n. take n i.pairs.items) last)) (pairs_less s.compiled (length s.chosen - 1) s.chosen i.pairs.items of))
