use Rattle.std.proofs.Common.{◌≡◌, ◌-◌, length, take, arith, ap, sym, ◌∙◌, subst}
use Rattle.fit_counts.specs.Placing.{Placing, without_last}
use Rattle.xcc_dance.specs.Placing.{IsPlacingOf}
use Rattle.xcc_dance.proofs.OpenSetLemmas.{placing_popped}
use Rattle.xcc_dance.proofs.open_sets.OpenSetsOpenOptions.undo.Goals as goal

pub invariant_of-self : goal.invariant_of-self
invariant_of-self c =
    let i = c.self.inside in
    let x = i.xcc.now in
    let popped = placing_popped x i.chosen.items i.counts c.self.invariant in
    let last : i.chosen.len - 1 ≡ length i.chosen.items - 1 = omega (arith, i.chosen.ok.0) in
    let chosen = c.pop.ensures.rest ∙ ap (λ n. take n i.chosen.items) last in
    subst (λ (p : Placing). IsPlacingOf x c.pop.new.self.items p) (sym c.lift.ensures) (subst (λ os. IsPlacingOf x os (without_last i.counts)) (sym chosen) popped)
