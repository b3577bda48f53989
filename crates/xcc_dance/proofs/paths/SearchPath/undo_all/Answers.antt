use Rattle.std.proofs.Common.{◌<◌, ◌-◌, length, arith, ap, subst, ◌∙◌}
use Rattle.std.proofs.lemmas.Bool.Decides.{nat_tests}
use Rattle.std.proofs.lemmas.List.{length-take-le}
use Rattle.xcc_form.specs.Chosen.{Selection, before_any}
use Rattle.xcc_dance.proofs.BackLemmas.{back_from}
use Rattle.xcc_dance.proofs.paths.SearchPath.undo_all.Given.{Over}
use Rattle.xcc_dance.proofs.paths.SearchPath.undo_all.Goals as goal
use Rattle.xcc_dance.proofs.paths.SearchPath.undo_all.Goals.{In-loop-self}

-- where pairs are left, something is chosen
some_chosen : (g : Over) (c : In-loop-self g) → 0 < length (g.E.OpenOptions.selection c.loop-self.self).chosen
some_chosen g c =
    let i = c.self.inside in
    let long = c.self.invariant.long in
    let left : 0 < length (g.E.OpenOptions.selection i.engine).chosen = grind (arith, nat_tests, long, i.pairs.ok.0) in
    subst (λ s. 0 < length (g.E.OpenOptions.selection s).chosen) c.self.view_is left

pub undo-requires : goal.undo-requires
undo-requires g c = some_chosen g (goal.at.undo-requires g c).In-loop-self

pub loop-self-smaller : goal.loop-self-smaller
loop-self-smaller g c =
    let s = c.loop-self.self in
    let chosen = (g.E.OpenOptions.selection s).chosen in
    let some = some_chosen g (goal.at.loop-self-smaller g c).In-loop-self in
    let less = ap (λ s. length (g.E.OpenOptions.selection s).chosen) c.undo.ensures ∙ ap (λ (v : Selection). length v.chosen) (g.met.E.OpenOptions.all_but_last s) in
    let smaller : length (g.E.OpenOptions.selection c.undo.new.self).chosen < length chosen =
    omega (arith, less, length-take-le (length chosen - 1) chosen (omega arith), some) in
    smaller

pub loop-self-preserved : goal.loop-self-preserved
loop-self-preserved g c =
    let selection = g.E.OpenOptions.selection in
    let taken_back = g.E.OpenOptions.taken_back in
    let some = some_chosen g (goal.at.loop-self-preserved g c).In-loop-self in
    ap (before_any selection taken_back) c.undo.ensures ∙ back_from _ selection taken_back g.met.E.OpenOptions.all_but_last c.loop-self.self some ∙ c.loop-self.invariant
