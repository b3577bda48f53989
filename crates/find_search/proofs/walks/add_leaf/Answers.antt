use Rattle.std.proofs.Common.{sym, subst}
use Rattle.xcc_form.specs.ExactCover.{IsSolution}
use Rattle.xcc_form.specs.Options.{Compiled, cover_of}
use Rattle.xcc_form.specs.Correspondence.{IsSolutionOf}
use Rattle.xcc_dance.proofs.SolutionLemmas.{is_solution}
use Rattle.count_search.specs.Extensions.{IsExtension}
use Rattle.find_search.specs.declared.ends.Ended.TheVariants.{Whole}
use Rattle.find_search.specs.Adding.{MayAdd, Adds}
use Rattle.find_search.proofs.AddingLemmas.{may_fewer, adds_same}
use Rattle.find_search.proofs.TurnLemmas.{solution_is, is_the_solution}
use Rattle.find_search.proofs.walks.add_leaf.Goals as goal
use Rattle.find_search.proofs.walks.add_leaf.Goals.{In_ok-add}

pub add-requires-clause-solution : goal.add-requires-clause-solution
add-requires-clause-solution g c =
    let s = g.E.OpenOptions.selection c.args.engine.now in
    subst (λ (x : Compiled). IsSolution (cover_of x) c.chosen.result.now) (sym c.xcc.ensures)
    (subst (IsSolution (cover_of s.compiled)) (sym c.chosen.ensures.value) (is_solution s.compiled s.chosen c.chosen.ensures.right c.requires.covered))

pub add-requires-clause-may : goal.add-requires-clause-may
add-requires-clause-may g c =
    let s = g.E.OpenOptions.selection c.args.engine.now in
    let motions = c.args.search.now.find.symmetries.now in
    let l = c.args.progress.now.listed in
    subst (λ (x : Compiled). MayAdd x.puzzle motions (λ a. IsSolutionOf x a c.chosen.result.now) l) (sym c.xcc.ensures)
    (subst (λ chosen. MayAdd s.compiled.puzzle motions (λ a. IsSolutionOf s.compiled a chosen) l) (sym c.chosen.ensures.value)
    (may_fewer s.compiled.puzzle motions (IsExtension s) (λ a. IsSolutionOf s.compiled a s.chosen) l (solution_is s c.chosen.ensures.right c.requires.covered) c.requires.may))

pub returns-then-branch-clause-adds : goal.returns-then-branch-clause-adds
returns-then-branch-clause-adds g c =
    let s = g.E.OpenOptions.selection c.args.engine.now in
    let motions = c.args.search.now.find.symmetries.now in
    let before = c.args.progress.now.listed in
    let after = c.add.new.self in
    adds_same s.compiled.puzzle motions (λ a. IsSolutionOf s.compiled a s.chosen) (IsExtension s) before after Whole (solution_is s c.chosen.ensures.right c.requires.covered) (λ whole. is_the_solution s c.chosen.ensures.right c.requires.covered)
    (subst (λ chosen. Adds s.compiled.puzzle motions (λ a. IsSolutionOf s.compiled a chosen) before after Whole) c.chosen.ensures.value
    (subst (λ (x : Compiled). Adds x.puzzle motions (λ a. IsSolutionOf x a c.chosen.result.now) before after Whole) c.xcc.ensures c.in_ok-add.ensures.adds))

pub returns-else-branch-clause-adds : goal.returns-else-branch-clause-adds
returns-else-branch-clause-adds g c =
    let s = g.E.OpenOptions.selection c.args.engine.now in
    let motions = c.args.search.now.find.symmetries.now in
    let before = c.args.progress.now.listed in
    let after = c.add.new.self in
    adds_same s.compiled.puzzle motions (λ a. IsSolutionOf s.compiled a s.chosen) (IsExtension s) before after Whole (solution_is s c.chosen.ensures.right c.requires.covered) (λ whole. is_the_solution s c.chosen.ensures.right c.requires.covered)
    (subst (λ chosen. Adds s.compiled.puzzle motions (λ a. IsSolutionOf s.compiled a chosen) before after Whole) c.chosen.ensures.value
    (subst (λ (x : Compiled). Adds x.puzzle motions (λ a. IsSolutionOf x a c.chosen.result.now) before after Whole) c.xcc.ensures c.in_ok-add.ensures.adds))
