use Rattle.std.proofs.Common.{ap, sym, ◌∙◌, subst}
use Rattle.puzzle_symmetry.specs.Motion.{AreOfPuzzle}
use Rattle.xcc_form.specs.Chosen.{Selection}
use Rattle.count_search.proofs.roots.guessed_item.Goals as goal

pub first_items-requires : goal.first_items-requires
first_items-requires g c =
    subst (λ (v : Selection). AreOfPuzzle v.compiled.puzzle c.args.splitter.now.symmetries.now) (sym (ap g.E.OpenOptions.selection c.is_worth_a_guess.ensures)) c.requires

pub best_of-requires : goal.best_of-requires
best_of-requires g c =
    subst (λ (v : Selection). AreOfPuzzle v.compiled.puzzle c.args.splitter.now.symmetries.now) (sym (ap g.E.OpenOptions.selection c.is_worth_a_guess.ensures)) c.requires

pub returns-in_err-items : goal.returns-in_err-items
returns-in_err-items g c = c.is_worth_a_guess.ensures

pub returns : goal.returns
returns g c = c.best_of.ensures ∙ c.is_worth_a_guess.ensures
