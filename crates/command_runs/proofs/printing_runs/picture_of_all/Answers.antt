use Rattle.std.proofs.Common.{◌≡◌, List, rules, subst}
use Rattle.std.proofs.lemmas.Result.{err_from_is_err_and}
use Rattle.match_puzzle.specs.Puzzle.{Task}
use Rattle.match_puzzle.specs.declared.placements.Placement.{Placement}
use Rattle.show_pictures.specs.Plans.{IsNotDrawn}
use Rattle.command_runs.proofs.PictureLemmas.{none_of_all}
use Rattle.command_runs.proofs.printing_runs.picture_of_all.Goals as goal

pub returns-in_err-picture-clause-fails : goal.returns-in_err-picture-clause-fails
returns-in_err-picture-clause-fails c =
    let w = err_from_is_err_and c.from_residual-in_err-picture.result c.from_residual-in_err-picture.ensures.1 in
    let plan = c.args.plan in
    let fault = c.in_err-picture.field-0.0 in
    let all = c.in_ok-all.all.keys in
    let puzzle : c.puzzle-puzzle.result.now ≡ c.args.prepared.puzzle = search rules in
    let told = subst (λ (p : Task). IsNotDrawn plan.number plan.first p c.as_slice.result.now fault) puzzle c.in_err-picture.ensures.fails in
    rw (w.1, w.2) (none_of_all plan c.args.prepared all c.requires.0 c.in_ok-all.ensures.all fault (subst (λ (l : List (List Placement)). IsNotDrawn plan.number plan.first c.args.prepared.puzzle l fault) c.as_slice.ensures.keys told))
