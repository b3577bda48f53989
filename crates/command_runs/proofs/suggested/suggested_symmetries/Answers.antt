use Rattle.std.proofs.Common.{◌≡◌, All, Some, slice_get, ap, map, rules, sym, ◌∙◌, subst, ⊎_elim}
use Rattle.std.proofs.lemmas.List.{map_push}
use Rattle.std.proofs.lemmas.List.Elements.{All-push}
use Rattle.match_board.specs.declared.symmetry_lines.SymmetryLine.{SymmetryLine}
use Rattle.match_limits.proofs.ListLemmas.{pushed_at}
use Rattle.match_symmetry.specs.Suggestions.{IsAskedFor}
use Rattle.puzzle_symmetry.specs.Motion.{Motion, line_of}
use Rattle.puzzle_symmetry.specs.Symmetry.{IsSymmetry}
use Rattle.command_runs.proofs.suggested.suggested_symmetries.Goals as goal

pub loop-line-preserved : goal.loop-line-preserved
loop-line-preserved c =
    let before = c.loop-line.symmetries.items in
    let symmetry = c.in-Ok.symmetry in
    let Is : SymmetryLine → Type 0 = λ g. IsSymmetry c.args.puzzle.now g × IsAskedFor c.args.asked g in
    let asked : IsAskedFor c.args.asked c.line-item.result = search rules in
    let lines = ap (map line_of) c.in_ok-push-in-Ok.ensures.items ∙ map_push line_of before symmetry in
    record {
      puzzle = λ number m at.
          ⊎_elim
          (c.loop-line.invariant.puzzle number m)
          (λ same. sym (ap (λ (n : Motion). n.puzzle) same) ∙ ap (λ (n : Motion). n.puzzle) c.in-Ok.ensures.symmetry.0)
          (pushed_at before symmetry number m (subst (λ xs. slice_get xs number ≡ Some m) c.in_ok-push-in-Ok.ensures.items at));
      asked =
          subst (All Is) (sym lines)
          (All-push Is (map line_of before) (line_of symmetry) c.loop-line.invariant.asked
          (subst (λ (m : Motion). Is (line_of m)) (sym c.in-Ok.ensures.symmetry.0) (c.in-Ok.ensures.symmetry.2, asked)));
    }
