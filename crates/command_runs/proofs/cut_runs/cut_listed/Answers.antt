use Rattle.std.proofs.Common.{List, ℕ, Ok, ap, subst, sym, ◌∙◌}
use Rattle.std.proofs.lemmas.Result.{err_from_is_err_and}
use Rattle.match_puzzle.specs.declared.placements.Placement.{Placement}
use Rattle.show_pictures.specs.Plans.{IsNotDrawn}
use Rattle.match_text.specs.Lists.{list_of}
use Rattle.match_text.specs.Puzzles.{PuzzleReads}
use Rattle.command_runs.proofs.PictureLemmas.{picture_fails}
use Rattle.command_runs.proofs.cut_runs.cut_listed.Goals as goal

pub returns-in_err-printed : goal.returns-in_err-printed
returns-in_err-printed c =
    let number = c.args.number in
    let p = c.in_ok-puzzle.puzzle in
    let fault = c.in_err-printed.field-0.0 in
    let w = err_from_is_err_and c.from_residual-in_err-printed.result c.from_residual-in_err-printed.ensures.1 in
    let reads = subst (λ (t : List ℕ). PuzzleReads t (Ok p)) c.bytes.ensures.bytes c.in_ok-puzzle.ensures.exact in
    let lists = ap list_of (sym c.bytes-2.ensures.bytes) ∙ c.in_ok-listed.ensures.exact in
    let is = subst (λ (l : List (List Placement)). IsNotDrawn number 0 p l fault) c.deref.ensures.value c.in_err-printed.ensures.fails in
    rw (w.1, w.2) (picture_fails number 0 c.args.texts.now p c.in_ok-listed.listed.items reads lists fault is)
