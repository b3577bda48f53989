use Rattle.std.proofs.Common.{◌∙◌, ap, subst, sym}
use Rattle.match_puzzle.specs.Arrangement.{AreArrangements}
use Rattle.match_puzzle.specs.Puzzle.{Task}
use Rattle.cert_check.specs.Setting.{Question}
use Rattle.command_runs.proofs.page_runs.complete_page.Goals as goal

pub draw_pictures-requires : goal.draw_pictures-requires
draw_pictures-requires c =
    let question = c.question-question.ensures.question in
    let puzzle = c.puzzle.ensures ∙ ap (λ (q : Question). q.puzzle) question in
    let listed = c.listed-listed.ensures.listed ∙ ap (λ (q : Question). q.listed) question in
    subst (λ (p : Task). AreArrangements p c.listed-listed.result.now) (sym puzzle)
    (subst (AreArrangements c.args.prepared.now.puzzle) (sym listed) c.requires.arrangements)
