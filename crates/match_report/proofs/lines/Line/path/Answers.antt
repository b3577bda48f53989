use Rattle.std.proofs.Common.{◌∷◌, sym, ap, ◌∙◌}
use Rattle.match_report.proofs.LineLemmas.{spaced-path_text, path_text-none}
use Rattle.match_report.proofs.lines.Line.path.Goals as goal

pub returns-in_default : goal.returns-in_default
returns-in_default c = rw (path_text-none c.args.steps.now c.in_default.ensures.cases) c.word.ensures

pub returns : goal.returns
returns c =
    let others = c.in-Some.others.now in
    let steps = c.in-Some.ensures.cases.0 ∙ ap (λ step. step ∷ others) (sym c.from.ensures) in
    rw (c.in_ok-number.ensures, spaced-path_text c.args.self.now c.args.steps.now others c.from.result steps) at c.dotted.ensures
