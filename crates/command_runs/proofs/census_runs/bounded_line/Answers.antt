use Rattle.std.proofs.Common.{◌≡◌, IfOk, MatchOption, codes, sym, subst}
use Rattle.show_text.specs.Facts.{number_line}
use Rattle.command_runs.proofs.census_runs.bounded_line.Goals as goal

pub returns-in-None : goal.returns-in-None
returns-in-None c =
    subst
    (λ o. IfOk c.count_line-in-None.result (λ text. MatchOption o (text.items ≡ number_line (codes "arrangements more than") c.args.most) (λ count. text.items ≡ number_line (codes "arrangements") count)))
    (sym c.in-None.is) c.count_line-in-None.ensures
