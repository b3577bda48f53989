use Rattle.std.proofs.Common.{◌≡◌, ◌↔◌, Some, sym, subst}
use Rattle.match_board.specs.Borders.{rule_of, AsksAt}
use Rattle.match_board.proofs.borders.Border.rule_at.Goals as goal

pub returns-in-Each : goal.returns-in-Each
returns-in-Each c = λ colour. subst (λ b. (c.at.result ≡ Some colour) ↔ AsksAt (rule_of b) c.args.number colour) (sym c.in-Each.is) (c.at.ensures colour)
