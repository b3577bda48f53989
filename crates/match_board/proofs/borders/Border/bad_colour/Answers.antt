use Rattle.std.proofs.Common.{◌<◌, ◌≤◌, ℕ, MatchOption, sym, subst}
use Rattle.match_limits.specs.declared.TheConstants.{MOST_COLOURS}
use Rattle.match_limits.specs.First.{IsLeast}
use Rattle.match_board.specs.declared.borders.Border.{Border}
use Rattle.match_board.specs.Borders.{rule_of, StandsInRule}
use Rattle.match_board.proofs.borders.Border.bad_colour.Goals as goal

pub returns-in-Each : goal.returns-in-Each
returns-in-Each c =
    let P : Border → Type 0 = λ b. MatchOption c.bad_colour.result
    ((place colour : ℕ) → StandsInRule (rule_of b) place colour → colour < MOST_COLOURS)
    (IsLeast (λ place. (colour : ℕ) × StandsInRule (rule_of b) place colour × (MOST_COLOURS ≤ colour))) in
    subst P (sym c.in-Each.is) c.bad_colour.ensures
