use Rattle.std.proofs.Common.{◌∙◌, MatchBool, length, nat_eq, ap, sym, subst}
use Rattle.match_board.specs.Borders.{rule_of, IsAsLongAsBorder}
use Rattle.match_limits.proofs.FirstLemmas.{by_test}
use Rattle.match_board.proofs.BorderLemmas.{long_rules}
use Rattle.match_board.proofs.borders.Border.is_as_long_as.Goals as goal

pub returns-in-Each : goal.returns-in-Each
returns-in-Each c =
    let both = long_rules c.args.board.now c.in-Each.rules c.border_len.result c.border_len.ensures in
    let long = ap length c.as_slice.ensures in
    rw c.from.ensures (subst (λ b. MatchBool (nat_eq (length c.as_slice.result.now) c.border_len.result) (IsAsLongAsBorder c.args.board.now (rule_of b)) (IsAsLongAsBorder c.args.board.now (rule_of b) → ⊥)) (sym c.in-Each.is)
    (by_test (length c.as_slice.result.now) c.border_len.result _ _ (λ e. both.0 (sym long ∙ e)) (λ ne h. ne (long ∙ both.1 h))))
