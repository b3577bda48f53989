use Rattle.std.proofs.Common.{◌<◌, ◌≤◌, ℕ, get_or, subst, arith}
use Rattle.std.proofs.lemmas.Bool.{ltb-true}
use Rattle.match_limits.specs.declared.TheConstants.{MOST_COLOURS}
use Rattle.count_search.specs.Balance.{surplus}
use Rattle.count_search.proofs.BalanceStepLemmas.{surplus_le}
use Rattle.count_search.proofs.balances.Balance.is_short_at.Goals as goal

short_by : (free more part whole : ℕ) → free < more → more ≤ part → part ≤ whole → free < whole
short_by free more part whole lt le le' = omega (arith, lt, le, le')

pub returns : goal.returns
returns c = λ is_more.
    let b = c.args.self.now in
    let side = c.args.side in
    let colour = c.loop-colour.colour in
    let within : colour ≤ MOST_COLOURS = omega (arith, c.loop-colour.auto.colour-end, c.min-colour-end.ensures) in
    subst (λ n. get_or b.free n 0 < surplus b.sides side MOST_COLOURS) c.from.ensures
    (short_by (get_or b.free c.from.result 0) c.loop-colour.more (surplus b.sides side colour) (surplus b.sides side MOST_COLOURS)
    (ltb-true (get_or b.free c.from.result 0) c.loop-colour.more is_more) c.loop-colour.invariant (surplus_le b.sides side colour MOST_COLOURS within))
