use Rattle.std.proofs.Common.{◌≡◌, ◌<◌, ℕ, zero, suc, [], ◌∷◌, get_or, arith}
use Rattle.count_search.specs.Balance.{outer_total}
use Rattle.count_search.proofs.balances.outer_totals.Goals as goal

four : (f : ℕ → ℕ) (a b d e : ℕ) → a ≡ f 0 → b ≡ f 1 → d ≡ f 2 → e ≡ f 3 → (side : ℕ) → side < 4 → get_or (a ∷ b ∷ d ∷ e ∷ []) side 0 ≡ f side
four f a b d e first second third fourth zero lt = first
four f a b d e first second third fourth (suc zero) lt = second
four f a b d e first second third fourth (suc (suc zero)) lt = third
four f a b d e first second third fourth (suc (suc (suc zero))) lt = fourth
four f a b d e first second third fourth (suc (suc (suc (suc side)))) lt = absurd (omega (arith, lt))

pub returns : goal.returns
returns c = four (outer_total c.args.outer.now) c.outer_total.result c.outer_total-2.result c.outer_total-3.result c.outer_total-4.result c.outer_total.ensures c.outer_total-2.ensures c.outer_total-3.ensures c.outer_total-4.ensures
