use Rattle.std.proofs.Common.{◌≡◌, ◌+◌, ◌*◌, ℕ, false, true, get_or, arith, ap, subst, sym, true≢false, ◌∙◌}
use Rattle.std.proofs.lemmas.Nat.{mul-add-lt}
use Rattle.match_limits.proofs.OptionLemmas.{none_some}
use Rattle.match_board.proofs.shapes.beside.Goals as goal

pub returns-in_err-row-clause-only : goal.returns-in_err-row-clause-only
returns-in_err-row-clause-only c = λ r p k there against.
    absurd (none_some (sym c.in_err-row.was ∙ c.beside.ensures.only r p k (there.0, there.1, tt) against))

pub bounds-mask-from : goal.bounds-mask-from
bounds-mask-from c =
    let found = c.in_ok-row.ensures.found in
    omega (arith, c.from.ensures, c.requires.room, mul-add-lt c.in_ok-row.row c.args.width c.in_ok-row.place c.args.height found.0.0 found.0.1)

pub returns-then-mask-from-clause-found : goal.returns-then-mask-from-clause-found
returns-then-mask-from-clause-found c =
    let found = c.in_ok-row.ensures.found in
    ((found.0.0, found.0.1, subst (λ place. get_or c.args.mask.now place false ≡ true) c.from.ensures c.if-mask-from.true), found.1)

pub returns-then-mask-from-clause-only : goal.returns-then-mask-from-clause-only
returns-then-mask-from-clause-only c = λ r p k there against. sym c.in_ok-row.was ∙ c.beside.ensures.only r p k (there.0, there.1, tt) against

pub returns-else-mask-from-clause-only : goal.returns-else-mask-from-clause-only
returns-else-mask-from-clause-only c = λ r p k there against.
    let met = sym c.in_ok-row.was ∙ c.beside.ensures.only r p k (there.0, there.1, tt) against in
    let same : (c.in_ok-row.row, c.in_ok-row.place, c.in_ok-row.side) ≡ (r, p, k) = cc in
    let place = c.from.ensures ∙ ap (λ (n : ℕ × ℕ × ℕ). n.0 * c.args.width + n.1) same in
    absurd (true≢false (sym there.2 ∙ ap (λ n. get_or c.args.mask.now n false) (sym place) ∙ c.if-mask-from.false))
