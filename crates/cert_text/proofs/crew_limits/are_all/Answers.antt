use Rattle.std.proofs.Common.{◌≡◌, ◌<◌, ◌≤◌, ◌∙◌, IsTrue, false, get_or, arith, refl, subst, sym, true≢false, ⊎_elim}
use Rattle.std.proofs.lemmas.List.Elements.{All-from_get_or}
use Rattle.match_limits.proofs.Listings.{lt_or_le}
use Rattle.cert_text.proofs.crew_limits.are_all.Goals as goal

pub returns-then-not-told-number : goal.returns-then-not-told-number
returns-then-not-told-number c = (
  λ is. absurd (true≢false (sym is)),
  λ all.
      let here = all c.loop-number.number false c.loop-number-test.true in
      absurd (true≢false (sym here ∙ c.if-not-told-number.true)),
)

pub loop-number-preserved : goal.loop-number-preserved
loop-number-preserved c = λ n lt. ⊎_elim
    (λ (before : n < c.loop-number.number). c.loop-number.invariant n before)
    (λ (le : c.loop-number.number ≤ n).
    let same : c.loop-number.number ≡ n = omega (arith, lt, le) in
    subst (λ k. IsTrue (get_or c.args.told.now k false)) same c.if-not-told-number.false)
    (lt_or_le n c.loop-number.number)

pub returns : goal.returns
returns c = (
  λ _. All-from_get_or (λ one. IsTrue one) c.args.told.now false (λ n lt.
      c.loop-number.invariant n (omega (arith, c.loop-number-test.false, c.loop-number.auto.number-end, lt))),
  λ _. refl,
)
