use Rattle.std.proofs.Common.{◌∙◌, ◌++◌, ◌∷◌, List, ℕ, decimal, arith, ap₂}
use Rattle.text_words.proofs.WordLemmas.{decimal_lacks}
use Rattle.count_totals.proofs.ReadingLemmas.{joined, parted, unparted}
use Rattle.count_totals.proofs.readings.two_numbers.Goals as goal

pub returns-in_err-first : goal.returns-in_err-first
returns-in_err-first c =
    rw c.from_residual.ensures (λ m n m_lt n_lt is. unparted c.args.between c.args.text.now (decimal m) (decimal n) (decimal_lacks c.args.between m c.requires m_lt) c.in_err-first.ensures is)

pub returns-in_err-number : goal.returns-in_err-number
returns-in_err-number c =
    rw c.from_residual-in_err-number.ensures (λ m n m_lt n_lt is.
    let found = parted c.args.between c.args.text.now c.in_ok-first.first.now c.in_ok-first.second.now (decimal m) (decimal n) (decimal_lacks c.args.between m c.requires m_lt) c.in_ok-first.ensures is in
    c.in_err-number.ensures m (omega arith) found.0)

pub returns-in_err-number-2 : goal.returns-in_err-number-2
returns-in_err-number-2 c =
    rw c.from_residual-in_err-number-2.ensures (λ m n m_lt n_lt is.
    let found = parted c.args.between c.args.text.now c.in_ok-first.first.now c.in_ok-first.second.now (decimal m) (decimal n) (decimal_lacks c.args.between m c.requires m_lt) c.in_ok-first.ensures is in
    c.in_err-number-2.ensures n (omega arith) found.1)

pub returns : goal.returns
returns c = (
  omega (arith, c.in_ok-number.ensures.0),
  omega (arith, c.in_ok-number-2.ensures.0),
  joined c.args.between c.args.text.now c.in_ok-first.first.now c.in_ok-first.second.now c.in_ok-first.ensures
      ∙ ap₂ (λ (first second : List ℕ). first ++ c.args.between ∷ second) c.in_ok-number.ensures.1 c.in_ok-number-2.ensures.1,
)
