use Rattle.std.proofs.Common.{ℕ, ap, sym, ◌∙◌}
use Rattle.match_limits.proofs.OptionLemmas.{none_some, inside, same_pair}
use Rattle.match_board.proofs.Places.{met_place, one_number, StandsAt-in_range}
use Rattle.match_board.proofs.figures.Figure.meets.Goals as goal

pub returns-in_err-row-clause-only : goal.returns-in_err-row-clause-only
returns-in_err-row-clause-only c = λ c' k m.
    let to = met_place m c.place_of-row.ensures in
    let same = c.beside.ensures.only to.0 to.1 k (to.2.row_in, to.2.place_in, to.2.filled) to.3 in
    absurd (none_some (sym c.in_err-row.was ∙ same))

pub returns-clause-within : goal.returns-clause-within
returns-clause-within c = (StandsAt-in_range c.number_of.ensures, c.in_ok-row.ensures.side)

pub returns-clause-only : goal.returns-clause-only
returns-clause-only c = λ c' k m.
    let to = met_place m c.place_of-row.ensures in
    let same = c.beside.ensures.only to.0 to.1 k (to.2.row_in, to.2.place_in, to.2.filled) to.3 in
    let e = inside (sym c.in_ok-row.was ∙ same) in
    same_pair (one_number c.number_of.ensures to.2 (ap (λ (n : ℕ × ℕ × ℕ). n.0) e) (ap (λ (n : ℕ × ℕ × ℕ). n.1) e)) (ap (λ (n : ℕ × ℕ × ℕ). n.2) e)
