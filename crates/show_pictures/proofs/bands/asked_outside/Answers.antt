use Rattle.match_limits.proofs.OptionLemmas.{none_some}
use Rattle.show_pictures.proofs.bands.asked_outside.Goals as goal

pub returns-in-Some-clause-rule : goal.returns-in-Some-clause-rule
returns-in-Some-clause-rule c = λ colour. (λ e. absurd (none_some e), λ w. absurd (w.0.meets_nothing _ _ c.in-Some.ensures.found))

pub returns-in-None-clause-rule : goal.returns-in-None-clause-rule
returns-in-None-clause-rule c = λ colour. (
  λ e. (
    record {
      cell_in = c.requires.cell;
      side_in = c.requires.side;
      meets_nothing = λ cell side met. none_some (c.in-None.ensures.only cell side met);
    },
    (c.asked.ensures.rule colour).0 e,
  ),
  λ w. (c.asked.ensures.rule colour).1 w.1,
)
