use Rattle.show_page.specs.Rows.{rows_with}
use Rattle.show_page.proofs.rows.rows_by.Goals as goal

pub returns : goal.returns
unfolding rows_with
returns c = c.join.ensures
