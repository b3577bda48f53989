use Rattle.show_page.specs.Counts.{counts_with}
use Rattle.show_page.proofs.counts.counts_by.Goals as goal

pub returns : goal.returns
unfolding counts_with
returns c = c.join.ensures
