use Rattle.fit_counts.proofs.OpenRowLemmas.{row_cleared}
use Rattle.fit_counts.proofs.fit_rows.FitRows.clear.Goals as goal

pub invariant_of-self : goal.invariant_of-self
invariant_of-self c = rw (c.from.ensures, c.clear.ensures) (row_cleared c.self.inside.rows.items c.self.inside.open_cells c.self.invariant c.args.cell (rw c.self.view_is c.requires) c.remove.new.self c.remove.ensures)
