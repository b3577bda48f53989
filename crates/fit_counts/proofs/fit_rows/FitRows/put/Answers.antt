use Rattle.fit_counts.proofs.OpenRowLemmas.{row_made}
use Rattle.fit_counts.proofs.fit_rows.FitRows.put.Goals as goal

pub invariant_of-self : goal.invariant_of-self
invariant_of-self c = rw c.from.ensures (row_made c.self.inside.rows.items c.self.inside.open_cells c.self.invariant c.args.cell (rw c.self.view_is c.requires.row) c.put_common.new.row c.put.new.self c.put.ensures)
