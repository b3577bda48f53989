use Rattle.std.proofs.Common.{◌<◌, [], ℕ, List, Contains, get_or, refl, sym, subst}
use Rattle.match_limits.specs.Listing.{IsListing}
use Rattle.fit_counts.proofs.OpenRowLemmas.{entry_read, row_kept}
use Rattle.fit_counts.proofs.fit_rows.FitRows.keep.Goals as goal
use Rattle.fit_counts.proofs.fit_rows.FitRows.keep.Goals.{After-keep}

-- what is kept of the row
kept : (c : After-keep) → IsListing ◌<◌ (λ n. Contains (get_or c.self.inside.rows.items c.args.cell []) n × Contains c.args.kept.now n) c.keep.new.self
kept c =
    let rows = c.self.inside.rows.items in
    let row = entry_read rows c.from.result c.args.cell [] c.index_mut.result.now (rw c.self.view_is c.requires) c.from.ensures c.index_mut.ensures.value in
    subst (λ (r : List ℕ). IsListing ◌<◌ (λ n. Contains r n × Contains c.args.kept.now n) c.keep.new.self) (sym row) c.keep.ensures

pub invariant_of-self : goal.invariant_of-self
invariant_of-self c = rw c.from.ensures (row_kept c.self.inside.rows.items c.self.inside.open_cells c.self.invariant c.args.cell (rw c.self.view_is c.requires) c.args.kept.now c.keep.new.self (kept (goal.at.invariant_of-self c).After-keep))

pub returns : goal.returns
returns c = (c.keep.new.self, rw (← c.self.view_is) (kept (goal.at.returns c).After-keep), rw (c.from.ensures, ← c.self.view_is) refl)
