use Rattle.std.proofs.Common.{◌≡◌, ◌<◌, ◌≤◌, ◌+◌, ◌-◌, ◌++◌, ◌∷◌, [], length, take, drop, arith, ap, sym, subst, ◌∙◌}
use Rattle.std.proofs.lemmas.List.{take_rest, length-drop}
use Rattle.match_board.specs.Board.{cell_count}
use Rattle.match_puzzle.specs.Prefix.{Layout, without_cell}
use Rattle.fit_counts.specs.FitRows.{AreRows, AreRowsElsewhere}
use Rattle.fit_counts.specs.FitSizes.{AreKeptBeside}
use Rattle.fit_counts.proofs.KeptCountLemmas.{last_stands, last_in, saved_long, rows_elsewhere, kept_popped}
use Rattle.fit_counts.proofs.fit_counts.FitCounts.lift.Goals as goal
use Rattle.fit_counts.proofs.fit_counts.FitCounts.lift.Goals.{In-Some}

kept : (c : In-Some) → AreKeptBeside c.self.inside.partial.puzzle (c.pop.new.self.items ++ c.in-Some.pair ∷ []) c.self.inside.partial.placed c.self.inside.counts.rows c.self.inside.counts.sizes.items c.self.inside.saved.items
kept c =
    let i = c.self.inside in
    subst (λ ps. AreKeptBeside i.partial.puzzle ps i.partial.placed i.counts.rows i.counts.sizes.items i.saved.items) c.in-Some.ensures.items c.self.invariant

long : (c : In-Some) → length c.self.inside.counts.sizes.items ≤ length c.self.inside.saved.items
long c = let i = c.self.inside in saved_long i.partial.puzzle c.pop.new.self.items c.in-Some.pair i.partial.placed i.counts.rows i.counts.sizes.items i.saved.items (kept c)

pub overflow_sub-before : goal.overflow_sub-before
overflow_sub-before c = let le = long (goal.at.overflow_sub-before c).In-Some in omega (arith, le)

pub copy_from_slice-requires : goal.copy_from_slice-requires
copy_from_slice-requires c =
    let i = c.self.inside in
    let le = long (goal.at.copy_from_slice-requires c).In-Some in
    let before = c.len.result - c.len-in-Some.result in
    let rest = ap length (take_rest c.deref.result.now before) ∙ length-drop before c.deref.result.now in
    omega (arith, le, rest, ap length c.deref.ensures.value)

pub lift-requires : goal.lift-requires
lift-requires c =
    let i = c.self.inside in
    (c.in-Some.pair.placement, last_stands i.partial.puzzle c.pop.new.self.items c.in-Some.pair i.partial.placed i.counts.rows i.counts.sizes.items i.saved.items (kept (goal.at.lift-requires c).In-Some))

pub put_beside-requires-clause-cell : goal.put_beside-requires-clause-cell
put_beside-requires-clause-cell c =
    let i = c.self.inside in
    subst (λ (v : Layout). c.in-Some.pair.cell < cell_count v.puzzle.board) (sym c.lift.ensures)
    (last_in i.partial.puzzle c.pop.new.self.items c.in-Some.pair i.partial.placed i.counts.rows i.counts.sizes.items i.saved.items (kept (goal.at.put_beside-requires-clause-cell c).In-Some))

pub put_beside-requires-clause-others : goal.put_beside-requires-clause-others
put_beside-requires-clause-others c =
    let i = c.self.inside in
    subst (λ (v : Layout). AreRowsElsewhere v.puzzle v.placed c.in-Some.pair.cell i.counts.rows) (sym c.lift.ensures)
    (rows_elsewhere i.partial.puzzle c.pop.new.self.items c.in-Some.pair i.partial.placed i.counts.rows i.counts.sizes.items i.saved.items (kept (goal.at.put_beside-requires-clause-others c).In-Some))

pub invariant_of-self : goal.invariant_of-self
invariant_of-self c =
    let i = c.self.inside in
    let a = (goal.at.invariant_of-self c).In-Some in
    let p = i.partial.puzzle in
    let q = without_cell i.partial.placed c.in-Some.pair.cell in
    let before = c.len.result - c.len-in-Some.result in
    let le = long a in
    let all : before + length i.counts.sizes.items ≡ length i.saved.items = omega (arith, le) in
    let rows = c.put_beside.new.self in
    let are_rows = subst (λ (v : Layout). AreRows v.puzzle v.placed rows) c.lift.ensures c.put_beside.ensures in
    let popped = kept_popped p c.pop.new.self.items c.in-Some.pair i.partial.placed i.counts.rows i.counts.sizes.items i.saved.items (kept a) before all rows are_rows in
    let sizes : c.copy_from_slice.new.self.items ≡ drop before i.saved.items = c.copy_from_slice.ensures.items ∙ take_rest c.deref.result.now before ∙ ap (drop before) c.deref.ensures.value in
    let saved : c.truncate.new.self.items ≡ take before i.saved.items = c.truncate.ensures.items in
    subst (λ (v : Layout). AreKeptBeside v.puzzle c.pop.new.self.items v.placed rows c.copy_from_slice.new.self.items c.truncate.new.self.items) (sym c.lift.ensures)
    (subst (λ s. AreKeptBeside p c.pop.new.self.items q rows s c.truncate.new.self.items) (sym sizes) (subst (λ s. AreKeptBeside p c.pop.new.self.items q rows (drop before i.saved.items) s) (sym saved) popped))
