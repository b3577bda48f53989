use Rattle.std.proofs.Common.{◌≡◌, ◌<◌, ◌-◌, ◌*◌, ◌∷◌, ◌∙◌, [], ℕ, List, length, get_or, set, arith, ap, sym, subst}
use Rattle.std.proofs.lemmas.List.{get_or_read}
use Rattle.match_limits.specs.NumberSets.{count_of_group}
use Rattle.fit_counts.proofs.LowerLemmas.{AreCellsLowered, no_cells_lowered, cell_in_rows, cell_in_table, enough_for_cell, one_cell_lowered, all_cells_lowered}
use Rattle.fit_counts.proofs.fit_sizes.lower_cells.Goals as goal
use Rattle.fit_counts.proofs.fit_sizes.lower_cells.Goals.{After-from-in-Some, In-Some}

before : (c : In-Some) → AreCellsLowered c.args.rows.now c.args.tile (c.in-Some.cell ∷ c.take_first.new.self) c.args.sizes.now.items c.loop-cell.sizes.items
before c = subst (λ xs. AreCellsLowered c.args.rows.now c.args.tile xs c.args.sizes.now.items c.loop-cell.sizes.items) c.in-Some.ensures.taken c.loop-cell.invariant

in_rows : (c : In-Some) → c.in-Some.cell < length c.args.rows.now
in_rows c = cell_in_rows c.args.rows.now c.args.tile c.in-Some.cell c.take_first.new.self c.args.sizes.now.items c.loop-cell.sizes.items (before c) c.requires.long c.requires.enough c.in-Some.ensures.least

in_table : (c : In-Some) → c.in-Some.cell < length c.loop-cell.sizes.items
in_table c = cell_in_table c.args.rows.now c.args.tile c.in-Some.cell c.take_first.new.self c.args.sizes.now.items c.loop-cell.sizes.items (before c) c.requires.long c.requires.enough c.in-Some.ensures.least

-- how many are taken off
count : (c : After-from-in-Some) → c.from.result ≡ count_of_group (get_or c.args.rows.now c.in-Some.cell []) c.args.tile
count c = c.from.ensures ∙ c.group_len-count.ensures.count ∙ ap (λ (row : List ℕ). count_of_group row c.args.tile) c.at.ensures

entry : (c : After-from-in-Some) (size : ℕ) → c.in-Some.cell < length c.loop-cell.sizes.items → size ≡ get_or c.loop-cell.sizes.items c.from-in-Some.result size → size ≡ get_or c.loop-cell.sizes.items c.in-Some.cell 0
entry c size lt read =
    let at = c.from-in-Some.ensures in
    get_or_read c.loop-cell.sizes.items c.from-in-Some.result size (omega (arith, at, lt)) read 0 ∙ ap (λ k. get_or c.loop-cell.sizes.items k 0) at

pub loop-cell-init : goal.loop-cell-init
loop-cell-init c = no_cells_lowered c.args.rows.now c.args.tile c.open_cells-left.result c.args.sizes.now.items c.open_cells-left.ensures

pub at-requires : goal.at-requires
at-requires c = in_rows (goal.at.at-requires c).In-Some

pub index_mut-requires : goal.index_mut-requires
index_mut-requires c =
    let lt = in_table (goal.at.index_mut-requires c).In-Some in
    let long = c.loop-cell.sizes.ok.0 in
    omega (arith, lt, long, c.from-in-Some.ensures)

pub overflow_sub-index_mut : goal.overflow_sub-index_mut
overflow_sub-index_mut c =
    let first = (goal.at.overflow_sub-index_mut c).In-Some in
    let there = (goal.at.overflow_sub-index_mut c).After-from-in-Some in
    let some = enough_for_cell c.args.rows.now c.args.tile c.in-Some.cell c.take_first.new.self c.args.sizes.now.items c.loop-cell.sizes.items (before first) c.requires.long c.requires.enough c.in-Some.ensures.least in
    let at = entry there c.index_mut.result.now (in_table first) c.index_mut.ensures.value in
    let many = count there in
    omega (arith, some, at, many)

pub loop-cell-preserved : goal.loop-cell-preserved
loop-cell-preserved c =
    let first = (goal.at.loop-cell-preserved c).In-Some in
    let there = (goal.at.loop-cell-preserved c).After-from-in-Some in
    let sizes = c.loop-cell.sizes.items in
    let cell = c.in-Some.cell in
    let at = entry there c.index_mut.result.now (in_table first) c.index_mut.ensures.value in
    let many = count there in
    let left : c.index_mut.result.now - 1024 * c.from.result ≡ get_or sizes cell 0 - 1024 * count_of_group (get_or c.args.rows.now cell []) c.args.tile = omega (arith, at, many) in
    subst (AreCellsLowered c.args.rows.now c.args.tile c.take_first.new.self c.args.sizes.now.items)
    (sym (ap (λ k. set sizes k (c.index_mut.result.now - 1024 * c.from.result)) c.from-in-Some.ensures ∙ ap (set sizes cell) left))
    (one_cell_lowered c.args.rows.now c.args.tile cell c.take_first.new.self c.args.sizes.now.items sizes (before first) c.requires.long c.requires.enough c.in-Some.ensures.least)

pub returns-clause-cells : goal.returns-clause-cells
returns-clause-cells c =
    all_cells_lowered c.args.rows.now c.args.tile c.loop-cell.left c.args.sizes.now.items c.loop-cell.sizes.items c.in_default.ensures.taken.0 c.loop-cell.invariant
