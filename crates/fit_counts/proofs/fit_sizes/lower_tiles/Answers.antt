use Rattle.std.proofs.Common.{◌≡◌, ◌<◌, ◌+◌, ◌-◌, ◌/◌, ◌∷◌, ◌∙◌, ℕ, length, get_or, set, arith, ap, sym, subst}
use Rattle.std.proofs.lemmas.List.{get_or_read}
use Rattle.fit_counts.proofs.LowerLemmas.{AreTilesLowered, no_tiles_lowered, tile_in_table, enough_for_one, one_tile_lowered, all_tiles_lowered}
use Rattle.fit_counts.proofs.fit_sizes.lower_tiles.Goals as goal
use Rattle.fit_counts.proofs.fit_sizes.lower_tiles.Goals.{After-from}

before : (c : After-from) → AreTilesLowered c.args.numbers.now (c.in-Some.number ∷ c.take_first.new.self) c.args.cells c.args.sizes.now.items c.loop-number.sizes.items
before c = subst (λ xs. AreTilesLowered c.args.numbers.now xs c.args.cells c.args.sizes.now.items c.loop-number.sizes.items) c.in-Some.ensures.taken c.loop-number.invariant

place : (c : After-from) → c.args.cells + c.from.result ≡ c.args.cells + c.in-Some.number / 4
place c = omega (arith, c.from.ensures)

place_in : (c : After-from) → c.args.cells + c.in-Some.number / 4 < length c.loop-number.sizes.items
place_in c = tile_in_table c.args.numbers.now c.in-Some.number c.take_first.new.self c.args.cells c.args.sizes.now.items c.loop-number.sizes.items (before c) c.requires.enough

entry : (c : After-from) (size : ℕ) → size ≡ get_or c.loop-number.sizes.items (c.args.cells + c.from.result) size → size ≡ get_or c.loop-number.sizes.items (c.args.cells + c.in-Some.number / 4) 0
entry c size read =
    let at = place c in
    let lt = place_in c in
    get_or_read c.loop-number.sizes.items (c.args.cells + c.from.result) size (omega (arith, at, lt)) read 0 ∙ ap (λ k. get_or c.loop-number.sizes.items k 0) at

pub loop-number-init : goal.loop-number-init
loop-number-init c = rw c.members-left.ensures (no_tiles_lowered c.args.numbers.now c.args.cells c.args.sizes.now.items c.requires.below)

pub index_mut-requires : goal.index_mut-requires
index_mut-requires c =
    let there = (goal.at.index_mut-requires c).After-from in
    let at = place there in
    let lt = place_in there in
    let long = c.loop-number.sizes.ok.0 in
    omega (arith, at, lt, long)

pub overflow_sub-index_mut : goal.overflow_sub-index_mut
overflow_sub-index_mut c =
    let there = (goal.at.overflow_sub-index_mut c).After-from in
    let some = enough_for_one c.args.numbers.now c.in-Some.number c.take_first.new.self c.args.cells c.args.sizes.now.items c.loop-number.sizes.items (before there) c.requires.enough in
    let at = entry there c.index_mut.result.now c.index_mut.ensures.value in
    omega (arith, some, at)

pub loop-number-preserved : goal.loop-number-preserved
loop-number-preserved c =
    let there = (goal.at.loop-number-preserved c).After-from in
    let sizes = c.loop-number.sizes.items in
    let at = entry there c.index_mut.result.now c.index_mut.ensures.value in
    subst (AreTilesLowered c.args.numbers.now c.take_first.new.self c.args.cells c.args.sizes.now.items)
    (sym (ap (λ k. set sizes k (c.index_mut.result.now - 1024)) (place there) ∙ ap (λ n. set sizes (c.args.cells + c.in-Some.number / 4) (n - 1024)) at))
    (one_tile_lowered c.args.numbers.now c.in-Some.number c.take_first.new.self c.args.cells c.args.sizes.now.items sizes (before there) c.requires.enough)

pub returns-clause-tiles : goal.returns-clause-tiles
returns-clause-tiles c =
    all_tiles_lowered c.args.numbers.now c.loop-number.left c.args.cells c.args.sizes.now.items c.loop-number.sizes.items c.in_default.ensures.taken.0 c.loop-number.invariant
