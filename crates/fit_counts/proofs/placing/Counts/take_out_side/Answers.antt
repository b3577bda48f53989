use Rattle.std.proofs.Common.{◌≡◌, ◌<◌, ◌+◌, ◌-◌, ◌*◌, ◌∙◌, ℕ, length, length-set, get_or, arith, refl, sym, ap, subst}
use Rattle.match_board.specs.Board.{cell_count, Meets}
use Rattle.match_limits.specs.Listing.{IsListing}
use Rattle.match_board.proofs.Places.{StandsAt-in_range}
use Rattle.match_limits.proofs.OptionLemmas.{none_some}
use Rattle.match_puzzle.specs.Puzzle.{Task}
use Rattle.match_puzzle.specs.Prefix.{IsFree, with_pair}
use Rattle.match_puzzle.specs.PlacementSets.{AreShowing}
use Rattle.fit_counts.specs.FitRows.{StandsBeside, AreRowsBeside}
use Rattle.fit_counts.specs.FitSizes.{FitsBeside}
use Rattle.fit_counts.specs.declared.fit_sizes.TheConstants.{STEP}
use Rattle.match_puzzle.proofs.TableLemmas.{met_is}
use Rattle.fit_counts.proofs.FitRowLemmas.{rows_met, rows_border, rows_filled}
use Rattle.fit_counts.proofs.OpenRowLemmas.{entry_read}
use Rattle.fit_counts.proofs.BesideLemmas.{AreGone, beside_less, beside_more, side_below, side_enough_cell, side_enough_tile, side_sizes, side_covered, sizes_as}
use Rattle.fit_counts.proofs.PlacingLemmas.{filled_taken, free_before}
use Rattle.fit_counts.proofs.placing.Counts.take_out_side.Goals as goal
use Rattle.fit_counts.proofs.placing.Counts.take_out_side.Goals.{In-Some, Then-is_some, After-remove_group, After-index_mut, After-len-in-Some}

cell_in : (c : In-Some) → c.in-Some.cell < cell_count c.args.partial.now.puzzle.board
cell_in c = StandsAt-in_range (rw c.puzzle-puzzle.ensures.same at c.in-Some.ensures.found).there

are_gone : (c : After-remove_group) → AreGone c.args.partial.now.puzzle c.args.partial.now.placed c.args.pair c.args.side c.in-Some.cell c.in-Some.met c.args.asked c.showing-kept.result.now c.at-in-Some.result.now c.free.result.now c.put_without.new.self c.remove_group.new.self
are_gone c =
    let w = c.args.partial.now in
    let same = c.puzzle-puzzle.ensures.same in
    let inside = c.in-Some in
    let rows = c.args.self.now.rows in
    let lt = StandsAt-in_range (rw same at inside.ensures.found).there in
    let long = c.requires.counts.rows.long in
    record {
      puzzle = c.puzzle-puzzle.ensures.puzzle;
      fits = c.requires.fits;
      meets = rw same at inside.ensures.found;
      one = met_is (rw same at inside.ensures.only);
      mate = c.requires.asked;
      few = c.requires.few;
      showing = subst (λ (t : Task). AreShowing t.words c.args.asked inside.met c.showing-kept.result.now) same c.showing-kept.ensures;
      in_row = subst (IsListing ◌<◌ (StandsBeside w.puzzle w.placed c.args.pair c.args.side inside.cell)) (sym c.at-in-Some.ensures)
          (c.requires.counts.rows.is inside.cell lt);
      are_free = c.free.ensures;
      are_without = c.put_without.ensures;
      are_gone = c.remove_group.ensures;
    }

-- the entry of the cell, before it is lowered
size_read : (c : After-index_mut) → get_or c.args.self.now.sizes.items c.in-Some.cell 0 ≡ c.index_mut.result.now
size_read c =
    let meets = (rw c.puzzle-puzzle.ensures.same at c.in-Some.ensures.found) in
    let lt = StandsAt-in_range meets.there in
    let long = c.requires.counts.open_items.long in
    entry_read c.args.self.now.sizes.items c.from-in-Some.result c.in-Some.cell 0 c.index_mut.result.now (omega (arith, lt, long)) c.from-in-Some.ensures c.index_mut.ensures.value

cells_is : (c : After-len-in-Some) → c.len-in-Some.result ≡ cell_count c.args.partial.now.puzzle.board
cells_is c = let kept = c.keep.ensures in c.len-in-Some.ensures ∙ ap length kept.2 ∙ length-set c.args.self.now.rows c.in-Some.cell kept.0 ∙ c.requires.counts.rows.long

-- the cell that is met is filled
is_filled : (c : Then-is_some) (cell met : ℕ) → Meets c.args.partial.now.puzzle.board c.args.pair.cell c.args.side cell met → IsFree c.args.partial.now.placed cell → ⊥
is_filled c cell met meets free =
    let one = met_is (rw c.puzzle-puzzle.ensures.same at c.in-Some.ensures.only) cell met meets in
    filled_taken c.args.partial.now.placed c.in-Some.cell c.at.result c.at.ensures.value (sym c.is_some.ensures ∙ c.if-is_some.true) (subst (IsFree c.args.partial.now.placed) one.0 free)

pub at-requires : goal.at-requires
at-requires c = cell_in (goal.at.at-requires c).In-Some

pub at-requires-in-Some : goal.at-requires-in-Some
at-requires-in-Some c =
    let lt = cell_in (goal.at.at-requires-in-Some c).In-Some in
    let long = c.requires.counts.rows.long in
    omega (arith, lt, long)

pub keep-requires : goal.keep-requires
keep-requires c =
    let lt = cell_in (goal.at.keep-requires c).In-Some in
    let long = c.requires.counts.rows.long in
    omega (arith, lt, long)

pub index_mut-requires : goal.index_mut-requires
index_mut-requires c =
    let lt = cell_in (goal.at.index_mut-requires c).In-Some in
    let long = c.requires.counts.open_items.long in
    omega (arith, lt, long, c.from-in-Some.ensures, c.args.self.now.sizes.ok.0)

pub overflow_sub-index_mut : goal.overflow_sub-index_mut
overflow_sub-index_mut c =
    let at = goal.at.overflow_sub-index_mut c in
    let enough = side_enough_cell _ _ _ _ _ _ _ _ _ _ _ _ (are_gone at.After-remove_group) (cell_count c.args.partial.now.puzzle.board) refl c.args.self.now.sizes.items c.requires.counts.open_items in
    let read = size_read at.After-index_mut in
    omega (arith, enough, read, c.from.ensures, c.len.ensures.count)

pub lower_tiles-requires-clause-below : goal.lower_tiles-requires-clause-below
lower_tiles-requires-clause-below c =
    let at = goal.at.lower_tiles-requires-clause-below c in
    rw c.from-in-Some.ensures (side_below _ _ _ _ _ _ _ _ _ _ _ _ (are_gone at.After-remove_group) c.len-in-Some.result (cells_is at.After-len-in-Some) c.args.self.now.sizes.items c.requires.counts.open_items
    (c.index_mut.result.now - 1024 * c.from.result))

pub lower_tiles-requires-clause-enough : goal.lower_tiles-requires-clause-enough
lower_tiles-requires-clause-enough c =
    let at = goal.at.lower_tiles-requires-clause-enough c in
    rw c.from-in-Some.ensures (side_enough_tile _ _ _ _ _ _ _ _ _ _ _ _ (are_gone at.After-remove_group) c.len-in-Some.result (cells_is at.After-len-in-Some) c.args.self.now.sizes.items c.requires.counts.open_items
    (c.index_mut.result.now - 1024 * c.from.result))

pub returns-else-is_some : goal.returns-else-is_some
returns-else-is_some c =
    let at = goal.at.returns-else-is_some c in
    let w = c.args.partial.now in
    let gone = are_gone at.After-remove_group in
    let cell = c.in-Some.cell in
    let cells = cells_is at.After-len-in-Some in
    let rows = c.args.self.now.rows in
    let kept = c.keep.ensures in
    let old = c.args.self.now.sizes.items in
    let place = c.from-in-Some.ensures in
    let entry = c.index_mut.result.now - 1024 * c.from.result in
    let enough = side_enough_cell _ _ _ _ _ _ _ _ _ _ _ _ gone c.len-in-Some.result cells old c.requires.counts.open_items in
    let read = size_read at.After-index_mut in
    let lowered : entry + STEP * length c.remove_group.new.self ≡ get_or old cell 0 = omega (arith, enough, read, c.from.ensures, c.len.ensures.count) in
    let new = c.lower_tiles.new.sizes.items in
    let new_long = rw place at c.lower_tiles.ensures.long in
    let tiles = rw place at c.lower_tiles.ensures.tiles in
    let others = rw place at c.lower_tiles.ensures.cells in
    record {
      rows = subst (AreRowsBeside w.puzzle w.placed c.args.pair (c.args.side + 1)) (sym kept.2)
          (rows_met w.puzzle w.placed c.args.pair c.args.side cell c.in-Some.met c.args.asked c.showing-kept.result.now kept.0 rows gone.puzzle gone.meets gone.one gone.mate gone.few gone.showing kept.1 c.requires.counts.rows);
      open_items = side_sizes _ _ _ _ _ _ _ _ _ _ _ _ gone c.len-in-Some.result cells old c.requires.counts.open_items entry lowered new new_long tiles others c.puzzle-puzzle.ensures.prefix.cells;
      settled = side_covered _ _ _ _ _ _ _ _ _ _ _ _ gone c.len-in-Some.result cells old c.requires.counts.open_items entry lowered new new_long tiles others c.requires.counts.settled;
    }

pub returns-then-is_some : goal.returns-then-is_some
returns-then-is_some c =
    let inside = (goal.at.returns-then-is_some c).Then-is_some in
    let w = c.args.partial.now in
    let x = c.args.pair in
    let side = c.args.side in
    record {
      rows = rows_filled w.puzzle w.placed x side c.args.self.now.rows
          (λ cell met meets free. is_filled inside cell met meets (free_before w.puzzle w.placed x c.requires.fits cell free).1)
          c.requires.counts.rows;
      open_items = sizes_as w.puzzle (with_pair w.placed x.cell x.placement) (FitsBeside w.puzzle w.placed x side) (FitsBeside w.puzzle w.placed x (side + 1)) c.args.self.now.sizes.items
          (λ y f. beside_more w.puzzle w.placed x side y (λ met meets. absurd (is_filled inside y.cell met meets f.fits.free)) f)
          (λ y f. beside_less w.puzzle w.placed x side y f)
          c.requires.counts.open_items;
      settled = c.requires.counts.settled;
    }

pub returns-in_default : goal.returns-in_default
returns-in_default c =
    let w = c.args.partial.now in
    let x = c.args.pair in
    let side = c.args.side in
    let none = rw c.puzzle-puzzle.ensures.same at c.in_default.ensures.only in
    record {
      rows = rows_border w.puzzle w.placed x side c.args.self.now.rows (λ cell met meets. none_some (none cell met meets)) c.requires.counts.rows;
      open_items = sizes_as w.puzzle (with_pair w.placed x.cell x.placement) (FitsBeside w.puzzle w.placed x side) (FitsBeside w.puzzle w.placed x (side + 1)) c.args.self.now.sizes.items
          (λ y f. beside_more w.puzzle w.placed x side y (λ met meets. absurd (none_some (none y.cell met meets))) f)
          (λ y f. beside_less w.puzzle w.placed x side y f)
          c.requires.counts.open_items;
      settled = c.requires.counts.settled;
    }
