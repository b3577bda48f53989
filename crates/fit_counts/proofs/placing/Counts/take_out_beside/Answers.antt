use Rattle.std.proofs.Common.{◌≡◌, ◌∙◌, arith, ap, subst}
use Rattle.match_board.specs.Board.{side_count}
use Rattle.match_puzzle.specs.Puzzle.{Task}
use Rattle.match_puzzle.specs.Prefix.{with_pair}
use Rattle.fit_counts.specs.FitRows.{AreRowsBeside}
use Rattle.fit_counts.specs.FitSizes.{FitsPair, FitsBeside, AreSizesOf}
use Rattle.fit_counts.proofs.FitRowLemmas.{rows_last}
use Rattle.fit_counts.proofs.BesideLemmas.{beside_fits, fits_beside, sizes_as}
use Rattle.fit_counts.proofs.placing.Counts.take_out_beside.Goals as goal
use Rattle.fit_counts.proofs.placing.Counts.take_out_beside.Goals.{After-loop-side}

-- all sides were looked at
at_end : (c : After-loop-side) → c.loop-side.side ≡ side_count c.args.partial.now.puzzle.board
at_end c =
    let sides : c.sides-side-end.result ≡ side_count c.args.partial.now.puzzle.board = c.sides-side-end.ensures.count ∙ ap side_count c.board.ensures.value ∙ ap (λ (t : Task). side_count t.board) c.puzzle-2.ensures.same in
    let past = c.loop-side-test.false in
    omega (arith, past, sides, c.loop-side.auto.side-end)

pub returns : goal.returns
returns c =
    let w = c.args.partial.now in
    let x = c.args.pair in
    let q = with_pair w.placed x.cell x.placement in
    let end = at_end (goal.at.returns c).After-loop-side in
    let counts = c.loop-side.invariant in
    let sizes = c.loop-side.self.sizes.items in
    record {
      rows = rows_last w.puzzle w.placed x c.requires.fits.free c.loop-side.self.rows (subst (λ k. AreRowsBeside w.puzzle w.placed x k c.loop-side.self.rows) end counts.rows);
      open_items = sizes_as w.puzzle q (FitsBeside w.puzzle w.placed x (side_count w.puzzle.board)) (FitsPair w.puzzle q) sizes (beside_fits w.puzzle w.placed x c.requires.fits) (fits_beside w.puzzle w.placed x c.requires.fits)
          (subst (λ k. AreSizesOf w.puzzle q (FitsBeside w.puzzle w.placed x k) sizes) end counts.open_items);
      settled = counts.settled;
    }
