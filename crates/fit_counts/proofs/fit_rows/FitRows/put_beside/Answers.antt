use Rattle.std.proofs.Common.{◌≡◌, ◌<◌, ◌+◌, ◌∙◌, arith, ap, sym, subst}
use Rattle.match_board.specs.Board.{cell_count, side_count}
use Rattle.match_board.proofs.Places.{StandsAt-in_range}
use Rattle.match_limits.proofs.OptionLemmas.{none_some}
use Rattle.match_puzzle.specs.Puzzle.{Task}
use Rattle.fit_counts.proofs.FitRowLemmas.{AreRowsPast, past_first, past_border, past_met, past_last}
use Rattle.match_puzzle.proofs.TableLemmas.{met_is}
use Rattle.fit_counts.proofs.fit_rows.FitRows.put_beside.Goals as goal
use Rattle.fit_counts.proofs.fit_rows.FitRows.put_beside.Goals.{in-Some, in_default, In-Some}

met_in : (c : In-Some) → c.in-Some.other < cell_count c.args.partial.now.puzzle.board
met_in c = StandsAt-in_range (rw c.puzzle-in-loop-side.ensures.same at c.in-Some.ensures.found).there

pub loop-side-init : goal.loop-side-init
loop-side-init c =
    let made = c.put.ensures in
    subst (AreRowsPast c.args.partial.now.puzzle c.args.partial.now.placed c.args.cell 0) (sym made.2)
    (past_first c.args.partial.now.puzzle c.args.partial.now.placed c.args.cell c.args.self.now made.0 c.requires.cell c.requires.others made.1)

pub put-requires-in-Some-clause-cell : goal.put-requires-in-Some-clause-cell
put-requires-in-Some-clause-cell c = met_in (goal.at.put-requires-in-Some-clause-cell c).In-Some

pub put-requires-in-Some-clause-row : goal.put-requires-in-Some-clause-row
put-requires-in-Some-clause-row c =
    let lt = met_in (goal.at.put-requires-in-Some-clause-row c).In-Some in
    let long = c.loop-side.invariant.long in
    omega (arith, lt, long)

pub loop-side-preserved : goal.loop-side-preserved
loop-side-preserved c =
    let w = c.args.partial.now in
    let rows = c.loop-side.self in
    let same = c.puzzle-in-loop-side.ensures.same in
    elim c.match-meets.branch [
      | in-Some v ↦ (let meets = rw same at v.in-Some.ensures.found in
          let one = rw same at v.in-Some.ensures.only in
          let made = v.put-in-Some.ensures in
          rw v.self-is
          (subst (AreRowsPast w.puzzle w.placed c.args.cell (c.loop-side.side + 1)) (sym made.2) (past_met w.puzzle w.placed c.args.cell rows c.loop-side.side c.loop-side.invariant v.in-Some.other v.in-Some.field-0-1 made.0 meets (met_is one) made.1)))
      | in_default v ↦ (let none = rw same at v.in_default.ensures.only in
          rw v.self-is (past_border w.puzzle w.placed c.args.cell rows c.loop-side.side c.loop-side.invariant (λ other k m. none_some (none other k m))))
    ]

pub returns : goal.returns
returns c =
    past_last c.args.partial.now.puzzle c.args.partial.now.placed c.args.cell c.loop-side.self
    (let sides : c.sides-side-end.result ≡ side_count c.args.partial.now.puzzle.board = c.sides-side-end.ensures.count ∙ ap side_count c.board.ensures.value ∙ ap (λ (t : Task). side_count t.board) c.puzzle.ensures.same in
    let past = c.loop-side-test.false in
    let at : c.loop-side.side ≡ side_count c.args.partial.now.puzzle.board = omega (arith, past, sides, c.loop-side.auto.side-end) in
    subst (λ k. AreRowsPast c.args.partial.now.puzzle c.args.partial.now.placed c.args.cell k c.loop-side.self) at c.loop-side.invariant)
