use Rattle.std.proofs.Common.{◌≡◌, ◌/◌, ◌∙◌, None, ap, arith}
use Rattle.std.proofs.lemmas.Option.{slice_get_within}
use Rattle.match_board.specs.Board.{cell_count}
use Rattle.match_puzzle.specs.Puzzle.{Task}
use Rattle.match_puzzle.specs.Fitting.{Fits, turned_tile}
use Rattle.match_puzzle.proofs.PlacementSetLemmas.{one_group_more}
use Rattle.match_puzzle.proofs.partials.Partial.put_fitting_of.Goals as goal

pub loop-cell-preserved : goal.loop-cell-preserved
loop-cell-preserved c =
    one_group_more (λ cell turn. Fits c.args.self.now.puzzle c.args.self.now.placed cell (turned_tile c.args.tile turn)) c.loop-cell.cell c.fitting_turns.result c.loop-cell.numbers c.put_group.new.self c.loop-cell.invariant c.put_group.ensures
    c.fitting_turns.ensures.turns

pub returns-clause-fitting : goal.returns-clause-fitting
returns-clause-fitting c =
    let all = c.loop-cell.invariant in
    let p = c.args.self.now.puzzle in
    let cells : c.cells-cell-end.result ≡ cell_count p.board = c.cells-cell-end.ensures.count ∙ ap cell_count c.board.ensures.value ∙ ap (λ (t : Task). cell_count t.board) c.puzzle.ensures.same in
    let long = c.puzzle.ensures.prefix.cells in
    record {
      only = λ n m. (all.only n m).1;
      all = λ n fits. let within = slice_get_within c.args.self.now.placed (n / 4) None fits.free in all.all n (omega (arith, within, long, cells, c.loop-cell-test.false), fits);
      rising = all.rising;
    }
