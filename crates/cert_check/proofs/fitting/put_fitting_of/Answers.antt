use Rattle.std.proofs.Common.{◌≡◌, ◌/◌, ◌∙◌, None, ap, arith}
use Rattle.std.proofs.lemmas.Option.{slice_get_within}
use Rattle.match_board.specs.Board.{cell_count}
use Rattle.match_puzzle.specs.Puzzle.{Task}
use Rattle.cert_check.proofs.fitting.put_fitting_of.Goals as goal

pub returns-clause-fitting : goal.returns-clause-fitting
returns-clause-fitting c =
    let all = c.loop-cell.invariant in
    let p = c.args.partial.now.puzzle in
    let cells : c.cells-cell-end.result ≡ cell_count p.board = c.cells-cell-end.ensures.count ∙ ap cell_count c.board.ensures.value ∙ ap (λ (t : Task). cell_count t.board) c.puzzle.ensures.same in
    let long = c.puzzle.ensures.prefix.cells in
    record {
      only = λ n m. (all.only n m).1;
      all = λ n fits. let within = slice_get_within c.args.partial.now.placed (n / 4) None fits.free in all.all n (omega (arith, within, long, cells, c.loop-cell-test.false), fits);
      rising = all.rising;
    }
