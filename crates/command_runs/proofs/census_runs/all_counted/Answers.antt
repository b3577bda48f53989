use Rattle.std.proofs.Common.{Err, ap, subst}
use Rattle.std.proofs.lemmas.Result.{err_from_is_err_and}
use Rattle.match_puzzle.specs.Arrangement.{HasArrangements}
use Rattle.match_puzzle.specs.Puzzle.{Task}
use Rattle.command_words.specs.declared.orders.Extent.TheVariants as extents
use Rattle.command_runs.specs.Census.{IsNotCounted}
use Rattle.command_runs.proofs.CensusLemmas.{compile_fails}
use Rattle.command_runs.proofs.census_runs.all_counted.Goals as goal

pub returns-in_err-xcc-clause-fails : goal.returns-in_err-xcc-clause-fails
returns-in_err-xcc-clause-fails g c =
    let w = err_from_is_err_and c.from_residual.result c.from_residual.ensures.1 in
    rw (w.1, w.2) (compile_fails extents.All c.args.puzzle.now c.in_err-xcc.field-0.0 (λ e. c.in_err-xcc.ensures.too_many (ap Err e)))

pub returns-in_err-count-clause-fails : goal.returns-in_err-count-clause-fails
returns-in_err-count-clause-fails g c =
    let w = err_from_is_err_and c.from_residual-in_err-count.result c.from_residual-in_err-count.ensures.1 in
    rw (w.1, w.2) (subst (λ (p : Task). IsNotCounted extents.All p c.in_err-count.field-0.0) c.in_ok-xcc.ensures.puzzle c.in_err-count.ensures.fails)

pub returns-clause-prints : goal.returns-clause-prints
returns-clause-prints g c =
    let count = c.in_ok-count.count in
    (count, subst (λ (p : Task). HasArrangements p count) c.in_ok-xcc.ensures.puzzle c.in_ok-count.ensures.counted, c.in_ok-count_line.ensures)
