use Rattle.std.proofs.Common.{◌≡◌, Ok, Err, rules, subst, sym}
use Rattle.std.proofs.lemmas.Result.{err_from_is_err_and}
use Rattle.byte_streams.specs.Moves.{writing_of}
use Rattle.command_runs.specs.Pages.{PageGives}
use Rattle.command_runs.specs.Printing.{PrintingFails}
use Rattle.command_runs.specs.declared.printing_runs.Printing.TheVariants as printings
use Rattle.command_orders.specs.OrderRuns.{PageOf}
use Rattle.command_orders.proofs.OrderLemmas.{over_documents, page_complete}
use Rattle.command_orders.proofs.place_runs.print_page.Goals as goal

pub returns-in_err-status-clause-run : goal.returns-in_err-status-clause-run
returns-in_err-status-clause-run g c =
    let w = err_from_is_err_and c.from_residual.result c.from_residual.ensures.1 in
    let new = c.run_page.new in
    let left : c.output-1.given.0 ≡ new.outputs.sink.now = search rules in
    let plan = c.args.plan.now in
    let fault = c.in_err-status.field-0.0.fault in
    let from = g.N.Inputs.reads c.args.inputs.now new.inputs in
    rw (w.1, w.2) (subst (λ o. PageOf plan from (writing_of g.W.Sink c.args.output.now o) (Err fault)) (sym left)
    (over_documents (writing_of g.W.Sink c.args.output.now new.outputs.sink.now) (PageGives plan) (PrintingFails printings.Count) (page_complete plan) from (Err fault) c.in_err-status.ensures.run))
