use Rattle.std.proofs.Common.{◌≡◌, Err, rules, subst, sym}
use Rattle.std.proofs.lemmas.Result.{err_from_is_err_and}
use Rattle.byte_streams.specs.Moves.{reading_of, writing_of}
use Rattle.byte_streams.specs.Origins.{one_source}
use Rattle.byte_streams.specs.declared.faults.Document.TheVariants as documents
use Rattle.command_runs.specs.Totals.{TotalFails, TotalGives}
use Rattle.command_orders.specs.OrderRuns.{TotalOf}
use Rattle.command_orders.proofs.OrderLemmas.{then_done}
use Rattle.command_orders.proofs.order_runs.add_up_input.Goals as goal

pub returns-in_err-run_total : goal.returns-in_err-run_total
returns-in_err-run_total g c =
    let w = err_from_is_err_and c.from_residual.result c.from_residual.ensures.1 in
    let left : c.input-1.given.0 ≡ c.run_total.new.parts.source.now = search rules in
    let to = writing_of g.W.Sink c.args.output.now c.run_total.new.writer in
    let from = one_source documents.Parts (reading_of g.I.Source c.args.input.now c.run_total.new.parts.source.now) in
    rw (w.1, w.2) (subst (λ input. TotalOf (one_source documents.Parts (reading_of g.I.Source c.args.input.now input)) to (Err c.in_err-run_total.field-0.0)) (sym left)
    (then_done to from from TotalGives TotalFails (λ t gave. gave) (λ f stops. stops) (Err c.in_err-run_total.field-0.0) c.in_err-run_total.ensures.run))
