use Rattle.std.proofs.Common.{Err, Ok, refl}
use Rattle.std.proofs.lemmas.Result.{err_from_is_err_and}
use Rattle.std.specs.Fn.{FnOnceReturnsAt}
use Rattle.command_runs.proofs.RunningLemmas.{stopped_making}
use Rattle.command_runs.proofs.running.run_by.Goals as goal

pub returns-in_err-made-clause-run : goal.returns-in_err-made-clause-run
returns-in_err-made-clause-run g c =
    let w = err_from_is_err_and c.from_residual-in_err-made.result c.from_residual-in_err-made.ensures.1 in
    let read = c.in_ok-texts.ensures in
    let texts = c.in_ok-texts.texts in
    let fault = c.in_err-made.field-0.0 in
    let failed : FnOnceReturnsAt g.F.FnOnce c.args.make texts (Err fault) = (_, c.in_err-made.ensures, refl) in
    rw (w.1, w.2) (stopped_making (g.I.Inputs.reads c.args.inputs.now c.read_all.new.self)
    (λ texts made ends. FnOnceReturnsAt g.F.FnOnce c.args.make texts (Ok (made, ends))) (λ texts fault. FnOnceReturnsAt g.F.FnOnce c.args.make texts (Err fault))
    (g.O.Outputs.writes c.args.outputs.now c.args.outputs.now) texts fault read.gave read.faultless failed (c.requires.kind texts fault failed)
    (g.met.O.Outputs.stays c.args.outputs.now).1)

pub returns-in_err-write_all-clause-run : goal.returns-in_err-write_all-clause-run
returns-in_err-write_all-clause-run g c =
    let w = err_from_is_err_and c.from_residual-in_err-write_all.result c.from_residual-in_err-write_all.ensures.1 in
    let read = c.in_ok-texts.ensures in
    rw (w.1, w.2) (c.in_ok-texts.texts, c.in_ok-made.made, c.in_ok-made.ends, read.gave, (_, c.in_ok-made.ensures, refl), c.in_err-write_all.ensures.stopped)
