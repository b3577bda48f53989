use Rattle.std.proofs.Common.{◌≡◌, ◌++◌, ◌∙◌, [], ℕ, List, Result, Ok, Err, ap, inl, inr, refl, rules, subst, sym}
use Rattle.std.proofs.lemmas.Result.{err_from_is_err_and}
use Rattle.byte_streams.specs.Deeds.{Did}
use Rattle.byte_streams.specs.MadeFiles.{AreWritten, NamesLead, PutsNoneOrHalf, Undid, both_made, both_put}
use Rattle.byte_streams.specs.Moves.{Writing, reading_of, writing_of}
use Rattle.byte_streams.specs.Origins.{Origin, one_source}
use Rattle.byte_streams.specs.Targets.{Target, three_sinks}
use Rattle.byte_streams.specs.declared.faults.Document.TheVariants as documents
use Rattle.byte_streams.specs.declared.made_files.ProductNames.{ProductNames}
use Rattle.byte_streams.specs.declared.outputs.Products.{Products}
use Rattle.command_runs.specs.Runs.{Runs, unhinted}
use Rattle.command_runs.specs.Solving.{SolveFailsOf, SolveGivesOf}
use Rattle.command_runs.specs.declared.faults.RunFault.{RunFault}
use Rattle.command_orders.specs.SolvedFiles.{PutsAll, certificate_name, list_name, solved_files}
use Rattle.command_orders.specs.declared.exits.Exit.TheVariants.{Done}
use Rattle.command_orders.specs.OrderRuns.{SolveOf}
use Rattle.command_orders.proofs.SolvedLemmas.{after_run, are_written, did_then, named, not_begun, put_if_written, put_stopped, replaced_if_written, solve_stopped, stopped_by, tried_if_written, undone, unread}
use Rattle.command_orders.proofs.order_runs.solve_from.Goals.{After-told-told}
use Rattle.command_orders.proofs.order_runs.solve_from.Goals as goal

-- what came of the puzzle's source, and where the texts went
abbrev from : (g : _) (c : After-told-told g) → Origin (List ℕ)
from g c = one_source documents.Puzzle (reading_of g.P.Source c.args.puzzle.now c.run_solve_watched-solved.new.inputs.source.now)

abbrev list_to : (g : _) (c : After-told-told g) → Writing
list_to g c = writing_of g.S.Writer.Sink c.in_ok-made.made.list c.run_solve_watched-solved.new.outputs.list.now

abbrev certificate_to : (g : _) (c : After-told-told g) → Writing
certificate_to g c = writing_of g.S.Writer.Sink c.in_ok-made.made.certificate c.run_solve_watched-solved.new.outputs.certificate.now

abbrev report_to : (g : _) (c : After-told-told g) → Writing
report_to g c = writing_of g.W.Sink c.args.output.now c.run_solve_watched-solved.new.outputs.report.now

abbrev to : (g : _) (c : After-told-told g) → Target Products
to g c = three_sinks (list_to g c) (certificate_to g c) (report_to g c)

-- the run came to this, where what is told of it is the same
run_as : (g : _) (c : After-told-told g) (ended : Result (Unit {0}) RunFault) → unhinted c.told-told.result ≡ ended
    → Runs (from g c) (SolveGivesOf c.args.ordered.plan) (SolveFailsOf c.args.ordered.plan) (to g c) ended
run_as g c ended is =
    subst (Runs (from g c) (SolveGivesOf c.args.ordered.plan) (SolveFailsOf c.args.ordered.plan) (to g c)) (sym c.told-told.ensures ∙ is)
    c.run_solve_watched-solved.ensures.run

pub returns-in_err-are_apart : goal.returns-in_err-are_apart
returns-in_err-are_apart g c =
    let w = err_from_is_err_and c.from_residual.result c.from_residual.ensures.1 in
    rw (w.1, w.2) (inl (unread g.P.Source c.args.puzzle.now, (([], inl refl, refl), refl)))

pub returns-in_err-made : goal.returns-in_err-made
returns-in_err-made g c =
    let w = err_from_is_err_and c.from_residual-in_err-made.result c.from_residual-in_err-made.ensures.1 in
    let does = g.S.FileSystem.does in
    let files = c.args.files.now in
    let old = c.args.system.now in
    let new = c.make_files.new.system in
    let puzzle = one_source documents.Puzzle (reading_of g.P.Source c.args.puzzle.now c.args.puzzle.now) in
    let report = writing_of g.W.Sink c.args.output.now c.args.output.now in
    let to = solved_files files does g.S.FileSystem.leads old new report in
    let undone = named (λ l k. Undid l k does old new) _ _ _ _ c.deref.ensures c.deref-2.ensures c.in_err-made.ensures.undone in
    rw (w.1, w.2) (not_begun c.args.ordered.plan puzzle to (PutsAll files does old new report) (unread g.P.Source c.args.puzzle.now)
    c.in_err-made.field-0.0.fault c.in_err-made.ensures.fault (undone, refl))

-- the two files took the texts that were made
written : (g : _) (c : After-told-told g) (texts : Products) → (to g c).Took texts
    → AreWritten g.S.FileSystem.makes g.S.Writer.Sink.written c.deref.result.now c.deref-2.result.now
    (record { list = c.run_solve_watched-solved.new.outputs.list.now; certificate = c.run_solve_watched-solved.new.outputs.certificate.now }) texts
written g c texts took =
    are_written g.S.FileSystem.makes g.S.Writer.Sink.written c.deref.result.now c.deref-2.result.now c.in_ok-made.made _ texts
    c.in_ok-made.ensures.made.0 took.0.0 took.1.0.0

pub settle-requires : goal.settle-requires
settle-requires g c =
    let at = (goal.at.settle-requires g c).After-told-told in
    after_run (from g at) (SolveGivesOf c.args.ordered.plan) (SolveFailsOf c.args.ordered.plan) (to g at) c.told-told.result
    (run_as g at (unhinted c.told-told.result) refl) (λ texts took. (texts, written g at texts took))

pub returns-in-Err-Stopped : goal.returns-in-Err-Stopped
returns-in-Err-Stopped g c =
    let at = (goal.at.returns-in-Err-Stopped g c).After-told-told in
    let does = g.S.FileSystem.does in
    let leads = g.S.FileSystem.leads in
    let files = c.args.files.now in
    let names : ProductNames = record { list = c.deref.result; certificate = c.deref-2.result } in
    let old = c.args.system.now in
    let now = c.make_files.new.system in
    let new = c.settle.new.system in
    let hinted = c.in-Err-Stopped.hinted in
    let stopped = stopped_by g.S.FileSystem g.S.Writer.Sink.written names _ now new c.told-told.result c.settle.result hinted (c.in-Err-Stopped.is ∙ ap Err c.in-Err-Stopped.field-0-is) c.settle.ensures in
    let undone = named (λ l k. Undid l k does old new) _ _ _ _ c.deref.ensures c.deref-2.ensures
    (undone does names.list.now names.certificate.now old now new c.in_ok-made.ensures.made.1 stopped.1) in
    let left : c.output-1.given.0 ≡ c.run_solve_watched-solved.new.outputs.report.now = search rules in
    let read : c.puzzle-1.given.0 ≡ c.run_solve_watched-solved.new.inputs.source.now = search rules in
    let plan = c.args.ordered.plan in
    let report = c.output-1.given.0 in
    subst (λ p. SolveOf plan (one_source documents.Puzzle (reading_of g.P.Source c.args.puzzle.now p)) (solved_files files does leads old new (writing_of g.W.Sink c.args.output.now report)) (PutsAll files does old new (writing_of g.W.Sink c.args.output.now report)) (Err hinted.fault)) (sym read)
    (subst (λ o. SolveOf plan (from g at) (solved_files files does leads old new (writing_of g.W.Sink c.args.output.now o)) (PutsAll files does old new (writing_of g.W.Sink c.args.output.now o)) (Err hinted.fault)) (sym left)
    (solve_stopped plan (from g at) (solved_files files does leads old new (report_to g at)) (PutsAll files does old new (report_to g at))
    (list_to g at) (certificate_to g at) (report_to g at) (Undid (list_name files) (certificate_name files) does old new) undone (λ m s. inl s) (λ u. u)
    hinted.fault (run_as g at (Err hinted.fault) (ap unhinted stopped.0))))

pub returns-in-Err-NotPut : goal.returns-in-Err-NotPut
returns-in-Err-NotPut g c =
    let at = (goal.at.returns-in-Err-NotPut g c).After-told-told in
    let does = g.S.FileSystem.does in
    let files = c.args.files.now in
    let names : ProductNames = record { list = c.deref.result; certificate = c.deref-2.result } in
    let old = c.args.system.now in
    let now = c.make_files.new.system in
    let new = c.settle.new.system in
    let tried = tried_if_written g.S.FileSystem g.S.Writer.Sink.written names _ now new c.told-told.result c.settle.result c.in-Err-NotPut.refused (c.in-Err-NotPut.is ∙ ap Err c.in-Err-NotPut.field-0-is) c.settle.ensures in
    let t = run_as g at (Ok tt) (ap unhinted tried.0) in
    let half = tried.1 t.1 (written g at t.1 t.4) in
    let left : c.output-1.given.0 ≡ c.run_solve_watched-solved.new.outputs.report.now = search rules in
    let read : c.puzzle-1.given.0 ≡ c.run_solve_watched-solved.new.inputs.source.now = search rules in
    let list = c.deref.ensures in
    let certificate = c.deref-2.ensures in
    let stopped = put_stopped does g.S.FileSystem.leads files old now new (report_to g at) t.1 (named (λ l k. Did does old (both_made l k) now) _ _ _ _ list certificate c.in_ok-made.ensures.made.1)
    (named (λ l k. PutsNoneOrHalf l k does now new t.1) _ _ _ _ list certificate half) t.4.1.1.0 in
    rw (c.not_put.ensures, read, left) (inl (t.0, t.1, Done, t.2, (t.3, refl), stopped))

pub returns : goal.returns
returns g c =
    let at = (goal.at.returns g c).After-told-told in
    let does = g.S.FileSystem.does in
    let names : ProductNames = record { list = c.deref.result; certificate = c.deref-2.result } in
    let old = c.args.system.now in
    let now = c.make_files.new.system in
    let new = c.settle.new.system in
    let settled = replaced_if_written g.S.FileSystem g.S.Writer.Sink.written names _ now new c.told-told.result c.settle.result c.in-Err-Replaced.name (c.in-Err-Replaced.is ∙ ap Err c.in-Err-Replaced.field-0-is) c.settle.ensures in
    let t = run_as g at (Ok tt) (ap unhinted settled.0) in
    let put = settled.1 t.1 (written g at t.1 t.4) in
    let left : c.output-1.given.0 ≡ c.run_solve_watched-solved.new.outputs.report.now = search rules in
    let read : c.puzzle-1.given.0 ≡ c.run_solve_watched-solved.new.inputs.source.now = search rules in
    let did = named (λ l k. Did does old (both_made l k ++ both_put l k t.1) new) _ _ _ _ c.deref.ensures c.deref-2.ensures
    (did_then does old now new (both_made names.list.now names.certificate.now) (both_put names.list.now names.certificate.now t.1) c.in_ok-made.ensures.made.1 put) in
    rw (c.replaced.ensures, read, left) (inr (inr (refl, t.0, t.1, t.2, t.3, (c.in_ok-are_apart.ensures c.if-not-branch.false, did, t.4.1.1.0))))

pub returns-in-Ok : goal.returns-in-Ok
returns-in-Ok g c =
    let at = (goal.at.returns-in-Ok g c).After-told-told in
    let does = g.S.FileSystem.does in
    let leads = g.S.FileSystem.leads in
    let names : ProductNames = record { list = c.deref.result; certificate = c.deref-2.result } in
    let old = c.args.system.now in
    let now = c.make_files.new.system in
    let new = c.settle.new.system in
    let settled = put_if_written g.S.FileSystem g.S.Writer.Sink.written names _ now new c.told-told.result c.settle.result c.in-Ok.is c.settle.ensures in
    let t = run_as g at (Ok tt) (ap unhinted settled.0) in
    let put = settled.1 t.1 (written g at t.1 t.4) in
    let left : c.output-1.given.0 ≡ c.run_solve_watched-solved.new.outputs.report.now = search rules in
    let read : c.puzzle-1.given.0 ≡ c.run_solve_watched-solved.new.inputs.source.now = search rules in
    let did = named (λ l k. Did does old (both_made l k ++ both_put l k t.1) new) _ _ _ _ c.deref.ensures c.deref-2.ensures
    (did_then does old now new (both_made names.list.now names.certificate.now) (both_put names.list.now names.certificate.now t.1) c.in_ok-made.ensures.made.1 put.0) in
    let lead = named (λ l k. NamesLead l k leads new t.1) _ _ _ _ c.deref.ensures c.deref-2.ensures put.1 in
    rw (read, left) (inl (t.0, t.1, t.2, (t.3, refl), ((c.in_ok-are_apart.ensures c.if-not-branch.false, did, t.4.1.1.0), lead)))
