use Rattle.std.proofs.Common.{inr, subst, sym}
use Rattle.std.specs.String.{string_bytes}
use Rattle.byte_streams.specs.Moves.{reading_of, writing_of}
use Rattle.byte_streams.specs.Origins.{one_source}
use Rattle.byte_streams.specs.declared.faults.Document.TheVariants as documents
use Rattle.command_runs.specs.Runs.{unhinted}
use Rattle.command_words.specs.declared.places.Place.{Place}
use Rattle.command_words.specs.declared.places.Place.TheVariants.{File, Input}
use Rattle.command_orders.specs.OrderRuns.{SolveOf}
use Rattle.command_orders.specs.PlaceOrigins.{one_place}
use Rattle.command_orders.specs.SolvedFiles.{PutsAll, solved_files}
use Rattle.command_orders.proofs.OrderLemmas.{opened_as}
use Rattle.command_orders.proofs.SolvedLemmas.{solve_over}
use Rattle.command_orders.proofs.order_runs.solve.Goals as goal

pub returns-in_ok-puzzle-in-File-clause-run : goal.returns-in_ok-puzzle-in-File-clause-run
returns-in_ok-puzzle-in-File-clause-run g c =
    let name = c.in-File.name in
    let files = c.args.files.now in
    let does = g.S.FileSystem.does in
    let old = c.args.system.now in
    let new = c.solve_from.new.system in
    let report = writing_of g.W.Sink c.args.output.now c.solve_from.new.output in
    let puzzle = c.in_ok-puzzle-in-File.puzzle in
    let read = c.solve_from.new.puzzle in
    let opened = opened_as g.S.FileSystem g.S.Reader.Source old (string_bytes name) c.deref.result.now puzzle read c.deref.ensures c.in_ok-puzzle-in-File.ensures.opened in
    let from = one_source documents.Puzzle (reading_of g.S.Reader.Source puzzle read) in
    let input = c.args.input.now in
    let plan = c.args.ordered.plan in
    let to = solved_files files does g.S.FileSystem.leads old new report in
    let put = PutsAll files does old new report in
    let result = unhinted c.solve_from.result in
    subst (λ (place : Place). SolveOf plan (one_place g.S.FileSystem g.S.Reader.Source old g.I.Source input input place) to put result) (sym c.in-File.is)
    (solve_over plan from to put (one_place g.S.FileSystem g.S.Reader.Source old g.I.Source input input (File name)) (λ t gave. (opened, gave)) (λ f stops. inr (opened, stops)) result c.solve_from.ensures)

pub returns-in-Input-clause-run : goal.returns-in-Input-clause-run
returns-in-Input-clause-run g c =
    let files = c.args.files.now in
    let does = g.S.FileSystem.does in
    let old = c.args.system.now in
    let new = c.solve_from-in-Input.new.system in
    let report = writing_of g.W.Sink c.args.output.now c.solve_from-in-Input.new.output in
    let input = c.args.input.now in
    let later = c.solve_from-in-Input.new.puzzle in
    let from = one_source documents.Puzzle (reading_of g.I.Source input later) in
    let plan = c.args.ordered.plan in
    let to = solved_files files does g.S.FileSystem.leads old new report in
    let put = PutsAll files does old new report in
    let result = unhinted c.solve_from-in-Input.result in
    subst (λ (place : Place). SolveOf plan (one_place g.S.FileSystem g.S.Reader.Source old g.I.Source input later place) to put result) (sym c.in-Input.is)
    (solve_over plan from to put (one_place g.S.FileSystem g.S.Reader.Source old g.I.Source input later Input) (λ t gave. (tt, gave)) (λ f stops. inr (tt, stops)) result c.solve_from-in-Input.ensures)
