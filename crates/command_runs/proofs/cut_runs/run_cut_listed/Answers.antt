use Rattle.std.proofs.Common.{◌≡◌, rules, subst}
use Rattle.byte_streams.specs.Moves.{reading_of, writing_of}
use Rattle.byte_streams.specs.Origins.{two_sources}
use Rattle.byte_streams.specs.Targets.{one_sink}
use Rattle.byte_streams.specs.declared.documents.TwoTexts.{TwoTexts}
use Rattle.command_runs.specs.Cuts.{PrintsCutListed}
use Rattle.command_runs.specs.Pictures.{PictureFails}
use Rattle.command_runs.proofs.RunningLemmas.{runs_as}
use Rattle.command_runs.proofs.cut_runs.run_cut_listed.Goals as goal

-- the closure's clause says that its fault is one of the texts
pub run_by-ended-requires-clause-kind : goal.run_by-ended-requires-clause-kind
run_by-ended-requires-clause-kind g c = λ texts fault told. told.1.1.1.1

-- what the structs of references leave behind them is what the run left there
pub returns : goal.returns
returns g c =
    let number = c.args.number in
    let size = c.args.plan.size in
    let new = c.run_by-ended.new in
    let puzzle : c.puzzle-1.given.0 ≡ new.inputs.puzzle.now = search rules in
    let list : c.list-1.given.0 ≡ new.inputs.list.now = search rules in
    let writer : c.writer-1.given.0 ≡ new.outputs.sink.now = search rules in
    let from = two_sources (reading_of g.P.Source c.args.puzzle.now new.inputs.puzzle.now) (reading_of g.L.Source c.args.list.now new.inputs.list.now) in
    let to = one_sink (writing_of g.W.Sink c.args.writer.now new.outputs.sink.now) in
    rw (puzzle, list, writer, c.with_hint.ensures) (runs_as from _ (PrintsCutListed number size) _ (PictureFails number 0) to
    c.run_by-ended.result (run_by-ended-requires-clause-kind g c.before.before.before.before.before.before) c.run_by-ended.ensures.run
    (λ texts made ends told. subst (λ (t : TwoTexts). PrintsCutListed number size t made ends) told.2 told.1.1.1) (λ texts fault told. subst (λ (t : TwoTexts). PictureFails number 0 t fault) told.2 told.1.1.1.0))
