use Rattle.std.proofs.Common.{◌≡◌, List, ℕ, rules, subst}
use Rattle.byte_streams.specs.Moves.{reading_of, writing_of}
use Rattle.byte_streams.specs.Origins.{one_source}
use Rattle.byte_streams.specs.Targets.{one_sink}
use Rattle.byte_streams.specs.declared.faults.Document.TheVariants as documents
use Rattle.command_runs.specs.Generating.{LikeFails, LikeGives}
use Rattle.command_runs.proofs.RunningLemmas.{runs_as}
use Rattle.command_runs.proofs.generate_runs.run_generate_like.Goals as goal

-- the closure's clause says that its fault is one of the texts
pub run_by-ended-requires-clause-kind : goal.run_by-ended-requires-clause-kind
run_by-ended-requires-clause-kind g c = λ texts fault told. told.1.1.1.1

-- what the structs of references leave behind them is what the run left there
pub returns : goal.returns
returns g c =
    let draft = c.args.draft.now in
    let new = c.run_by-ended.new in
    let model : c.model-1.given.0 ≡ new.inputs.source.now = search rules in
    let writer : c.writer-1.given.0 ≡ new.outputs.sink.now = search rules in
    let from = one_source documents.Puzzle (reading_of g.P.Source c.args.model.now new.inputs.source.now) in
    let to = one_sink (writing_of g.W.Sink c.args.writer.now new.outputs.sink.now) in
    rw (model, writer, c.with_hint.ensures) (runs_as from _ (LikeGives draft) _ (LikeFails draft) to
    c.run_by-ended.result (run_by-ended-requires-clause-kind g c.before.before.before.before.before) c.run_by-ended.ensures.run
    (λ texts made ends told. subst (λ (t : List ℕ). LikeGives draft t made ends) told.2 told.1.1.1) (λ texts fault told. subst (λ (t : List ℕ). LikeFails draft t fault) told.2 told.1.1.1.0))
