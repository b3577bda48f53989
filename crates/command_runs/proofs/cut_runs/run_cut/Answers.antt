use Rattle.command_runs.proofs.cut_runs.run_cut.Goals as goal

-- the closure's clause says that its fault is one of the texts
pub run_by-ended-requires-clause-kind : goal.run_by-ended-requires-clause-kind
run_by-ended-requires-clause-kind g c = λ texts fault told. told.1.1.1.1
