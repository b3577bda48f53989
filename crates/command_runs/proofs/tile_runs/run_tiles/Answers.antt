use Rattle.command_runs.proofs.tile_runs.run_tiles.Goals as goal

-- the closure's clause says that its fault is one of the texts
pub run_by-requires-clause-kind : goal.run_by-requires-clause-kind
run_by-requires-clause-kind g c = λ texts fault told. told.1.1
