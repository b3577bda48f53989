use Rattle.std.proofs.Common.{List, ℕ, subst}
use Rattle.command_runs.specs.Solving.{SolveFailsOf, SolveGivesOf}
use Rattle.command_runs.proofs.RunningLemmas.{runs_as}
use Rattle.command_runs.proofs.solve_runs.run_solve_watched.Goals as goal

-- the closure's clause says that its fault is one of the texts
pub run_by-ended-requires-clause-kind : goal.run_by-ended-requires-clause-kind
run_by-ended-requires-clause-kind g c = λ texts fault told. told.1.1.1.1

pub returns-clause-run : goal.returns-clause-run
returns-clause-run g c =
    let plan = c.args.search.now.plan in
    rw c.with_hint.ensures (runs_as (g.I.Inputs.reads c.args.inputs.now c.run_by-ended.new.inputs) _ (SolveGivesOf plan) _ (SolveFailsOf plan) (g.O.Outputs.writes c.args.outputs.now c.run_by-ended.new.outputs)
    c.run_by-ended.result (run_by-ended-requires-clause-kind g c.before.before.before) c.run_by-ended.ensures.run
    (λ texts made ends told. subst (λ (t : List ℕ). SolveGivesOf plan t made ends) told.2 told.1.1.1) (λ texts fault told. subst (λ (t : List ℕ). SolveFailsOf plan t fault) told.2 told.1.1.1.0))
