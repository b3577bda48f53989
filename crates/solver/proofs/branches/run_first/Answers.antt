use Rattle.std.proofs.Common.{ap}
use Rattle.xcc_form.specs.Options.{Compiled}
use Rattle.solver.proofs.SolvingLemmas.{found_by}
use Rattle.solver.proofs.branches.run_first.Goals as goal

pub run_by-requires-clause-takes : goal.run_by-requires-clause-takes
run_by-requires-clause-takes g c = λ asked _. c.requires.takes asked

pub returns-in-Ok-clause-found : goal.returns-in-Ok-clause-found
returns-in-Ok-clause-found g c =
    let w = c.in-Ok in
    found_by c.args.search.now.engine.compiled.puzzle c.args.search.now c.run_by.new.self c.args.pairs.now _ w.outcome (ap (λ (x : Compiled). x.puzzle) w.ensures.compiled) w.ensures.outcome

pub returns-in-Ok-clause-moved : goal.returns-in-Ok-clause-moved
returns-in-Ok-clause-moved g c = c.in-Ok.ensures.moved
