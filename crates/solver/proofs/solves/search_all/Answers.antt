use Rattle.std.proofs.Common.{◌∙◌, ap, sym, arith}
use Rattle.crew_machine.specs.Counts.{once_below}
use Rattle.solver.proofs.solves.search_all.Goals as goal

pub returns : goal.returns
returns g c =
    let crew = c.in_ok-crew.crew in
    let of_crew = c.in_ok-crew.ensures in
    record {
      outcomes = λ n d lt. (of_crew.results.each n d lt).1;
      few = omega (arith, of_crew.limit, crew.results.ok.0);
      workers = sym crew.tallies.ok.0 ∙ of_crew.workers;
      taken = λ x. of_crew.once x ∙ ap (once_below x) crew.results.ok.0;
    }
