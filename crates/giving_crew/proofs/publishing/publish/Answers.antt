use Rattle.std.proofs.Common.{◌∙◌, ℕ, Global, Vec, ap, subst, sym, vec_len}
use Rattle.crew_machine.specs.Counts.{total, times}
use Rattle.steal_crew.specs.Tickets.{source_drawn}
use Rattle.giving_crew.specs.LiveWorkers.{AreByNumber}
use Rattle.giving_crew.proofs.publishing.publish.Goals as goal

pub results_of-requires-after_bounds : goal.results_of-requires-after_bounds
results_of-requires-after_bounds g c κs within = c.requires

pub returns : goal.returns
returns g c = λ work rest. let crew = c.with_drawn.ensures in let tallies = c.in_ok-tallies.ensures in record {
  drawn_is = crew.drawn;
  results = subst (AreByNumber (g.W.LiveWork.gives work (source_drawn c.args.drawn)) c.args.first
      c.args.count) (sym crew.results) (c.in_ok-results.ensures work (source_drawn c.args.drawn) rest);
  workers = ap (λ (v : Vec (Vec ℕ Global) Global). vec_len v) crew.tallies ∙ tallies.0;
  once = λ x. ap (λ (v : Vec (Vec ℕ Global) Global). total (λ t. times x t.items) v.items) crew.tallies
      ∙ tallies.1 x ∙ sym (c.requires x);
}
