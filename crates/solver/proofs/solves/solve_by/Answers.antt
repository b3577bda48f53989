use Rattle.std.proofs.Common.{◌≡◌, ◌∙◌, ℕ, ap, sym, subst, length, vec_len, Vec, Global}
use Rattle.match_puzzle.specs.Arrangement.{AreArrangements}
use Rattle.match_puzzle.specs.Puzzle.{Task}
use Rattle.solver.specs.Solving.{IsTally}
use Rattle.solver.specs.declared.searches.Searched.{Searched}
use Rattle.solver.proofs.solves.solve_by.Goals as goal

pub returns-clause-solved : goal.returns-clause-solved
returns-clause-solved g c =
    let crew = c.in_ok-search_all.field-0 in
    let searched = c.in_ok-search_all.ensures in
    let results : c.into_parts-results.result.0 ≡ crew.results = ap (λ (p : Vec Searched Global × Vec (Vec ℕ Global) Global). p.0) c.into_parts-results.ensures in
    let tally : c.into_parts-results.result.1 ≡ crew.tallies = ap (λ (p : Vec Searched Global × Vec (Vec ℕ Global) Global). p.1) c.into_parts-results.ensures in
    let contents = c.in_ok-list.certificate in
    let put = c.in_ok-list.ensures in
    let count : length contents.lemmas ≡ length crew.results.items = put.many ∙ ap vec_len results ∙ crew.results.ok.0 in
    record {
      arrangements = subst (λ (p : Task). AreArrangements p c.in_ok-list.list.items) c.puzzle.ensures.value put.arrangements;
      list = put.list;
      certificate = put.certificate;
      workers = ap (λ (t : Vec (Vec ℕ Global) Global). length t.items) tally ∙ searched.workers;
      taken = subst (λ (t : Vec (Vec ℕ Global) Global). IsTally (length contents.lemmas) t.items) (sym tally) (subst (λ k. IsTally k crew.tallies.items) (sym count) searched.taken);
    }
