use Rattle.std.proofs.Common.{List, ℕ, Err, Ok, ap, arith, length, rules, subst, sym, ◌≡◌, ◌∙◌, ◌≤◌}
use Rattle.std.specs.Prelude.{Vec}
use Rattle.std.specs.declared.alloc.Global.{Global}
use Rattle.std.proofs.lemmas.List.{length-map}
use Rattle.std.proofs.lemmas.Result.{err_from_is_err_and}
use Rattle.match_limits.specs.declared.TheConstants.{MOST_WORKERS}
use Rattle.match_puzzle.specs.declared.placements.Placement.{Placement}
use Rattle.match_puzzle.specs.Arrangement.{AreArrangements}
use Rattle.match_text.specs.Lists.{list_of}
use Rattle.puzzle_symmetry.specs.Complete.{IsCompleteList}
use Rattle.byte_streams.specs.Documents.{three}
use Rattle.command_runs.specs.Solving.{AreProducts}
use Rattle.command_runs.proofs.SolvingLemmas.{read_back, solve_fails}
use Rattle.command_runs.proofs.solve_runs.solved.Goals as goal

pub returns-in_err-listed : goal.returns-in_err-listed
returns-in_err-listed g c =
    let w = err_from_is_err_and c.from_residual.result c.from_residual.ensures.1 in
    rw (w.1, w.2) (λ text read. solve_fails text c.args.puzzle.now read c.in_err-listed.field-0.0 (λ e. c.in_err-listed.ensures.too_many (ap Err e)) c.args.search.now.plan.search.workers c.args.search.now.plan.check)

pub returns-in_err-shares : goal.returns-in_err-shares
returns-in_err-shares g c =
    let w = err_from_is_err_and c.from_residual-in_err-shares.result c.from_residual-in_err-shares.ensures.1 in
    rw (w.1, w.2) (λ text read. (tt, tt))

pub check_if_asked-requires-clause-found : goal.check_if_asked-requires-clause-found
check_if_asked-requires-clause-found g c κs within =
    let solved = c.in_ok-listed.ensures.solved in
    let tally = c.in_ok-listed.field-0.tally.items in
    let taken = c.deref-2.ensures.value ∙ c.in_ok-shares.ensures in
    let many : length c.deref-2.result.now ≡ c.args.search.now.plan.search.workers = ap length taken ∙ length-map tally (λ (t : Vec ℕ Global). t.items) ∙ solved.workers in
    let most : c.args.search.now.plan.search.workers ≤ MOST_WORKERS = search rules in
    record {
      arrangements = subst (AreArrangements c.args.puzzle.now) (sym c.deref.ensures.value) solved.arrangements;
      list = search rules;
      certificate = search rules;
      few = omega (arith, many, most);
    }

pub products_of-requires-clause-found : goal.products_of-requires-clause-found
products_of-requires-clause-found g c κs within =
    let solved = c.in_ok-listed.ensures.solved in
    let tally = c.in_ok-listed.field-0.tally.items in
    let taken = c.deref-2.ensures.value ∙ c.in_ok-shares.ensures in
    let many : length c.deref-2.result.now ≡ c.args.search.now.plan.search.workers = ap length taken ∙ length-map tally (λ (t : Vec ℕ Global). t.items) ∙ solved.workers in
    let most : c.args.search.now.plan.search.workers ≤ MOST_WORKERS = search rules in
    record {
      arrangements = subst (AreArrangements c.args.puzzle.now) (sym c.deref.ensures.value) solved.arrangements;
      list = search rules;
      certificate = search rules;
      few = omega (arith, many, most);
    }

pub returns-in_err-products : goal.returns-in_err-products
returns-in_err-products g c =
    let w = err_from_is_err_and c.from_residual-in_err-products.result c.from_residual-in_err-products.ensures.1 in
    rw (w.1, w.2) (λ text read. (tt, tt))

pub returns : goal.returns
returns g c text read =
    let p = c.args.puzzle.now in
    let solved = c.in_ok-listed.field-0 in
    let made = c.in_ok-products.products in
    let check = c.args.search.now.plan.check in
    let value = c.deref.ensures.value in
    let listed = subst (λ (l : List (List Placement)). AreProducts p l solved.certificate c.deref-2.result.now check made) value c.in_ok-products.ensures.made in
    record {
      puzzle = p;
      puzzle_read = read;
      listed = solved.list.items;
      tally = solved.tally.items;
      contents = solved.certificate;
      solved = c.in_ok-listed.ensures.solved;
      asked_for = c.in_ok-listed.ensures.asked_for;
      products = subst (λ (s : List (List ℕ)). AreProducts p solved.list.items solved.certificate s check made) (c.deref-2.ensures.value ∙ c.in_ok-shares.ensures) listed;
      complete = λ is.
          read_back (three text made.list made.certificate) p solved.list.items solved.certificate read
          (subst (λ (l : List (List Placement)). list_of made.list ≡ Ok l) value c.in_ok-products.ensures.list_reads) c.in_ok-products.ensures.certificate_reads
          (subst (IsCompleteList p solved.certificate.symmetries) value (c.in_ok-check_if_asked.ensures.complete is));
    }
