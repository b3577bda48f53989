use Rattle.std.proofs.Common.{◌≡◌, IfOk, ap, sym, subst, ◌∙◌}
use Rattle.match_puzzle.specs.Puzzle.{Task}
use Rattle.fit_counts.specs.Placing.{FitInTurn}
use Rattle.xcc_form.specs.Chosen.{Selection}
use Rattle.solver.specs.Solving.{IsFoundIn}
use Rattle.solver.proofs.branches.search_below.Goals as goal

pub returns-in_err-fit_in_turn-clause-moved : goal.returns-in_err-fit_in_turn-clause-moved
returns-in_err-fit_in_turn-clause-moved g c = g.met.C.Cites.stays c.args.cites.now

pub returns-then-not-branch-clause-moved : goal.returns-then-not-branch-clause-moved
returns-then-not-branch-clause-moved g c = g.met.C.Cites.stays c.args.cites.now

pub returns-in_err-search-clause-moved : goal.returns-in_err-search-clause-moved
returns-in_err-search-clause-moved g c = g.met.C.Cites.stays c.args.cites.now

pub run_first-requires-clause-first : goal.run_first-requires-clause-first
run_first-requires-clause-first g c = c.in_ok-search.ensures.ready.1

pub run_first-requires-clause-fit : goal.run_first-requires-clause-fit
run_first-requires-clause-fit g c =
    let compiled : c.in_ok-search.search.engine.compiled.puzzle ≡ c.args.xcc.now.puzzle = ap (λ (v : Selection). v.compiled.puzzle) c.in_ok-search.ensures.empty in
    subst (λ (p : Task). FitInTurn p c.args.pairs.now) (c.puzzle.ensures.value ∙ sym compiled) (c.in_ok-fit_in_turn.ensures c.if-not-branch.false)

pub run_first-requires-clause-takes : goal.run_first-requires-clause-takes
run_first-requires-clause-takes g c = c.requires.takes

pub returns-clause-found : goal.returns-clause-found
returns-clause-found g c =
    let compiled : c.in_ok-search.search.engine.compiled.puzzle ≡ c.args.xcc.now.puzzle = ap (λ (v : Selection). v.compiled.puzzle) c.in_ok-search.ensures.empty in
    subst (λ (p : Task). IfOk c.run_first.result (IsFoundIn p)) compiled c.run_first.ensures.found

pub returns-clause-moved : goal.returns-clause-moved
returns-clause-moved g c = c.run_first.ensures.moved
