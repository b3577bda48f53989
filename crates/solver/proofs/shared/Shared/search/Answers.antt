use Rattle.solver.proofs.shared.Shared.search.Goals as goal

pub search_below-requires-clause-takes : goal.search_below-requires-clause-takes
search_below-requires-clause-takes g c = c.requires

pub returns-clause-found : goal.returns-clause-found
returns-clause-found g c = c.search_below.ensures.found

pub returns-clause-moved : goal.returns-clause-moved
returns-clause-moved g c = c.search_below.ensures.moved
