use Rattle.xcc_dance.proofs.OpenFittingLemmas.{open_where_settling, open_where_listed, open_in_order, fitting_in_order, as_many_as_fitting}
use Rattle.xcc_dance.proofs.laws.open_options_are_listed.Goals as goal

pub returns-clause-settling : goal.returns-clause-settling
returns-clause-settling c = λ x chosen pairs is of. open_where_settling x is.compiled chosen pairs of is.partial

pub returns-clause-listed : goal.returns-clause-listed
returns-clause-listed c = λ x chosen pairs is of. open_where_listed x is.compiled chosen pairs of is.partial

pub returns-clause-in_order : goal.returns-clause-in_order
returns-clause-in_order c = λ x chosen pairs is of. open_in_order x is.compiled chosen pairs of is.partial

pub returns-clause-all_fitting : goal.returns-clause-all_fitting
returns-clause-all_fitting c = λ x chosen pairs is of. fitting_in_order x is.compiled chosen pairs of is.partial

pub returns-clause-sizes : goal.returns-clause-sizes
returns-clause-sizes c = λ x chosen pairs is of. as_many_as_fitting x is.compiled chosen pairs of is.partial
