use Rattle.xcc_dance.proofs.SolutionLemmas.{is_solution}
use Rattle.xcc_dance.proofs.laws.whole_selections_are_solutions.Goals as goal

pub returns : goal.returns
returns c = λ x chosen is all. is_solution x chosen is all
