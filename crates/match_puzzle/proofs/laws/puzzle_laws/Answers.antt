use Rattle.match_puzzle.proofs.Pigeonhole.{all_placed}
use Rattle.match_puzzle.proofs.TogetherLemmas.{together_turned, together_alike}
use Rattle.match_puzzle.proofs.PuzzleAlike.{same_arrangements, same_fits, second_is_puzzle}
use Rattle.match_puzzle.proofs.laws.puzzle_laws.Goals as goal

pub returns-clause-placed : goal.returns-clause-placed
returns-clause-placed c = all_placed

pub returns-clause-turned : goal.returns-clause-turned
returns-clause-turned c = λ p colour other puzzle together. together_turned p puzzle colour other together

pub returns-clause-alike : goal.returns-clause-alike
returns-clause-alike c = λ p colour other none. together_alike p none colour other

pub returns-clause-puzzle : goal.returns-clause-puzzle
returns-clause-puzzle c = second_is_puzzle

pub returns-clause-arrangements : goal.returns-clause-arrangements
returns-clause-arrangements c = same_arrangements

pub returns-clause-fits : goal.returns-clause-fits
returns-clause-fits c = same_fits
