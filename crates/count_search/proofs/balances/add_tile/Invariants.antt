use Rattle.match_puzzle.specs.Puzzle.{word_of}
use Rattle.count_search.specs.Balance.{word_gives}
use Rattle.count_search.proofs.BalanceStepLemmas.{Adds}
use Rattle.count_search.proofs.balances.add_tile.Given as goal

abbrev pub invariant-loop-side : goal.invariant-loop-side
invariant-loop-side l = Adds (λ s. s) (λ side colour. word_gives l.puzzle side colour (word_of l.puzzle l.tile)) l.side l.initial.sides l.sides
