use Rattle.std.proofs.Common.{◌<◌, ℕ}
use Rattle.match_board.specs.Turns.{IsPeriod}
use Rattle.match_puzzle.specs.Puzzle.{word_of}
use Rattle.puzzle_maker.proofs.trials.is_none_its_own_turn.Given as goal

abbrev pub invariant-loop-tile : goal.invariant-loop-tile
invariant-loop-tile l = (tile : ℕ) → tile < l.tile → IsPeriod (word_of l.puzzle tile) l.sides
