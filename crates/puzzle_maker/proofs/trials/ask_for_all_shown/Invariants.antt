use Rattle.std.proofs.Common.{◌≡◌, ◌<◌, ℕ, Some, slice_get}
use Rattle.match_board.specs.Clues.{Clue}
use Rattle.puzzle_maker.specs.Made.{AskForAllShownAt}
use Rattle.puzzle_maker.proofs.trials.ask_for_all_shown.Given as goal

abbrev pub invariant-loop-clue : goal.invariant-loop-clue
invariant-loop-clue l = (number : ℕ) (c : Clue) → number < l.clue-index → slice_get l.puzzle.clues number ≡ Some c → AskForAllShownAt l.puzzle l.planted c.cell
