use Rattle.std.proofs.Common.{◌<◌, ℕ}
use Rattle.puzzle_maker.specs.Made.{AskForShownAt}
use Rattle.puzzle_maker.proofs.trials.ask_for_all_shown_at.Given as goal

abbrev pub invariant-loop-side : goal.invariant-loop-side
invariant-loop-side l = (side : ℕ) → side < l.side → AskForShownAt l.puzzle l.planted l.cell side
