use Rattle.std.proofs.Common.{below_more}
use Rattle.puzzle_maker.specs.Made.{AskForShownAt}
use Rattle.puzzle_maker.proofs.trials.ask_for_all_shown_at.Goals as goal

pub loop-side-preserved : goal.loop-side-preserved
loop-side-preserved c =
    below_more (AskForShownAt c.args.puzzle.now c.args.planted.now c.args.cell) c.loop-side.side c.loop-side.invariant (c.ask_for_shown.ensures c.if-not-ask_for_shown.false)
