use Rattle.std.proofs.Common.{◌≡◌, ◌+◌, ◌*◌}
use Rattle.puzzle_maker.proofs.likenesses.+walk.Given as goal

abbrev pub decreases-walk : goal.decreases-walk
decreases-walk g l = 2 * l.levels

abbrev pub decreases-walk_item : goal.decreases-walk_item
decreases-walk_item g l = 2 * l.levels + 1

abbrev pub invariant-walk_item-loop-number : goal.invariant-walk_item-loop-number
invariant-walk_item-loop-number g l = l.engine ≡ l.initial.engine
