use Rattle.std.proofs.Common.{◌≡◌, ◌++◌, ◌-◌, take, replicate, false}
use Rattle.match_limits.specs.declared.TheConstants.{MOST_PLACES}
use Rattle.match_board.proofs.shapes.kept.Given as goal

abbrev pub invariant-loop-place : goal.invariant-loop-place
invariant-loop-place l = l.kept ≡ take l.place l.mask ++ replicate (MOST_PLACES - l.place) false
