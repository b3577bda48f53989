use Rattle.std.proofs.Common.{◌≡◌, take}
use Rattle.std.specs.List.{fold}
use Rattle.cert_check.specs.Repeats.{with_placement}
use Rattle.cert_check.proofs.repeats.key.Given as goal

abbrev pub invariant-loop-placement : goal.invariant-loop-placement
invariant-loop-placement l = l.key ≡ fold with_placement 0 (take l.placement-index l.arrangement)
