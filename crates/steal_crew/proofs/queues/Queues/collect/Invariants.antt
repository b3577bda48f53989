use Rattle.std.proofs.Common.{◌≡◌, ◌+◌, ◌≤◌, All, Contains, IfOk, vec_len}
use Rattle.match_limits.specs.declared.TheConstants.{MOST_WORKERS}
use Rattle.steal_crew.specs.Queues.{IsOfShares, Places, AreDealt}
use Rattle.steal_crew.proofs.queues.Queues.collect.Given as goal

abbrev pub invariant-loop-share : goal.invariant-loop-share
invariant-loop-share g l = let was = l.initial.self in record {
  queues : AreDealt was.handles was.count (vec_len l.shares) l.self;
  shares : All (λ t. IfOk t (λ share. Places (vec_len was.handles) was.count was.handles.items share.places.items)) l.shares.items;
  left : All (Contains l.fn.shares.items) l.shares.items;
  few : vec_len l.shares ≤ MOST_WORKERS;
  brought : All (IsOfShares l.fn.shares.items) l.brought.items;
  len : vec_len l.brought + vec_len l.shares ≡ vec_len l.fn.shares;
}

abbrev pub decreases-loop-share : goal.decreases-loop-share
decreases-loop-share g l = vec_len l.shares
