use Rattle.std.proofs.Common.{◌≢◌, ◌≤◌, take}
use Rattle.cert_tree.specs.Assembly.{how_often, TellsLeast}
use Rattle.cert_tree.proofs.strangers.least_stranger.Given as goal

abbrev pub invariant-loop-piece : goal.invariant-loop-piece
invariant-loop-piece g l = TellsLeast (λ n. (l.count ≤ n) × (how_often g.N.Numbered.numbered (take l.piece-index l.pieces) n ≢ 0)) l.least
