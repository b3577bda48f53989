use Rattle.std.proofs.Common.{◌≡◌, ◌++◌, List, length}
use Rattle.cert_tree.specs.Slots.{IsEntered}
use Rattle.cert_tree.proofs.slots.fill.Given as goal

-- the pieces that were put into their places are the last ones
abbrev pub invariant-loop-piece : goal.invariant-loop-piece
invariant-loop-piece g l =
    (before : List g.row.N.Denot) × (l.fn.pieces.items ≡ l.pieces.items ++ before) × (length l.slots.items ≡ length l.fn.slots.items) × IsEntered g.N.Numbered.numbered before l.slots.items l.double

abbrev pub decreases-loop-piece : goal.decreases-loop-piece
decreases-loop-piece g l = goal.left-loop-piece g l
