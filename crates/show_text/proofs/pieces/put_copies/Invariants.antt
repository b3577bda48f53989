use Rattle.std.proofs.Common.{◌≡◌, ◌++◌, replicate}
use Rattle.show_text.proofs.pieces.put_copies.Given as goal

abbrev pub invariant-loop-copy : goal.invariant-loop-copy
invariant-loop-copy l = l.line.items ≡ l.fn.line.items ++ replicate l._copy l.byte
