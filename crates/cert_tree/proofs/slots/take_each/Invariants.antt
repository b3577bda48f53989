use Rattle.std.proofs.Common.{◌≡◌, Some, length, map, take, drop}
use Rattle.cert_tree.proofs.slots.take_each.Given as goal

abbrev pub invariant-loop-number : goal.invariant-loop-number
invariant-loop-number g l = record {
  long : length l.slots.items ≡ length l.fn.slots.items;
  left : drop l.number l.slots.items ≡ drop l.number l.fn.slots.items;
  taken : map Some l.pieces.items ≡ take l.number l.fn.slots.items;
}
