use Rattle.std.proofs.Common.{◌≡◌, ◌++◌, map, take}
use Rattle.cert_tree.specs.Spans.{moved_by}
use Rattle.cert_tree.proofs.flat_lemmas.put_moved.Given as goal

abbrev pub invariant-loop-span : goal.invariant-loop-span
invariant-loop-span l = l.spans.items ≡ l.fn.spans.items ++ map (moved_by l.blocks) (take l.span-index l.others)
