use Rattle.std.proofs.Common.{◌≡◌, ◌-◌, ◌++◌}
use Rattle.show_text.specs.Triangles.{roofs}
use Rattle.show_text.proofs.triangles.put_roofs.Given as goal

-- the line so far, and what is left of it
abbrev pub invariant-loop-roof : goal.invariant-loop-roof
invariant-loop-roof l = l.line.items ++ roofs (l.size - l._roof) ≡ l.fn.line.items ++ roofs l.size
