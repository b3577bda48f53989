use Rattle.std.proofs.Common.{◌≡◌, ◌++◌, drop}
use Rattle.show_text.specs.Triangles.{crossed}
use Rattle.show_text.proofs.triangles.put_crossed.Given as goal

-- the line so far, and what is left of it
abbrev pub invariant-loop-place : goal.invariant-loop-place
invariant-loop-place l = l.line.items ++ crossed l.level l.up (drop l.place-index l.places) ≡ l.fn.line.items ++ crossed l.level l.first_up l.places
