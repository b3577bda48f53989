use Rattle.std.proofs.Common.{◌≡◌, ◌≤◌, ◌-◌}
use Rattle.piece_desk.specs.TurnedHeads.{turned_head}
use Rattle.piece_desk.proofs.TurnedAssemblyLemmas.{changed_from}
use Rattle.piece_desk.proofs.turned_assemblies.turn_heads.Given as goal

-- The heads from the start up to the place were turned.
abbrev pub invariant-loop-place : goal.invariant-loop-place
invariant-loop-place l = record {
  some : l.start ≤ l.place;
  turned : l.heads.items ≡ changed_from (turned_head l.count l.first) l.start (l.place - l.start) l.fn.heads.items;
}
