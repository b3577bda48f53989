use Rattle.std.proofs.Common.{◌≡◌, ◌≤◌, ◌+◌, ◌-◌, ◌*◌}
use Rattle.cert_tree.specs.Tree.{count}
use Rattle.cert_tree.specs.Heads.{front, past}
use Rattle.cert_tree.specs.Limits.{AreTreesWithin}
use Rattle.cert_tree.proofs.within_limits.+flat_limits.Given as goal

abbrev pub decreases-is_first_within : goal.decreases-is_first_within
decreases-is_first_within l = 2 * l.room

abbrev pub decreases-are_first_within : goal.decreases-are_first_within
decreases-are_first_within l = 2 * l.room + 1

abbrev pub invariant-are_first_within-loop : goal.invariant-are_first_within-loop
invariant-are_first_within-loop l = record {
  back : AreTreesWithin l.cells l.room (front (l.children - l.counter) l.trees) → AreTreesWithin l.cells l.room (front l.children l.initial.trees);
  on : AreTreesWithin l.cells l.room (front l.children l.initial.trees) → AreTreesWithin l.cells l.room (front (l.children - l.counter) l.trees);
  past : past (l.children - l.counter) l.trees ≡ past l.children l.initial.trees;
  counted : l.children - l.counter ≤ count l.trees;
}
