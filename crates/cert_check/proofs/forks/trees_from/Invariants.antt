use Rattle.std.proofs.Common.{◌≡◌}
use Rattle.cert_tree.specs.Heads.{past}
use Rattle.cert_check.proofs.forks.trees_from.Given as goal

-- So many trees were gone past.
abbrev pub invariant-loop : goal.invariant-loop
invariant-loop l = l.rest ≡ past l.counter l.trees
