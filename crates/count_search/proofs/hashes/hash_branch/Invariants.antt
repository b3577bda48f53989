use Rattle.std.proofs.Common.{◌≡◌, length, take, fold}
use Rattle.count_search.specs.Hash.{hash_with}
use Rattle.count_search.proofs.hashes.hash_branch.Given as goal

abbrev pub invariant-loop-option : goal.invariant-loop-option
invariant-loop-option l = l.hash ≡ fold hash_with (hash_with (hash_with l.before l.branch.weight) (length l.branch.chosen)) (take l.option-index l.chosen)
