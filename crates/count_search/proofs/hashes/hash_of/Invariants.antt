use Rattle.std.proofs.Common.{◌≡◌, take, fold}
use Rattle.count_search.specs.Hash.{first_hash, hash_branch}
use Rattle.count_search.proofs.hashes.hash_of.Given as goal

abbrev pub invariant-loop-branch : goal.invariant-loop-branch
invariant-loop-branch l = l.hash ≡ fold hash_branch first_hash (take l.branch-index l.branches)
