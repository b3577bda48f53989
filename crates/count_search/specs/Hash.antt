-- A hash of branches.
use Rattle.std.specs.Prelude.{◌*◌, ◌%◌, ◌^◌, ℕ, List, bit_xor, fold, length}
use Rattle.count_search.specs.Branches.{WeightedBranch}

-- the hash of Fowler, Noll and Vo (FNV-1a, of 64 bits), which takes a number where that takes a byte: one number more
abbrev pub hash_with : (hash number : ℕ) → ℕ
hash_with hash number = bit_xor hash number * 1099511628211 % 2 ^ 64

-- what it begins with
abbrev pub first_hash : ℕ
first_hash = 14695981039346656037

-- a branch as numbers: how often it counts, how many options it has chosen, and these
abbrev pub hash_branch : (hash : ℕ) → WeightedBranch → ℕ
hash_branch hash b = fold hash_with (hash_with (hash_with hash b.weight) (length b.chosen)) b.chosen

-- the hash of branches, one after the other
abbrev pub hash_of : List WeightedBranch → ℕ
hash_of branches = fold hash_branch first_hash branches
