use Rattle.std.proofs.Common.{◌≡◌, ◌<◌, ℕ, Some, slice_get}
use Rattle.match_puzzle.specs.PrefixFaults.{IsPairList}
use Rattle.cert_tree.specs.Certificate.{Piece}
use Rattle.cert_check.proofs.prefixes.prefixes_fault.Given as goal

-- Those before this one begin with prefixes.
abbrev pub invariant-loop-number : goal.invariant-loop-number
invariant-loop-number l = (earlier : ℕ) (lemma : Piece) → earlier < l.number → slice_get l.lemmas earlier ≡ Some lemma → IsPairList l.puzzle lemma.prefix
