use Rattle.std.proofs.Common.{◌≡◌, ◌<◌, ℕ, Some, slice_get}
use Rattle.match_puzzle.specs.Prefix.{empty_prefix}
use Rattle.cert_tree.specs.Certificate.{Piece}
use Rattle.cert_check.specs.Setting.{setting_at}
use Rattle.cert_check.specs.NodeRules.{Holds}
use Rattle.cert_check.specs.Derivation.{start_of}
use Rattle.cert_check.proofs.prepared.Prepared.trees_fault.Given as goal

-- The trees before this one hold.
abbrev pub invariant-loop-number : goal.invariant-loop-number
invariant-loop-number g l = record {
  before : (number : ℕ) (lemma : Piece) → number < l.number → slice_get l.self.lemmas number ≡ Some lemma →
      Holds (setting_at l.self number) lemma.tree (start_of l.self.puzzle lemma);
  empty : l.partial ≡ record { puzzle = l.self.puzzle; placed = empty_prefix l.self.puzzle };
}
