use Rattle.std.proofs.Common.{◌≡◌, List, Some, slice_get, sym, subst}
use Rattle.match_puzzle.specs.PrefixFaults.{IsPairList}
use Rattle.cert_tree.specs.Certificate.{Piece, flat_piece}
use Rattle.cert_check.specs.Setting.{Setting}
use Rattle.cert_check.proofs.checks.tree_fault.Goals as goal

-- the lemma begins with a prefix of the puzzle
pub lemma_fault-requires-clause-prefix : goal.lemma_fault-requires-clause-prefix
lemma_fault-requires-clause-prefix c =
    let lemma = flat_piece c.at-lemma.result in
    let at = subst (λ (ls : List Piece). slice_get ls c.args.lemma ≡ Some lemma) c.lemmas.ensures.lemmas c.at-lemma.ensures in
    subst (λ (s : Setting). IsPairList s.puzzle lemma.prefix) (sym c.new-setting.ensures) (c.requires.prefixes c.args.lemma lemma at)
