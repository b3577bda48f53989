use Rattle.std.proofs.Common.{◌≡◌, List, Some, slice_get, subst}
use Rattle.cert_tree.specs.Certificate.{Piece, flat_piece}
use Rattle.cert_check.proofs.forks.forked_tree_fault.Goals as goal

-- the lemma begins with a prefix of the puzzle
pub lemma_fault-requires-after_bounds : goal.lemma_fault-requires-after_bounds
lemma_fault-requires-after_bounds g c κs within =
    let lemma = flat_piece c.at-lemma.result in
    rw c.new-setting.ensures
    (c.requires.prefixes c.args.lemma lemma (subst (λ (ls : List Piece). slice_get ls c.args.lemma ≡ Some lemma) c.lemmas.ensures.lemmas c.at-lemma.ensures))
