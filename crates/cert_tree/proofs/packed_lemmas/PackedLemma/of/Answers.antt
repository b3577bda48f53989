use Rattle.std.proofs.Common.{◌≡◌, List, ap, refl, ◌∙◌, arith}
use Rattle.match_limits.specs.declared.TheConstants.{MOST_CELLS, MOST_LEVELS}
use Rattle.match_puzzle.specs.declared.placements.Pair.{Pair}
use Rattle.cert_tree.specs.Tree.{Tree, tree_of}
use Rattle.cert_tree.specs.Heads.{heads_of}
use Rattle.cert_tree.specs.Certificate.{Piece}
use Rattle.cert_tree.proofs.HeadLemmas.{of_tree}
use Rattle.cert_tree.proofs.TreeLimitLemmas.{narrow_within}
use Rattle.cert_tree.proofs.packed_lemmas.PackedLemma.of.Goals as goal

pub put_node-requires : goal.put_node-requires
put_node-requires c = narrow_within MOST_CELLS (omega arith) MOST_LEVELS (tree_of c.args.lemma.now.tree) c.requires.tree

pub of-requires : goal.of-requires
of-requires c =
    let tree = tree_of c.args.lemma.now.tree in
    let heads : c.put_node.new.heads.items ≡ heads_of tree = rw (c.in_ok-put_node.ensures, c.new-heads.ensures.items) refl in
    (of_tree tree c.put_node.new.heads.items heads).0

pub returns : goal.returns
returns c =
    let lemma = c.args.lemma.now in
    let tree = tree_of lemma.tree in
    let heads : c.put_node.new.heads.items ≡ heads_of tree = rw (c.in_ok-put_node.ensures, c.new-heads.ensures.items) refl in
    c.new.ensures
    ∙ ap (λ (xs : List Pair). let p : Piece = record { number = lemma.number; prefix = xs; tree = c.of.result } in p) (c.in_ok-pairs.ensures.items ∙ c.as_slice.ensures)
    ∙ ap (λ (t : Tree). let p : Piece = record { number = lemma.number; prefix = lemma.prefix; tree = t } in p) (c.of.ensures ∙ (of_tree tree c.put_node.new.heads.items heads).1)
