use Rattle.std.proofs.Common.{◌≡◌, ◌++◌, List, length, ap, sym, subst, arith, ◌∙◌}
use Rattle.match_puzzle.specs.declared.placements.Pair.{Pair}
use Rattle.cert_tree.specs.declared.heads.Head.{Head}
use Rattle.cert_tree.specs.Tree.{tree_of}
use Rattle.cert_tree.specs.Heads.{heads_of}
use Rattle.cert_tree.specs.Spans.{piece_in, IsSpan}
use Rattle.cert_tree.proofs.SpanLemmas.{is_behind, put_tree, put_piece}
use Rattle.cert_tree.proofs.conversions.put_flat.Goals as goal
use Rattle.cert_tree.proofs.conversions.put_flat.Goals.{After-deref-2}

module _ (c : After-deref-2) where
  start : c.len-heads_start.result ≡ length c.args.heads.now.items
  start = omega (arith, c.len-heads_start.ensures, c.args.heads.now.ok.0)

  more : c.deref-2.result.now ≡ c.args.heads.now.items ++ heads_of (tree_of c.args.lemma.now.tree)
  more = c.deref-2.ensures.value ∙ c.in_ok-put_node.ensures

pub of_last-requires-clause-tree : goal.of_last-requires-clause-tree
of_last-requires-clause-tree c = put_tree (tree_of c.args.lemma.now.tree) c.args.heads.now.items c.deref-2.result.now c.len-heads_start.result (start c) (more c)

pub returns-clause-lemma : goal.returns-clause-lemma
returns-clause-lemma c =
    let here = (goal.at.returns-clause-lemma c).After-deref-2 in
    let lemma = c.args.lemma.now in
    let pairs_start : c.len-pairs_start.result ≡ length c.args.pairs.now.items = omega (arith, c.len-pairs_start.ensures, c.args.pairs.now.ok.0) in
    let more_pairs = c.deref.ensures.value ∙ c.in_ok-extend_from_slice.ensures.items ∙ ap (λ (xs : List Pair). c.args.pairs.now.items ++ xs) c.as_slice.ensures in
    ap (λ (pairs : List Pair). piece_in pairs c.put_node.new.heads.items c.of_last.result) (sym c.deref.ensures.value)
    ∙ ap (λ (heads : List Head). piece_in c.deref.result.now heads c.of_last.result) (sym c.deref-2.ensures.value)
    ∙ put_piece (tree_of lemma.tree) c.args.heads.now.items c.deref-2.result.now c.len-heads_start.result (start here) (more here) lemma.number lemma.prefix c.args.pairs.now.items c.deref.result.now c.len-pairs_start.result pairs_start more_pairs
    (piece_in c.deref.result.now c.deref-2.result.now c.of_last.result) c.of_last.ensures.piece

pub returns-clause-span : goal.returns-clause-span
returns-clause-span c =
    subst (λ (pairs : List Pair). IsSpan pairs c.put_node.new.heads.items c.of_last.result) c.deref.ensures.value
    (subst (λ (heads : List Head). IsSpan c.deref.result.now heads c.of_last.result) c.deref-2.ensures.value c.of_last.ensures.span)

pub returns-clause-pairs : goal.returns-clause-pairs
returns-clause-pairs c = is_behind c.args.pairs.now.items c.extend_from_slice.new.self.items c.as_slice.result.now c.in_ok-extend_from_slice.ensures.items

pub returns-clause-heads : goal.returns-clause-heads
returns-clause-heads c = is_behind c.args.heads.now.items c.put_node.new.heads.items (heads_of (tree_of c.args.lemma.now.tree)) c.in_ok-put_node.ensures
