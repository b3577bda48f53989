use Rattle.std.proofs.Common.{◌≡◌, sym, subst, arith}
use Rattle.match_limits.specs.declared.TheConstants.{MOST_CELLS, MOST_LEVELS}
use Rattle.std.specs.Prelude.{IfOk}
use Rattle.cert_tree.specs.Tree.{tree_of}
use Rattle.cert_tree.specs.Certificate.{Piece, piece_of, flat_piece}
use Rattle.cert_tree.specs.Limits.{HasLevels}
use Rattle.cert_tree.proofs.TreeLimitLemmas.{levels_within, narrow_within}
use Rattle.cert_tree.proofs.SpanLemmas.{alone_at, alone_narrow}
use Rattle.cert_tree.proofs.certificates.Lemma.copy.Goals as goal

pub flat_lemmas-requires : goal.flat_lemmas-requires
flat_lemmas-requires c = alone_narrow c.from_ref.result.now c.args.self.now c.from_ref.ensures.value (narrow_within MOST_CELLS (omega arith) MOST_LEVELS (tree_of c.args.self.now.tree) c.requires.tree)

pub to_lemma-requires : goal.to_lemma-requires
to_lemma-requires c =
    let same = alone_at c.in_ok-flat.flat c.from_ref.result.now c.args.self.now (flat_piece c.at.result) c.in_ok-flat.ensures c.from_ref.ensures.value c.at.ensures in
    subst (λ (piece : Piece). HasLevels MOST_LEVELS piece.tree) (sym same) (levels_within MOST_CELLS MOST_LEVELS (tree_of c.args.self.now.tree) c.requires.tree)

pub returns : goal.returns
returns c =
    let same = alone_at c.in_ok-flat.flat c.from_ref.result.now c.args.self.now (flat_piece c.at.result) c.in_ok-flat.ensures c.from_ref.ensures.value c.at.ensures in
    subst (λ (piece : Piece). IfOk c.to_lemma.result (λ copy. piece_of copy ≡ piece)) same c.to_lemma.ensures
