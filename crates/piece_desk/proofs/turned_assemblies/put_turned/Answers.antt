use Rattle.std.proofs.Common.{◌≡◌, ℕ, ◌++◌, List, length, drop, get_or, ap, sym, subst, ◌∙◌, arith}
use Rattle.std.specs.Prelude.{All}
use Rattle.match_limits.specs.declared.TheConstants.{MOST_ARRANGEMENTS}
use Rattle.match_limits.specs.declared.TheConstants.{MOST_CELLS, MOST_LEVELS}
use Rattle.match_puzzle.specs.declared.placements.Pair.{Pair}
use Rattle.cert_tree.specs.declared.heads.Head.{Head}
use Rattle.cert_tree.specs.Tree.{Tree}
use Rattle.cert_tree.specs.Heads.{heads_of}
use Rattle.cert_tree.specs.Certificate.{Piece}
use Rattle.cert_tree.specs.Spans.{piece_in, IsSpan}
use Rattle.piece_desk.specs.TurnedAssembly.{turned_tree}
use Rattle.piece_desk.specs.TurnedHeads.{IsFoundUpTo}
use Rattle.piece_desk.proofs.TurnedAssemblyLemmas.{found_below, turned_behind}
use Rattle.cert_tree.proofs.SpanLemmas.{behind_is, is_behind, put_tree, put_piece}
use Rattle.piece_desk.proofs.turned_assemblies.put_turned.Goals as goal
use Rattle.piece_desk.proofs.turned_assemblies.put_turned.Goals.{After-deref-2}

-- the heads of the tree went behind the others
put_behind : (old new put : List Head) (tree : Tree) → new ≡ old ++ put → put ≡ heads_of tree → new ≡ old ++ heads_of tree
put_behind old new put tree more are = more ∙ ap (λ hs. old ++ hs) are

pub turn_heads-requires-clause-found : goal.turn_heads-requires-clause-found
turn_heads-requires-clause-found c =
    let tree = c.args.lemma.now.tree in
    let start : c.len-heads_start.result ≡ length c.args.heads.now.items = omega (arith, c.len-heads_start.ensures, c.args.heads.now.ok.0) in
    let put : drop c.len-heads_start.result c.extend_from_slice-2.new.self.items ≡ heads_of tree = ap (λ n. drop n c.extend_from_slice-2.new.self.items) start
    ∙ behind_is c.args.heads.now.items c.extend_from_slice-2.new.self.items (heads_of tree) (put_behind c.args.heads.now.items c.extend_from_slice-2.new.self.items c.heads.result.now tree c.in_ok-extend_from_slice-2.ensures.items c.heads.ensures) in
    subst (λ (hs : List Head). All (IsFoundUpTo MOST_ARRANGEMENTS) hs) (sym put) (found_below MOST_CELLS MOST_LEVELS tree c.requires.within.tree)

module _ (c : After-deref-2) where
  abbrev first : ℕ
  first = get_or c.args.first.now c.args.lemma.now.number 0

  start : c.len-heads_start.result ≡ length c.args.heads.now.items
  start = omega (arith, c.len-heads_start.ensures, c.args.heads.now.ok.0)

  more : c.deref-2.result.now ≡ c.args.heads.now.items ++ heads_of (turned_tree c.args.count first c.args.lemma.now.tree)
  more =
      c.deref-2.ensures.value
      ∙ turned_behind c.args.count first c.args.lemma.now.tree c.args.heads.now.items c.extend_from_slice-2.new.self.items c.turn_heads.new.heads.items c.len-heads_start.result start (put_behind c.args.heads.now.items c.extend_from_slice-2.new.self.items c.heads.result.now c.args.lemma.now.tree c.in_ok-extend_from_slice-2.ensures.items c.heads.ensures) c.turn_heads.ensures

pub of_last-requires-clause-tree : goal.of_last-requires-clause-tree
of_last-requires-clause-tree c =
    put_tree (turned_tree c.args.count (first c) c.args.lemma.now.tree) c.args.heads.now.items c.deref-2.result.now c.len-heads_start.result (start c) (more c)

pub returns-clause-lemma : goal.returns-clause-lemma
returns-clause-lemma c =
    let here = (goal.at.returns-clause-lemma c).After-deref-2 in
    let lemma = c.args.lemma.now in
    let pairs_start : c.len-pairs_start.result ≡ length c.args.pairs.now.items = omega (arith, c.len-pairs_start.ensures, c.args.pairs.now.ok.0) in
    let more_pairs = c.deref.ensures.value ∙ c.in_ok-extend_from_slice.ensures.items in
    let tree_turned = turned_tree c.args.count (first here) lemma.tree in
    ap (λ (pairs : List Pair). piece_in pairs c.turn_heads.new.heads.items c.of_last.result) (sym c.deref.ensures.value)
    ∙ ap (λ (heads : List Head). piece_in c.deref.result.now heads c.of_last.result) (sym c.deref-2.ensures.value)
    ∙ put_piece tree_turned c.args.heads.now.items c.deref-2.result.now c.len-heads_start.result (start here) (more here) c.turned_number-number.result lemma.prefix.now c.args.pairs.now.items c.deref.result.now c.len-pairs_start.result pairs_start more_pairs
    (piece_in c.deref.result.now c.deref-2.result.now c.of_last.result) c.of_last.ensures.piece
    ∙ ap (λ n. let p : Piece = record { number = n; prefix = lemma.prefix.now; tree = tree_turned } in p) c.turned_number-number.ensures

pub returns-clause-span : goal.returns-clause-span
returns-clause-span c =
    subst (λ (pairs : List Pair). IsSpan pairs c.turn_heads.new.heads.items c.of_last.result) c.deref.ensures.value
    (subst (λ (heads : List Head). IsSpan c.deref.result.now heads c.of_last.result) c.deref-2.ensures.value c.of_last.ensures.span)

pub returns-clause-pairs : goal.returns-clause-pairs
returns-clause-pairs c = is_behind c.args.pairs.now.items c.extend_from_slice.new.self.items c.args.lemma.now.prefix.now c.in_ok-extend_from_slice.ensures.items

pub returns-clause-heads : goal.returns-clause-heads
returns-clause-heads c =
    let here = (goal.at.returns-clause-heads c).After-deref-2 in
    is_behind c.args.heads.now.items c.turn_heads.new.heads.items (heads_of (turned_tree c.args.count (first here) c.args.lemma.now.tree)) (sym c.deref-2.ensures.value ∙ more here)
