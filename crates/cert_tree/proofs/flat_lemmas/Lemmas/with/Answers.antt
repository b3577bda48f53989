use Rattle.std.proofs.Common.{◌≡◌, ◌∙◌, ◌+◌, ◌++◌, All, List, length, map, vec_len, ap, arith, subst, sym}
use Rattle.cert_tree.specs.declared.flat_lemmas.LemmaSpan.{LemmaSpan}
use Rattle.cert_tree.specs.Certificate.{Piece}
use Rattle.cert_tree.specs.Spans.{CanMove, moved_by, piece_at}
use Rattle.cert_tree.proofs.SpanLemmas.{can_move, with_pieces, with_placed}
use Rattle.cert_tree.proofs.flat_lemmas.Lemmas.with.Goals.{In_ok-put_moved}
use Rattle.cert_tree.proofs.flat_lemmas.Lemmas.with.Goals as goal

pub put_moved-requires : goal.put_moved-requires
put_moved-requires c =
    let blocks = c.apart-blocks.result.0 in
    let others = c.apart-other_blocks.result in
    let before : c.len-before.result ≡ vec_len blocks = c.len-before.ensures in
    let longer : vec_len c.append.new.self ≡ vec_len blocks + vec_len others.0 = c.in_ok-append.ensures.len in
    let more : vec_len others.0 ≡ length others.0.items = others.0.ok.0 in
    let few = c.append.new.self in
    subst (λ (spans : List LemmaSpan). All (CanMove c.len-before.result) spans) (sym c.deref.ensures.value)
    (can_move blocks.items others.0.items c.len-before.result others.1.items c.apart-other_blocks.ensures.spans (omega arith))

-- where the others lie, once all is moved
spans_are : (c : In_ok-put_moved) → c.put_moved.new.spans.items ≡ c.apart-blocks.result.1.items ++ map (moved_by c.len-before.result) c.apart-other_blocks.result.1.items
spans_are c = c.in_ok-put_moved.ensures ∙ ap (λ (xs : List LemmaSpan). c.apart-blocks.result.1.items ++ map (moved_by c.len-before.result) xs) c.deref.ensures.value

pub of_blocks-requires : goal.of_blocks-requires
of_blocks-requires c =
    let lemmas = c.apart-blocks.result in
    let others = c.apart-other_blocks.result in
    with_placed lemmas.0.items others.0.items c.append.new.self.items c.len-before.result lemmas.1.items others.1.items c.put_moved.new.spans.items
    (c.len-before.ensures ∙ lemmas.0.ok.0) c.in_ok-append.ensures.items (spans_are c) c.apart-blocks.ensures.spans c.apart-other_blocks.ensures.spans

pub returns : goal.returns
returns c =
    let lemmas = c.apart-blocks.result in
    let others = c.apart-other_blocks.result in
    let pieces = with_pieces lemmas.0.items others.0.items c.append.new.self.items c.len-before.result lemmas.1.items others.1.items c.put_moved.new.spans.items
    (c.len-before.ensures ∙ lemmas.0.ok.0) c.in_ok-append.ensures.items (spans_are (goal.at.returns c).In_ok-put_moved) c.apart-blocks.ensures.spans c.apart-other_blocks.ensures.spans in
    c.of_blocks.ensures ∙ pieces ∙ ap (λ (ps : List Piece). ps ++ map (piece_at others.0.items) others.1.items) (sym c.apart-blocks.ensures.lemmas)
    ∙ ap (λ (ps : List Piece). c.args.self ++ ps) (sym c.apart-other_blocks.ensures.lemmas)
