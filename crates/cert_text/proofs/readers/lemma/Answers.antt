use Rattle.std.proofs.Common.{◌≡◌, Ok, List, length, arith, ap, subst}
use Rattle.match_puzzle.specs.declared.placements.Pair.{Pair}
use Rattle.cert_tree.specs.declared.heads.Head.{Head}
use Rattle.cert_tree.specs.Certificate.{Piece}
use Rattle.cert_tree.specs.Spans.{IsSpan}
use Rattle.cert_text.specs.CertificateText.{lemma_line}
use Rattle.cert_text.proofs.ReadingLemmas.{span_says}
use Rattle.cert_text.proofs.readers.lemma.Goals as goal

pub returns : goal.returns
unfolding lemma_line
returns c =
    let span = c.of_last.result in
    let pairs_from : c.len-pairs_start.result ≡ length c.args.pairs.now.items = omega (arith, c.len-pairs_start.ensures, c.args.pairs.now.ok.0) in
    let heads_from : c.len-heads_start.result ≡ length c.args.heads.now.items = omega (arith, c.len-heads_start.ensures, c.args.heads.now.ok.0) in
    let piece = span_says c.in_ok-number.number c.of_last.result c.deref.result.now c.prefix.new.pairs.items c.deref-2.result.now c.tree.new.heads.items c.len-pairs_start.result (length c.args.pairs.now.items) c.len-heads_start.result (length c.args.heads.now.items) c.deref.ensures.value c.deref-2.ensures.value pairs_from heads_from c.of_last.ensures.piece in
    record {
      reads = rw (c.in_ok-next_line.ensures.gives, c.in_ok-word.ensures.gives, c.in_ok-number.ensures.gives, c.in_ok-word-2.ensures.gives, c.in_ok-prefix.ensures.reads, c.in_ok-word-3.ensures.gives, c.in_ok-tree.ensures.reads, c.in_ok-end_of_line.ensures)
          (ap (λ (piece : Piece). Ok (piece, c.tree.new.scan)) piece);
      span = subst (λ (heads : List Head). IsSpan c.prefix.new.pairs.items heads span) c.deref-2.ensures.value
          (subst (λ (pairs : List Pair). IsSpan pairs c.deref-2.result.now span) c.deref.ensures.value c.of_last.ensures.span);
      pairs = c.in_ok-prefix.ensures.behind;
      heads = c.in_ok-tree.ensures.behind;
    }
