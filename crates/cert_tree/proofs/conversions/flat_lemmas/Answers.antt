use Rattle.std.proofs.Common.{◌≡◌, ◌+◌, ◌++◌, ◌∷◌, [], List, map, take, ap, sym, subst, ◌∙◌, arith}
use Rattle.std.specs.Prelude.{IfOk}
use Rattle.std.proofs.lemmas.List.{take_more, take_all, map-append}
use Rattle.cert_tree.specs.declared.certificates.Lemma.{Lemma}
use Rattle.cert_tree.specs.Certificate.{Piece, piece_of}
use Rattle.cert_tree.specs.Spans.{piece_in}
use Rattle.cert_tree.proofs.SpanLemmas.{more_spans, more_pieces}
use Rattle.cert_tree.proofs.conversions.flat_lemmas.Goals as goal

pub loop-lemma-preserved : goal.loop-lemma-preserved
loop-lemma-preserved c =
    let so_far = c.loop-lemma.invariant in
    let put = c.in_ok-span.ensures in
    let pushed = c.in_ok-push.ensures.items in
    let i = c.loop-lemma.lemma-index in
    let lemma = c.lemma-item.result in
    let next : take (i + 1) c.args.lemmas.now ≡ take i c.args.lemmas.now ++ lemma ∷ [] =
    take_more c.args.lemmas.now i lemma c.loop-lemma-test.true ∙ ap (λ (l : Lemma). take i c.args.lemmas.now ++ l ∷ []) (sym c.lemma-item.is) in
    record {
      spans = more_spans c.loop-lemma.pairs.items c.put_flat.new.pairs.items c.loop-lemma.heads.items c.put_flat.new.heads.items put.pairs put.heads c.loop-lemma.spans.items c.push.new.self.items c.in_ok-span.span so_far.spans put.span pushed;
      lemmas = more_pieces c.loop-lemma.pairs.items c.put_flat.new.pairs.items c.loop-lemma.heads.items c.put_flat.new.heads.items put.pairs put.heads c.loop-lemma.spans.items c.push.new.self.items c.in_ok-span.span so_far.spans put.span pushed
          ∙ ap (λ (pieces : List Piece). pieces ++ piece_in c.put_flat.new.pairs.items c.put_flat.new.heads.items c.in_ok-span.span ∷ []) so_far.lemmas
          ∙ ap (λ (piece : Piece). map piece_of (take i c.args.lemmas.now) ++ piece ∷ []) put.lemma
          ∙ sym (ap (map piece_of) next ∙ map-append piece_of (take i c.args.lemmas.now) (lemma ∷ []));
    }

pub of-requires : goal.of-requires
of-requires c = c.loop-lemma.invariant.spans

pub returns : goal.returns
returns c =
    let all = take_all c.loop-lemma.lemma-index c.args.lemmas.now (omega (arith, c.loop-lemma-test.false)) in
    subst (λ (pieces : List Piece). IfOk c.of.result (λ flat. flat ≡ pieces)) (c.loop-lemma.invariant.lemmas ∙ ap (map piece_of) all) c.of.ensures
