use Rattle.std.proofs.Common.{◌≡◌, ◌+◌, ◌++◌, ◌∷◌, [], List, map, reverse, take, ap, sym, subst, ◌∙◌, arith}
use Rattle.std.specs.Prelude.{Contains}
use Rattle.std.proofs.lemmas.List.{take_more, take_all, map-append}
use Rattle.cert_tree.specs.declared.flat_lemmas.FlatLemma.{FlatLemma}
use Rattle.cert_tree.specs.declared.flat_lemmas.LemmaSpan.{LemmaSpan}
use Rattle.cert_tree.specs.Certificate.{Piece, flat_piece}
use Rattle.cert_tree.specs.Spans.{piece_in}
use Rattle.piece_desk.specs.TurnedAssembly.{turned_piece}
use Rattle.cert_tree.proofs.SpanLemmas.{more_spans, more_pieces}
use Rattle.piece_desk.proofs.TurnedAssemblyLemmas.{contains_reversed, map_reversed}
use Rattle.piece_desk.proofs.turned_assemblies.turned_lemmas.Goals as goal

pub loop-lemma-preserved : goal.loop-lemma-preserved
loop-lemma-preserved c =
    let so_far = c.loop-lemma.invariant in
    let put = c.in_ok-span.ensures in
    let pushed = c.in_ok-push.ensures.items in
    let i = c.loop-lemma.lemma-index in
    let lemmas = c.args.lemmas.now in
    let lemma = c.lemma-item.result in
    let turn = turned_piece c.args.count c.args.first.now in
    let next : take (i + 1) lemmas ≡ take i lemmas ++ lemma ∷ [] =
    take_more lemmas i lemma c.loop-lemma-test.true ∙ ap (λ (l : FlatLemma). take i lemmas ++ l ∷ []) (sym c.lemma-item.is) in
    record {
      spans = more_spans c.loop-lemma.pairs.items c.put_turned.new.pairs.items c.loop-lemma.heads.items c.put_turned.new.heads.items put.pairs put.heads c.loop-lemma.spans.items c.push.new.self.items c.in_ok-span.span so_far.spans put.span pushed;
      lemmas = more_pieces c.loop-lemma.pairs.items c.put_turned.new.pairs.items c.loop-lemma.heads.items c.put_turned.new.heads.items put.pairs put.heads c.loop-lemma.spans.items c.push.new.self.items c.in_ok-span.span so_far.spans put.span pushed
          ∙ ap (λ (pieces : List Piece). pieces ++ piece_in c.put_turned.new.pairs.items c.put_turned.new.heads.items c.in_ok-span.span ∷ []) so_far.lemmas
          ∙ ap (λ (piece : Piece). map turn (map flat_piece (take i lemmas)) ++ piece ∷ []) put.lemma
          ∙ sym (ap (λ (ls : List FlatLemma). map turn (map flat_piece ls)) next ∙ ap (map turn) (map-append flat_piece (take i lemmas) (lemma ∷ [])) ∙ map-append turn (map flat_piece (take i lemmas)) (flat_piece lemma ∷ []));
    }

pub of-requires : goal.of-requires
of-requires c = λ span at. c.loop-lemma.invariant.spans span (contains_reversed c.loop-lemma.spans.items span (subst (λ (spans : List LemmaSpan). Contains spans span) c.reverse.ensures.items at))

pub returns : goal.returns
returns c =
    let piece = piece_in c.loop-lemma.pairs.items c.loop-lemma.heads.items in
    let turn = turned_piece c.args.count c.args.first.now in
    let all : take c.loop-lemma.lemma-index c.args.lemmas.now ≡ c.args.lemmas.now = take_all c.loop-lemma.lemma-index c.args.lemmas.now (omega (arith, c.loop-lemma-test.false)) in
    c.in_ok-turned.ensures ∙ ap (map piece) c.reverse.ensures.items ∙ map_reversed piece c.loop-lemma.spans.items
    ∙ ap reverse (c.loop-lemma.invariant.lemmas ∙ ap (λ (ls : List FlatLemma). map turn (map flat_piece ls)) all)
