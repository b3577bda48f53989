use Rattle.std.proofs.Common.{◌≡◌, map, take}
use Rattle.cert_tree.specs.Certificate.{piece_of}
use Rattle.cert_tree.specs.Spans.{piece_in, AreSpans}
use Rattle.cert_tree.proofs.conversions.flat_lemmas.Given as goal

-- These lemmas were laid out.
abbrev pub invariant-loop-lemma : goal.invariant-loop-lemma
invariant-loop-lemma l = record {
  spans : AreSpans l.pairs.items l.heads.items l.spans.items;
  lemmas : map (piece_in l.pairs.items l.heads.items) l.spans.items ≡ map piece_of (take l.lemma-index l.lemmas);
}
