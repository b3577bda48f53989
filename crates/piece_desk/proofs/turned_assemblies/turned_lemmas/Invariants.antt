use Rattle.std.proofs.Common.{◌≡◌, map, take}
use Rattle.cert_tree.specs.Certificate.{flat_piece}
use Rattle.cert_tree.specs.Spans.{piece_in, AreSpans}
use Rattle.piece_desk.specs.TurnedAssembly.{turned_piece}
use Rattle.piece_desk.proofs.turned_assemblies.turned_lemmas.Given as goal

-- These lemmas were turned.
abbrev pub invariant-loop-lemma : goal.invariant-loop-lemma
invariant-loop-lemma l = record {
  spans : AreSpans l.pairs.items l.heads.items l.spans.items;
  lemmas : map (piece_in l.pairs.items l.heads.items) l.spans.items ≡ map (turned_piece l.count l.first) (map flat_piece (take l.lemma-index l.lemmas));
}
