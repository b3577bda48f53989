use Rattle.std.proofs.Common.{◌≡◌, All, map, take}
use Rattle.match_limits.specs.declared.TheConstants.{MOST_CELLS}
use Rattle.cert_tree.specs.Certificate.{flat_piece}
use Rattle.cert_tree.specs.Limits.{IsLemmaWithin}
use Rattle.piece_desk.proofs.desks.lend_all.Given as goal

-- These lemmas were lent.
abbrev pub invariant-loop-lemma : goal.invariant-loop-lemma
invariant-loop-lemma l = record {
  pieces : map flat_piece l.lemmas.items ≡ take l.lemma-index l.packed;
  within : All (λ lemma. IsLemmaWithin MOST_CELLS (flat_piece lemma)) l.lemmas.items;
}
