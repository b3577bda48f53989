use Rattle.std.proofs.Common.{◌≡◌, All, map, take}
use Rattle.cert_tree.specs.Certificate.{flat_piece}
use Rattle.match_limits.specs.declared.TheConstants.{MOST_CELLS}
use Rattle.cert_tree.specs.Limits.{IsLemmaWithin}
use Rattle.piece_desk.specs.FlatDesks.{flat_posted}
use Rattle.piece_desk.proofs.flat_desks.FlatDesk.lent.Given as goal

-- These receipts' lemmas were lent.
abbrev pub invariant-loop-receipt : goal.invariant-loop-receipt
invariant-loop-receipt l = record {
  pieces : map flat_piece l.lemmas.items ≡ map flat_posted (take l.receipt-index l.receipts);
  within : All (λ lemma. IsLemmaWithin MOST_CELLS (flat_piece lemma)) l.lemmas.items;
}
