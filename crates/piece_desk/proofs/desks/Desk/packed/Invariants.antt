use Rattle.std.proofs.Common.{◌≡◌, All, map, take}
use Rattle.match_limits.specs.declared.TheConstants.{MOST_CELLS}
use Rattle.cert_tree.specs.Limits.{IsLemmaWithin}
use Rattle.piece_desk.specs.Desks.{posted_piece}
use Rattle.piece_desk.proofs.desks.Desk.packed.Given as goal

-- These receipts' lemmas were laid out.
abbrev pub invariant-loop-receipt : goal.invariant-loop-receipt
invariant-loop-receipt l = record {
  pieces : l.lemmas.items ≡ map posted_piece (take l.receipt-index l.receipts);
  within : All (IsLemmaWithin MOST_CELLS) l.lemmas.items;
}
