-- What a clause says of a desk of lemmas that lie flat, and of its receipts.
use Rattle.boxcar.specs.Table.{Shows}
use Rattle.cert_tree.specs.Certificate.{Piece}
use Rattle.piece_desk.specs.declared.flat_desks.FlatDesk.{FlatDesk}
use Rattle.piece_desk.specs.declared.flat_desks.FlatReceipt.{FlatReceipt}

-- The receipt is of this desk.
abbrev pub IsOfFlat : FlatDesk → FlatReceipt → Type 0
IsOfFlat desk receipt = Shows desk.posted receipt

-- the lemma that it stands for
abbrev pub flat_posted : FlatReceipt → Piece
flat_posted receipt = receipt.value
