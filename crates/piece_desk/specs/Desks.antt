-- What a clause says of a desk and its receipts.
use Rattle.std.specs.Prelude.{ℕ, ◌-◌}
use Rattle.boxcar.specs.Table.{Shows}
use Rattle.cert_tree.specs.declared.certificates.Lemma.{Lemma}
use Rattle.cert_tree.specs.Certificate.{Piece, piece_of}
use Rattle.piece_desk.specs.declared.desks.Desk.{Desk}
use Rattle.piece_desk.specs.declared.desks.Receipt.{Receipt}
use Rattle.piece_desk.specs.declared.desks.Shown.{Shown}

-- The receipt is of this desk.
abbrev pub IsOf : Desk → Receipt → Type 0
IsOf desk receipt = Shows desk.posted receipt

-- the lemma that it stands for
abbrev pub lemma_of : Receipt → Lemma
lemma_of receipt = receipt.value

-- the lemma that a receipt stands for, as plain data
abbrev pub posted_piece : Receipt → Piece
posted_piece receipt = piece_of (lemma_of receipt)

-- how many places of a desk a walk has still to look at
abbrev pub places_left : Shown → ℕ
places_left shown = shown.rest.end - shown.rest.index
