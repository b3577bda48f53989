-- The bytes of a text that was made.
use Rattle.std.specs.Prelude.{ℕ, List}
use Rattle.std.specs.List.{flat_map}
use Rattle.byte_streams.specs.declared.texts.Pieces.{Pieces}
use Rattle.byte_streams.specs.declared.texts.Pieces.TheVariants.{Several, Whole}

-- those of a whole text, or of its parts, one behind the other
abbrev pub bytes_of_pieces : Pieces → List ℕ
bytes_of_pieces (Whole bytes) = bytes.items
bytes_of_pieces (Several parts) = flat_map (λ part. part.items) parts.items
