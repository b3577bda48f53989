use Rattle.std.specs.String.{string_bytes}
use Rattle.show_pictures.proofs.numbers.number.Goals as goal

pub returns : goal.returns
returns c = record { before = string_bytes c.in_ok-begin.begin; said = c.in_ok-label.ensures.ok }
