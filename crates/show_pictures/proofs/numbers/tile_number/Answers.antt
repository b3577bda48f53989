use Rattle.std.proofs.Common.{IfOk, subst}
use Rattle.std.specs.String.{string_bytes}
use Rattle.show_pictures.specs.Elements.{SaysNumber}
use Rattle.show_pictures.proofs.numbers.tile_number.Goals as goal

pub returns : goal.returns
returns c = subst (λ n. IfOk c.number.result (λ label. SaysNumber n (string_bytes label))) c.from.ensures c.number.ensures
