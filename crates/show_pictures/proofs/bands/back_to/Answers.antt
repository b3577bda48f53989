use Rattle.std.proofs.Common.{arith}
use Rattle.std.proofs.lemmas.Int.{ints}
use Rattle.show_pictures.proofs.bands.back_to.Goals as goal

pub overflow_sub-result-2 : goal.overflow_sub-result-2
overflow_sub-result-2 c = omega (arith, ints)

pub overflow_sub-result-4 : goal.overflow_sub-result-4
overflow_sub-result-4 c = omega (arith, ints)
