use Rattle.std.proofs.Common.{ℕ, arith}
use Rattle.std.proofs.lemmas.List.{get_or-replicate}
use Rattle.count_search.specs.Balance.{place_of}
use Rattle.count_search.proofs.balances.tile_sides.Goals as goal

pub loop-tile-init : goal.loop-tile-init
loop-tile-init c = λ side colour lt few. get_or-replicate {A = ℕ} 144 (place_of side colour) 0 0 (omega (arith, lt, few))
