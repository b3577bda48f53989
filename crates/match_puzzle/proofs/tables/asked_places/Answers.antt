use Rattle.std.proofs.Common.{◌≡◌, ◌<◌, ◌∷◌, [], ℕ, None, Some, get_or, slice_get, slice_index, arith}
use Rattle.std.proofs.lemmas.Option.{slice_get-get_or}
use Rattle.match_puzzle.specs.declared.tables.Side.{Side}
use Rattle.match_puzzle.specs.declared.tables.Side.TheVariants.{Border}
use Rattle.match_puzzle.specs.Tables.{place_asked}
use Rattle.match_puzzle.proofs.FittingLemmas.{each_of_four}
use Rattle.match_puzzle.proofs.tables.asked_places.Goals as goal

pub returns : goal.returns
returns c =
    let sides = c.args.sides.now in
    let long = c.told-sides in
    let at : (side : ℕ) → side < 4 → slice_get sides side ≡ Some (get_or sides side (Border None)) = λ side lt. slice_get-get_or sides side (Border None) (omega (arith, long, lt)) in
    let places = c.asked_place.result ∷ c.asked_place-2.result ∷ c.asked_place-3.result ∷ c.asked_place-4.result ∷ [] in
    each_of_four (λ side. (x : Side) × (slice_get sides side ≡ Some x) × (slice_index places side ≡ place_asked x))
    (get_or sides 0 (Border None), at 0 (omega arith), c.asked_place.ensures)
    (get_or sides 1 (Border None), at 1 (omega arith), c.asked_place-2.ensures)
    (get_or sides 2 (Border None), at 2 (omega arith), c.asked_place-3.ensures)
    (get_or sides 3 (Border None), at 3 (omega arith), c.asked_place-4.ensures)
