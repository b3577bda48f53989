use Rattle.std.proofs.Common.{◌≡◌, ◌==◌, ◌<◌, ℕ, List, [], count_by, length, sum_by, arith}
use Rattle.std.proofs.lemmas.List.{take_all}
use Rattle.std.proofs.lemmas.List.Sums.{sum_by_more}
use Rattle.puzzle_maker.proofs.frames.sides_with.Goals as goal

pub loop-tile-preserved : goal.loop-tile-preserved
loop-tile-preserved c =
    let words = c.args.model.now.words in
    let on = λ (word : List ℕ). count_by (λ shown. shown == c.args.colour) word in
    let within : c.loop-tile.tile < length words = omega arith in
    let more = sum_by_more on words c.loop-tile.tile [] within in
    record { sum = omega (arith, more, c.sides_on.ensures.count, c.loop-tile.invariant.sum); few = omega arith }
