use Rattle.std.proofs.Common.{◌≡◌, ◌<◌, ◌∙◌, length, get_or, arith}
use Rattle.match_board.specs.Tile.{word}
use Rattle.match_board.proofs.TurnsLemmas.{shown-none}
use Rattle.puzzle_maker.proofs.FrameLemmas.{none_more_on, one_more_on}
use Rattle.puzzle_maker.proofs.frames.sides_of.Goals as goal
use Rattle.puzzle_maker.proofs.frames.sides_of.Goals.{then-shows-colour, else-shows-colour}

pub loop-side-preserved : goal.loop-side-preserved
loop-side-preserved c =
    let sides = word c.args.tile.now in
    let side = c.loop-side.side in
    let within : side < length sides = omega arith in
    let read : c.shows.result ≡ get_or sides side 0 = c.shows.ensures.colour ∙ shown-none sides side within in
    elim c.if-shows-colour.branch [
      | then-shows-colour b ↦
          let more = one_more_on sides side c.args.colour c.shows.result within read b.if-shows-colour.true in
          record { count = omega (arith, more, b.count-is, c.loop-side.invariant.count); few = omega (arith, b.count-is) }
      | else-shows-colour b ↦
          let same = none_more_on sides side c.args.colour c.shows.result within read b.if-shows-colour.false in
          record { count = omega (arith, same, b.count-is, c.loop-side.invariant.count); few = omega (arith, b.count-is) }
    ]
