use Rattle.std.proofs.Common.{◌≡◌, ◌+◌, ◌*◌, ◌/◌, ◌%◌, ◌<◌, ◌∙◌, [], map, length, arith, sym, subst}
use Rattle.std.proofs.lemmas.List.{get_or_default}
use Rattle.match_board.specs.Tile.{word}
use Rattle.match_puzzle.specs.Puzzle.{Task}
use Rattle.match_puzzle.specs.PlacementSets.{AreShowing}
use Rattle.match_puzzle.proofs.puzzles.Puzzle.showing.Goals as goal

pub returns : goal.returns
returns c =
    let table = c.self.inside.tables.sets.showing.items in
    let showing = c.self.invariant.showing in
    let place = 4 * c.from.result + c.from-2.result in
    let four = c.from.ensures in
    let one = c.from-2.ensures in
    let long = showing.long in
    let within : place < length table = omega (arith, four, one, long, c.requires.asked, c.requires.side) in
    let asked : place / 4 ≡ c.args.asked = omega (arith, four, one, c.requires.side) in
    let side : place % 4 ≡ c.args.side = omega (arith, four, one, c.requires.side) in
    subst (λ (p : Task). AreShowing p.words c.args.asked c.args.side c.index.result.now) c.self.view_is
    (rw (← asked, ← side) (subst (AreShowing (map word c.self.inside.tiles.items) (place / 4) (place % 4)) (get_or_default table place [] c.index.result.now within ∙ sym c.index.ensures) (showing.is place within)))
