use Rattle.std.proofs.Common.{◌≡◌, ◌<◌, ◌∙◌, Some, length, slice_get, arith, ap, sym, subst}
use Rattle.std.proofs.lemmas.Option.{slice_get-get_or}
use Rattle.match_puzzle.specs.Puzzle.{Task}
use Rattle.match_puzzle.specs.Tables.{AreSides}
use Rattle.match_puzzle.proofs.TableLemmas.{side_asked_at}
use Rattle.match_puzzle.proofs.puzzles.Puzzle.asked_at.Goals as goal

pub returns : goal.returns
returns c =
    let p = c.args.self.now in
    let items = c.self.inside.tables.sides.items in
    let sides = c.index.result.now in
    let table : AreSides p items = subst (λ (q : Task). AreSides q items) c.self.view_is c.self.invariant.sides in
    let at = c.from.ensures in
    let long = table.long in
    let within : c.from.result < length items = omega (arith, at, long, c.requires.cell) in
    let stands : slice_get items c.from.result ≡ Some sides = slice_get-get_or items c.from.result sides within ∙ ap Some (sym c.index.ensures) in
    rw c.from-2.ensures (side_asked_at p items table c.args.cell c.args.side sides (subst (λ k. slice_get items k ≡ Some sides) at stands) c.requires.side)
