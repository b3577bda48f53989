use Rattle.std.proofs.Common.{◌≡◌, ◌<◌, ◌+◌, ◌*◌, ◌∙◌, [], length, slice_index_or, ap, arith, sym, subst}
use Rattle.std.proofs.lemmas.List.{get_or_default}
use Rattle.match_puzzle.specs.Puzzle.{Task, IsPuzzle}
use Rattle.match_puzzle.specs.PlacementSets.{AreShownColours}
use Rattle.match_puzzle.proofs.FittingLemmas.{small_turn}
use Rattle.match_puzzle.proofs.PlacementSetLemmas.{shows_colours}
use Rattle.match_puzzle.proofs.puzzles.Puzzle.shown.Goals as goal
use Rattle.match_puzzle.proofs.puzzles.Puzzle.shown.Goals.{After-from-2}

puzzle : (c : After-from-2) → IsPuzzle c.args.self.now
puzzle c = subst IsPuzzle c.self.view_is c.self.invariant.puzzle

table : (c : After-from-2) → AreShownColours c.args.self.now.words c.self.inside.tables.sets.shown.items
table c = subst (λ (p : Task). AreShownColours p.words c.self.inside.tables.sets.shown.items) c.self.view_is c.self.invariant.shown

place_in : (c : After-from-2) → 4 * c.from.result + c.from-2.result < length c.self.inside.tables.sets.shown.items
place_in c =
    let tile = c.from.ensures in
    let turn = c.from-2.ensures in
    let long = (table c).long in
    let tile_in = c.requires.tile in
    let small = small_turn c.args.self.now c.args.placement (puzzle c) c.requires in
    omega (arith, tile, turn, long, tile_in, small)

pub index-requires : goal.index-requires
index-requires c = let within = place_in c in let long = c.self.inside.tables.sets.shown.ok.0 in omega (arith, within, long)

pub returns : goal.returns
returns c =
    let there = (goal.at.returns c).After-from-2 in
    let x = c.args.placement in
    let items = c.self.inside.tables.sets.shown.items in
    let place = 4 * c.from.result + c.from-2.result in
    let tile = c.from.ensures in
    let turn = c.from-2.ensures in
    let at : place ≡ 4 * x.tile + x.turn = omega (arith, tile, turn) in
    shows_colours c.args.self.now (puzzle there) items (table there) x c.requires.tile (small_turn c.args.self.now x (puzzle there) c.requires) c.index.result.now
    (c.index.ensures ∙ sym (get_or_default items place [] c.index.result.now (place_in there)) ∙ ap (λ k. slice_index_or items k []) at)
