use Rattle.std.proofs.Common.{◌≡◌, ◌==◌, ◌∙◌, count_by, ap}
use Rattle.match_puzzle.proofs.Words.{inside_words}
use Rattle.puzzle_maker.proofs.frames.sides_on.Goals as goal

pub returns-clause-count : goal.returns-clause-count
returns-clause-count c =
    let same = inside_words c.args.model.now.words c.tiles.result.now c.args.tile c.index-tiles-from.result c.tiles.ensures c.requires (rw c.from.ensures at c.index-tiles-from.is) in
    c.sides_of.ensures.count ∙ ap (count_by (λ shown. shown == c.args.colour)) same
