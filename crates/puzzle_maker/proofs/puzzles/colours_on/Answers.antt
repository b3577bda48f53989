use Rattle.std.proofs.Common.{Contains, subst, sym}
use Rattle.match_puzzle.proofs.Words.{inside_words}
use Rattle.puzzle_maker.proofs.puzzles.colours_on.Goals as goal

pub returns : goal.returns
returns c = λ colour on.
    let same = inside_words c.args.puzzle.now.words c.tiles.result.now c.args.tile c.index-tiles-from.result c.tiles.ensures c.requires (rw c.from.ensures at c.index-tiles-from.is) in
    c.colour_count.ensures.above colour (subst (λ w. Contains w colour) (sym same) on)
