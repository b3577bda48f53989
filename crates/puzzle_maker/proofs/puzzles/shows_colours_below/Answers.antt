use Rattle.std.proofs.Common.{Contains, ⊎_elim, subst, arith}
use Rattle.std.proofs.lemmas.Bool.Decides.{eqb_tells}
use Rattle.match_puzzle.specs.Puzzle.{word_of}
use Rattle.puzzle_maker.proofs.puzzles.shows_colours_below.Goals as goal

pub loop-tile-preserved : goal.loop-tile-preserved
loop-tile-preserved c = λ tile colour lt on.
    ⊎_elim
    (λ w. let bound = c.colours_on.ensures colour (subst (λ n. Contains (word_of c.args.puzzle.now n) colour) w.1 on) in omega (arith, bound, c.if-colours_on-colours.false))
    (λ ne. let apart = ne.1 in c.loop-tile.invariant tile colour (omega (arith, lt)) on)
    (eqb_tells tile c.loop-tile.tile)

pub returns : goal.returns
returns c = λ _ tile colour lt on. c.loop-tile.invariant tile colour (omega (arith, lt)) on
