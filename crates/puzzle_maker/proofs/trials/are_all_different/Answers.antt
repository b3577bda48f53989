use Rattle.std.proofs.Common.{⊎_elim, subst, arith}
use Rattle.std.proofs.lemmas.Bool.Decides.{eqb_tells}
use Rattle.match_puzzle.specs.EqualTiles.{AreEqualTiles}
use Rattle.puzzle_maker.proofs.trials.are_all_different.Goals as goal

pub loop-tile-preserved : goal.loop-tile-preserved
loop-tile-preserved c = λ tile other before below equal.
    ⊎_elim
    (λ w. c.equals_an_earlier.ensures c.if-equals_an_earlier.false tile (omega (arith, before, w.1)) (subst (λ (n : _). AreEqualTiles c.args.puzzle.now tile n) w.1 equal))
    (λ ne. let apart = ne.1 in c.loop-tile.invariant tile other before (omega (arith, below)) equal)
    (eqb_tells other c.loop-tile.tile)
