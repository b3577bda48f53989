use Rattle.std.proofs.Common.{arith, refl, sym, subst}
use Rattle.std.proofs.lemmas.Option.{slice_get_read, slice_get_within}
use Rattle.match_limits.proofs.ListLemmas.{each_more, mapped_at}
use Rattle.match_puzzle.specs.Puzzle.{Task}
use Rattle.puzzle_symmetry.specs.Motion.{Motion, line_of}
use Rattle.puzzle_symmetry.specs.Symmetry.{IsSymmetry}
use Rattle.find_search.proofs.crews.see_symmetries.Goals as goal

pub loop-symmetry-preserved : goal.loop-symmetry-preserved
loop-symmetry-preserved c =
    let motions = c.args.symmetries.now in
    let n = c.loop-symmetry.symmetry-index in
    let m = c.symmetry-item.result in
    let at = slice_get_read motions _ n m refl c.loop-symmetry-test.true c.symmetry-item.is in
    λ k o lt here. each_more (λ (m : Motion). IsSymmetry m.puzzle m.line) motions n m (λ i x below. c.loop-symmetry.invariant i x below) at c.puzzle-puzzle.ensures.symmetry.1 k o lt here

pub returns : goal.returns
returns c = λ p of number line at.
    let m = mapped_at line_of c.args.symmetries.now number line at in
    let within = slice_get_within c.args.symmetries.now number m.0 m.1 in
    let is = c.loop-symmetry.invariant number m.0 (omega (arith, within, c.loop-symmetry-test.false)) m.1 in
    subst (IsSymmetry p) (sym m.2) (subst (λ (q : Task). IsSymmetry q m.0.line) (of number m.0 m.1) is)
