use Rattle.std.proofs.Common.{◌≡◌, ◌⊎◌, [], get_or, refl, arith, sym, subst, inl}
use Rattle.match_limits.specs.declared.TheConstants.{MOST_COLOURS}
use Rattle.match_board.proofs.Places.{Meets-turned}
use Rattle.match_puzzle.specs.Puzzle.{Task, HasRule, colour_of, mate_of}
use Rattle.match_puzzle.specs.PlacementSets.{TellsOf, JoinsTo}
use Rattle.match_puzzle.proofs.Words.{few_sides}
use Rattle.match_puzzle.proofs.ArrangementLemmas.{side_in_range}
use Rattle.match_puzzle.proofs.FittingLemmas.{tells_both}
use Rattle.match_puzzle.proofs.AskingLemmas.{unclued_tells}
use Rattle.match_puzzle.proofs.puzzles.Puzzle.asked_beside.Goals as goal

pub returns-then-not-self : goal.returns-then-not-self
returns-then-not-self c = λ other met side meets.
    let p = c.args.self.now in
    let mate = mate_of p (colour_of p c.args.placement side) in
    let none : p.clues ≡ [] = subst (λ (q : Task). q.clues ≡ []) c.self.view_is (c.self.invariant.clued c.if-not-self.true) in
    let shows = c.asked_by-placed.ensures side (side_in_range (Meets-turned meets)) in
    let same = shows.0 in
    let few = shows.1 in
    subst (TellsOf (λ colour. HasRule p other met colour ⊎ (mate ≡ colour))) (sym same)
    (tells_both (HasRule p other met) MOST_COLOURS mate mate (unclued_tells p other met c.args.cell side none meets) (omega (arith, same, few)) (inl (inl refl, refl)))

pub returns : goal.returns
returns c = λ other met side meets.
    let p = c.args.self.now in
    let mate = mate_of p (colour_of p c.args.placement side) in
    let side_in = side_in_range (Meets-turned meets) in
    let shows = c.asked_by-placed.ensures side side_in in
    let same = shows.0 in
    let few = shows.1 in
    tells_both (HasRule p other met) (get_or c.asked_beside_empty.result side 0) mate (get_or c.both_asked.result side 0) (c.asked_beside_empty.ensures other met side meets) (omega (arith, same, few))
    (subst (λ n. JoinsTo (get_or c.asked_beside_empty.result side 0) n (get_or c.both_asked.result side 0)) same (c.both_asked.ensures side (omega (arith, side_in, few_sides p.board))))
