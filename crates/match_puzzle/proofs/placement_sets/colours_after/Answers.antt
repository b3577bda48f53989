use Rattle.std.proofs.Common.{◌≡◌, ◌<◌, ◌∙◌, ℕ, length-set, set, get_or, below_more, arith, sym, subst}
use Rattle.std.proofs.lemmas.List.{get_or-set_same, get_or-set_other}
use Rattle.match_limits.specs.declared.TheConstants.{MOST_COLOURS}
use Rattle.match_board.specs.Tile.{word}
use Rattle.match_board.specs.Turns.{shown}
use Rattle.match_puzzle.proofs.placement_sets.colours_after.Goals as goal
use Rattle.match_puzzle.proofs.placement_sets.colours_after.Goals.{After-shows}

abbrev IsShown : After-shows → (side colour : ℕ) → Type 0
IsShown c side colour = (colour ≡ shown (word c.args.tile.now) c.args.turn side) × (colour < MOST_COLOURS)

pub loop-side-preserved : goal.loop-side-preserved
loop-side-preserved c =
    let colours = c.loop-side.colours in
    let side = c.loop-side.side in
    let colour = c.shows.result in
    let there = (goal.at.loop-side-preserved c).After-shows in
    let few = c.sides-side-end.ensures.three_or_four in
    let long = c.loop-side.invariant.long in
    let lt = c.loop-side-test.true in
    rw c.from.ensures (record {
      long = length-set colours side colour ∙ long;
      done = below_more (λ k. IsShown there k (get_or (set colours side colour) k 0)) side
          (λ k less. subst (IsShown there k) (sym (get_or-set_other colours side k colour 0 (λ e. omega (arith, e, less)))) (c.loop-side.invariant.done k less))
          (subst (IsShown there side) (sym (get_or-set_same colours side colour 0 (omega (arith, long, lt, few.1)))) (c.shows.ensures.colour, c.shows.ensures.below));
    })
