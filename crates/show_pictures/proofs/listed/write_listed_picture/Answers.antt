use Rattle.std.proofs.Common.{◌<◌, ◌≤◌, ℕ, List, arith, drop, length, length-drop, max, subst}
use Rattle.std.proofs.lemmas.List.{length-take}
use Rattle.match_puzzle.specs.Arrangement.{AreArrangements}
use Rattle.match_puzzle.specs.declared.placements.Placement.{Placement}
use Rattle.show_pictures.specs.Plans.{to_be_drawn}
use Rattle.show_pictures.specs.Listed.{IsPictureOf}
use Rattle.show_pictures.proofs.listed.write_listed_picture.Goals as goal

-- where one is drawn, more are listed than its number says
more_listed : (number first : ℕ) (listed : List (List Placement)) → 1 ≤ length (to_be_drawn number first listed) → number < length listed
more_listed number first listed some =
    let taken = length-take (max first 1) (drop number listed) in
    let dropped = length-drop number listed in
    omega (arith, some, taken, dropped)

pub returns-clause-draws : goal.returns-clause-draws
returns-clause-draws c =
    let p = c.args.puzzle.now in
    let plan = c.args.plan.now in
    let made = c.in_ok-drawn.ensures in
    record {
      some = more_listed plan.number plan.first c.args.listed.now (subst (λ (drawn : List (List Placement)). 1 ≤ length drawn) made.drawn made.some);
      arrangements = subst (AreArrangements p) made.drawn made.arrangements;
      drawn = subst (λ (drawn : List (List Placement)). IsPictureOf plan.first p drawn c.in_ok-picture.picture.items) made.drawn c.in_ok-picture.ensures;
    }
