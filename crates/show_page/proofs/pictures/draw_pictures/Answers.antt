use Rattle.std.proofs.Common.{ℕ, List, take, sym, subst}
use Rattle.match_puzzle.specs.Arrangement.{AreArrangements}
use Rattle.match_puzzle.specs.Puzzle.{Task}
use Rattle.match_puzzle.specs.declared.placements.Placement.{Placement}
use Rattle.match_puzzle.proofs.PairLemmas.{taken_at}
use Rattle.show_page.proofs.pictures.draw_pictures.Goals as goal

taken_are : (p : Task) (listed : List (List Placement)) (count : ℕ) → AreArrangements p listed → AreArrangements p (take count listed)
taken_are p listed count are number a there = are number a (taken_at listed count number a there).1

pub sheet_of-requires-clause-arrangements : goal.sheet_of-requires-clause-arrangements
sheet_of-requires-clause-arrangements c =
    subst (AreArrangements c.args.puzzle.now) (sym c.first_of-drawn.ensures.drawn) (taken_are c.args.puzzle.now c.args.listed.now c.args.most c.requires)
