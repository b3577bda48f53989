use Rattle.std.proofs.Common.{subst}
use Rattle.match_puzzle.specs.Puzzle.{Task}
use Rattle.match_puzzle.specs.Fitting.{IsAsked}
use Rattle.match_puzzle.specs.PlacementSets.{AreShowing}
use Rattle.match_puzzle.proofs.FittingLemmas.{as_asked_by, tells_few}
use Rattle.match_puzzle.proofs.partials.Partial.as_asked.Goals as goal

pub showing-requires-clause-asked : goal.showing-requires-clause-asked
showing-requires-clause-asked c = tells_few (IsAsked c.args.self.now.puzzle c.args.self.now.placed c.args.cell c.args.side) c.asked.result c.asked.ensures.asked

pub returns : goal.returns
returns c =
    as_asked_by c.args.self.now.puzzle c.args.self.now.placed c.args.cell c.args.side c.asked.result c.showing.result.now c.requires.side c.asked.ensures.puzzle c.asked.ensures.asked
    (subst (λ (p : Task). AreShowing p.words c.asked.result c.args.side c.showing.result.now) c.puzzle.ensures.same c.showing.ensures)
