use Rattle.std.proofs.Common.{ℕ, List, MatchOption, Option, None, Some}
use Rattle.match_puzzle.specs.Arrangement.{AreArrangements}
use Rattle.match_puzzle.specs.ArrangementFaults.{IsFirstWrong}
use Rattle.match_puzzle.specs.Puzzle.{Task}
use Rattle.match_puzzle.specs.declared.faults.ArrangementFault.{ArrangementFault}
use Rattle.match_puzzle.specs.declared.placements.Placement.{Placement}
use Rattle.cert_check.specs.Walk.{TellsOfArrangements}
use Rattle.cert_check.proofs.list_faults.list_fault.Goals as goal

-- what is wrong with the list is the first that is wrong
told : (p : Task) (listed : List (List Placement)) (said : Option (ℕ × ArrangementFault)) → MatchOption said (AreArrangements p listed) (λ found. IsFirstWrong p listed found.0 found.1) → TellsOfArrangements p listed said
told p listed None are = are
told p listed (Some found) wrong = record { occurs = wrong.wrong; before = wrong.before }

pub returns : goal.returns
returns c = told c.args.puzzle.now c.args.listed.now c.first_wrong.result c.first_wrong.ensures
