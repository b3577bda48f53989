use Rattle.std.proofs.Common.{◌≡◌, ◌≢◌, ℕ, Bool, true, false, List, Ok}
use Rattle.std.specs.Prelude.{MatchBool}
use Rattle.match_puzzle.specs.declared.placements.Placement.{Placement}
use Rattle.match_limits.specs.declared.ranges.TheConstants.{SECOND}
use Rattle.match_text.specs.Lists.{list_of}
use Rattle.match_text.specs.ListSpelling.{IsListWithin}
use Rattle.match_text.proofs.ListLemmas.{list_spelled, list_unspelled}
use Rattle.match_text.proofs.list_spellings.list_within_limits.Goals as goal

by_limits : (rows : List (List Placement)) (b : Bool) → MatchBool b (IsListWithin SECOND rows) (IsListWithin SECOND rows → ⊥) → MatchBool b ((text : List ℕ) × (list_of text ≡ Ok rows)) ((text : List ℕ) → list_of text ≢ Ok rows)
by_limits rows true is = list_spelled rows is
by_limits rows false not = list_unspelled rows not

pub returns-clause-spelled : goal.returns-clause-spelled
returns-clause-spelled c = by_limits c.args.list.now c.is_list_within.result c.is_list_within.ensures
