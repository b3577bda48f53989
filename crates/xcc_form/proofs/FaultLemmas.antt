-- An arrangement has no fault.
use Rattle.std.proofs.Common.{◌≡◌, true, false, List, Option, Some, None, MatchOption, sym}
use Rattle.std.specs.Option.{is_some}
use Rattle.std.proofs.lemmas.Bool.{false≢true}
use Rattle.match_puzzle.specs.Puzzle.{Task}
use Rattle.match_puzzle.specs.Arrangement.{IsArrangement}
use Rattle.match_puzzle.specs.ArrangementFaults.{ArrangementFails, IsArrangementFault}
use Rattle.match_puzzle.specs.declared.faults.ArrangementFault.{ArrangementFault}
use Rattle.match_puzzle.specs.declared.faults.ArrangementFault.TheVariants.{Length, TileRange, Turn, TileTwice, BorderBroken, EdgeBroken}
use Rattle.match_puzzle.specs.declared.placements.Placement.{Placement}
use Rattle.match_puzzle.proofs.ArrangementLemmas.{no_range, no_turn, no_twice, no_border, no_edge}

fails_not : (p : Task) (a : List Placement) (f : ArrangementFault) → IsArrangement p a → ArrangementFails p a f → ⊥
fails_not p a Length is fails = fails is.cells
fails_not p a (TileRange cell) is fails = no_range p a (λ c x s. (is.legal c x s).tile) cell fails
fails_not p a (Turn cell) is fails = no_turn p a is.legal cell fails
fails_not p a (TileTwice cell) is fails = no_twice p a is.once cell fails
fails_not p a (BorderBroken cell side) is fails = no_border p a is.border cell side fails
fails_not p a (EdgeBroken cell side) is fails = no_edge p a is.edges cell side fails

pub no_fault : (p : Task) (a : List Placement) (f : ArrangementFault) → IsArrangementFault p a f → IsArrangement p a → ⊥
no_fault p a f is whole = let fails = is.occurs in fails_not p a f whole fails

-- a fault was found, or none
pub is_refused : (p : Task) (a : List Placement) (o : Option ArrangementFault) → MatchOption o (IsArrangement p a) (IsArrangementFault p a) → is_some o ≡ true → IsArrangement p a → ⊥
is_refused p a None told some whole = absurd (false≢true some)
is_refused p a (Some f) told some whole = no_fault p a f told whole

pub is_whole : (p : Task) (a : List Placement) (o : Option ArrangementFault) → MatchOption o (IsArrangement p a) (IsArrangementFault p a) → is_some o ≡ false → IsArrangement p a
is_whole p a None told none = told
is_whole p a (Some f) told none = absurd (false≢true (sym none))
