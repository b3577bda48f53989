-- What the board at a node says of the list. Nothing is said of the tree.
use Rattle.std.specs.Prelude.{◌≡◌, ◌++◌, ◌∷◌, ◌⊎◌, ℕ, List, [], Some, Contains, codes, map}
use Rattle.match_limits.specs.declared.TheConstants.{MOST_ARRANGEMENTS}
use Rattle.match_puzzle.specs.Arrangement.{IsArrangement}
use Rattle.match_puzzle.specs.ArrangementFaults.{IsArrangementFault}
use Rattle.match_puzzle.specs.declared.faults.ArrangementFault.{ArrangementFault}
use Rattle.match_puzzle.specs.Prefix.{Prefix}
use Rattle.match_puzzle.specs.declared.placements.Placement.{Placement}
use Rattle.match_puzzle.specs.Numbers.{AreMoreThan}
use Rattle.puzzle_symmetry.specs.Complete.{IsCompleteList}
use Rattle.puzzle_symmetry.specs.Reached.{IsReached}
use Rattle.puzzle_symmetry.specs.declared.faults.SymmetryFault.{SymmetryFault}
use Rattle.symmetry_orbits.specs.Orbits.{IsInOrbit}
use Rattle.cert_check.specs.Answer.{Occurs}
use Rattle.cert_check.specs.Setting.{Question}
use Rattle.cert_check.specs.declared.faults.Fault.TheVariants as faults
use Rattle.show_refusals.specs.declared.findings.Finding.{Finding}
use Rattle.show_refusals.specs.declared.findings.Finding.TheVariants.{Nothing, Missing, Image, TooMany}

-- The list and the symmetries have no fault.
pub record AreFaultless (question : Question) : Type 0 where
  pub listed : (number : ℕ) (fault : ArrangementFault) → Occurs question (faults.List number fault) → ⊥
  pub symmetries : (number : ℕ) (fault : SymmetryFault) → Occurs question (faults.Symmetry number fault) → ⊥

-- What is placed is an arrangement of the puzzle, and it isn't listed.
pub record IsUnlisted (question : Question) (placed : Prefix) (a : List Placement) : Type 0 where
  pub stands : placed ≡ map Some a
  pub arrangement : IsArrangement question.puzzle a
  pub unlisted : Contains question.listed a → ⊥

-- What the board says of the list: nothing, where it isn't full, has a fault or is listed; else that its arrangement is
-- missing, so neither listed nor an image of a listed one; or that it is such an image; or that its orbit is too large.
abbrev pub IsFinding : Question → Prefix → Finding → Type 0
IsFinding question placed Nothing =
    (a : List Placement) → placed ≡ map Some a
    → Contains question.listed a ⊎ ((fault : ArrangementFault) × IsArrangementFault question.puzzle a fault)
IsFinding question placed Missing =
    (a : List Placement) × IsUnlisted question placed a
    × (IsReached question.puzzle question.symmetries question.listed a → ⊥)
IsFinding question placed Image =
    (a : List Placement) × IsUnlisted question placed a
    × IsReached question.puzzle question.symmetries question.listed a
IsFinding question placed TooMany =
    (a : List Placement) × IsUnlisted question placed a
    × AreMoreThan MOST_ARRANGEMENTS (IsInOrbit question.puzzle question.symmetries a)

-- Where an arrangement is missing, the list isn't complete.
abbrev pub MissingLaw : Type 0
MissingLaw =
    (question : Question) (placed : Prefix) → IsFinding question placed Missing
    → IsCompleteList question.puzzle question.symmetries question.listed → ⊥

-- what a certificate that is refused leaves open
abbrev pub closing_text : List ℕ
closing_text = codes "This does not say that the list is incomplete." ++ 10 ∷ []

-- how an explanation ends, where the board says this
abbrev pub closing_of : Finding → List ℕ
closing_of Nothing = closing_text
closing_of Missing =
    codes "The board is an arrangement of the puzzle. It is not listed, nor is it an image of a listed one: the list is incomplete."
    ++ 10 ∷ []
closing_of Image =
    codes "The board is an arrangement of the puzzle. It is not listed, but it is an image of a listed one."
    ++ 10 ∷ closing_text
closing_of TooMany =
    codes "The board is an arrangement of the puzzle. It is not listed, and it has too many images to look for a listed one."
    ++ 10 ∷ closing_text
