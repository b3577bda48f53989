-- What a search for some arrangements prints.
use Rattle.std.specs.Prelude.{◌≡◌, ℕ, List, Option, [], None, Some, Ok, All}
use Rattle.match_board.specs.declared.symmetry_lines.SymmetryLine.{SymmetryLine}
use Rattle.match_puzzle.specs.Puzzle.{Task}
use Rattle.match_puzzle.specs.declared.placements.Placement.{Placement}
use Rattle.match_symmetry.specs.Suggestions.{IsAskedFor}
use Rattle.match_symmetry.specs.declared.choices.Suggested.{Suggested}
use Rattle.match_text.specs.ListSpelling.{IsListText}
use Rattle.match_text.specs.Puzzles.{PuzzleReads}
use Rattle.puzzle_symmetry.specs.Symmetry.{IsSymmetry}
use Rattle.xcc_form.specs.Options.{HasTooManyEntries}
use Rattle.find_search.specs.Finding.{AreFirstFound, HasTooLargeOrbit}
use Rattle.solver.specs.declared.faults.SolveFault.TheVariants as solves
use Rattle.command_runs.specs.Describing.{DescribeFails}
use Rattle.command_runs.specs.declared.faults.RunFault.{RunFault}
use Rattle.command_runs.specs.declared.faults.RunFault.TheVariants as runs

-- Symmetries of the puzzle that are asked for, by which orbits are told apart; none where no orbits are asked for.
abbrev pub TellOrbitsApart : Task → (orbits : Option Suggested) → List SymmetryLine → Type 0
TellOrbitsApart p None lines = lines ≡ []
TellOrbitsApart p (Some asked) lines = All (λ g. IsSymmetry p g × IsAskedFor asked g) lines

-- The text is the list of arrangements that were found, at most `first`: different ones, or ones of different orbits.
-- Where there are fewer, there is no other, but for images under these symmetries.
pub record PrintsFound (first : ℕ) (orbits : Option Suggested) (p : Task) (text : List ℕ) : Type 0 where
  pub lines : List SymmetryLine
  pub apart : TellOrbitsApart p orbits lines
  pub listed : List (List Placement)
  pub found : AreFirstFound first p lines listed
  pub is : IsListText listed text

-- What is given of a text: it spells a puzzle, and this is printed of that.
abbrev pub FindGives : (first : ℕ) (orbits : Option Suggested) (text printed : List ℕ) (ends : Unit {0}) → Type 0
FindGives first orbits text printed ends =
    (p : Task) × PuzzleReads text (Ok p) × PrintsFound first orbits p printed

-- Why nothing is found: there are too many options; or too many arrangements are in one orbit; or memory was refused.
abbrev pub IsNotFound : (orbits : Option Suggested) → Task → RunFault → Type 0
IsNotFound orbits p (runs.Solve solves.TooMany) = HasTooManyEntries p
IsNotFound orbits p runs.Expand = (lines : List SymmetryLine) × TellOrbitsApart p orbits lines × HasTooLargeOrbit p lines
IsNotFound orbits p runs.Memory = Unit {0}
IsNotFound orbits p fault = ⊥

-- What a fault says of the text: it spells no puzzle, with this fault; or one of which nothing is found, for this reason;
-- or it is want of memory.
abbrev pub FindFails : (orbits : Option Suggested) (text : List ℕ) → RunFault → Type 0
FindFails orbits text (runs.Solve fault) =
    (p : Task) × PuzzleReads text (Ok p) × IsNotFound orbits p (runs.Solve fault)
FindFails orbits text runs.Expand = (p : Task) × PuzzleReads text (Ok p) × IsNotFound orbits p runs.Expand
FindFails orbits text fault = DescribeFails text fault
