-- What a search for some arrangements comes to.
use Rattle.std.proofs.Common.{◌≡◌, ◌≤◌, ℕ, List, Ok, Option, arith, refl}
use Rattle.match_board.specs.declared.symmetry_lines.SymmetryLine.{SymmetryLine}
use Rattle.match_limits.proofs.ListLemmas.{place_of}
use Rattle.match_limits.specs.declared.TheConstants.{MOST_ARRANGEMENTS}
use Rattle.match_limits.specs.declared.ranges.TheConstants.{SECOND}
use Rattle.match_puzzle.specs.Puzzle.{IsPuzzle, Task}
use Rattle.match_puzzle.specs.declared.placements.Placement.{Placement}
use Rattle.match_report.proofs.CompleteLemmas.{arrangements_within}
use Rattle.match_symmetry.specs.declared.choices.Suggested.{Suggested}
use Rattle.match_text.specs.ListSpelling.{IsListWithin}
use Rattle.match_text.specs.Puzzles.{PuzzleReads}
use Rattle.xcc_form.specs.Options.{HasTooManyEntries}
use Rattle.xcc_form.specs.declared.faults.CompileFault.{CompileFault}
use Rattle.xcc_form.specs.declared.faults.CompileFault.TheVariants as compiles
use Rattle.find_search.specs.Finding.{AreFirstFound}
use Rattle.command_runs.specs.FaultText.{run_of_compile}
use Rattle.command_runs.specs.Finding.{FindFails, IsNotFound}
use Rattle.command_runs.specs.Runs.{IsOfTexts}
use Rattle.command_runs.specs.declared.faults.RunFault.{RunFault}
use Rattle.command_runs.specs.declared.faults.RunFault.TheVariants as runs

-- why nothing is found of the puzzle that a text spells is what a fault says of the text
pub not_found : (orbits : Option Suggested) (text : List ℕ) (p : Task) → PuzzleReads text (Ok p) → (fault : RunFault) → IsNotFound orbits p fault → FindFails orbits text fault × IsOfTexts fault
not_found orbits text p reads (runs.Solve fault) is = ((p, reads, is), tt)
not_found orbits text p reads runs.Expand is = ((p, reads, is), tt)
not_found orbits text p reads runs.Memory is = (tt, tt)
not_found orbits text p reads _ is = absurd is

-- nothing is found of a puzzle that can't be compiled
pub not_compiled : (orbits : Option Suggested) (p : Task) (fault : CompileFault) → (fault ≡ compiles.TooMany → HasTooManyEntries p) → IsNotFound orbits p (run_of_compile fault)
not_compiled orbits p compiles.TooMany many = many refl
not_compiled orbits p compiles.Memory many = tt

-- what is found has a spelling
pub found_within : (most : ℕ) (p : Task) (lines : List SymmetryLine) (listed : List (List Placement)) → IsPuzzle p → most ≤ MOST_ARRANGEMENTS → AreFirstFound most p lines listed → IsListWithin SECOND listed
found_within most p lines listed puzzle few found =
    let within = found.few in
    arrangements_within p listed puzzle (λ a there. let w = place_of listed a there in found.arrangements w.0 a w.1) (omega (arith, within, few))
