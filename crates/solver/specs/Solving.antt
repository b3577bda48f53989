-- What a solve of a puzzle comes to.
use Rattle.std.specs.Prelude.{◌≡◌, ◌≤◌, ℕ, List, All, Vec, length}
use Rattle.std.specs.declared.alloc.Global.{Global}
use Rattle.match_limits.specs.declared.TheConstants.{MOST_ARRANGEMENTS, MOST_CELLS, MOST_LEMMAS, MOST_LEVELS}
use Rattle.match_puzzle.specs.Puzzle.{Task}
use Rattle.match_puzzle.specs.declared.placements.Placement.{Placement}
use Rattle.match_text.specs.ListSpelling.{IsListWithin}
use Rattle.match_limits.specs.declared.ranges.TheConstants.{SECOND}
use Rattle.cert_tree.specs.Certificate.{Contents}
use Rattle.cert_tree.specs.Tree.{Tree}
use Rattle.cert_tree.specs.Limits.{IsTreeWithin}
use Rattle.cert_text.specs.CertificateSpelling.{IsCertificateWithin}
use Rattle.cert_text.specs.Writing.{said_by}
use Rattle.match_puzzle.specs.Arrangement.{AreArrangements}
use Rattle.crew_machine.specs.Counts.{total, times, once_below}
use Rattle.piece_desk.specs.FlatDesks.{IsOfFlat}
use Rattle.piece_desk.specs.declared.flat_desks.FlatDesk.{FlatDesk}
use Rattle.xcc_dance.specs.declared.searches.PackedOutcome.{PackedOutcome}
use Rattle.xcc_dance.specs.declared.searches.PackedOutcome.TheVariants as packed
use Rattle.xcc_form.specs.declared.faults.CompileFault.{CompileFault}
use Rattle.xcc_form.specs.declared.faults.CompileFault.TheVariants as compile
use Rattle.solver.specs.declared.faults.SolveFault.{SolveFault}
use Rattle.solver.specs.declared.faults.SolveFault.TheVariants as solve
use Rattle.solver.specs.declared.searches.Searched.{Searched}
use Rattle.solver.specs.declared.searches.Searched.TheVariants.{Posted, GaveUp, Full}

-- the fault of a solve that a fault of a compilation is
abbrev pub solve_of_compile : CompileFault → SolveFault
solve_of_compile compile.TooMany = solve.TooMany
solve_of_compile compile.Memory = solve.Memory

-- Where no more was found than may be listed, the tree is within the limits of a lemma's text.
abbrev pub IsTreeWithinWith : (found : List (List Placement)) → Tree → Type 0
IsTreeWithinWith found tree = length found ≤ MOST_ARRANGEMENTS → IsTreeWithin MOST_CELLS MOST_LEVELS tree

-- What a search found are arrangements, and its tree is so; or it gave up.
abbrev pub IsFoundIn : Task → PackedOutcome → Type 0
IsFoundIn p (packed.Done tree found) = AreArrangements p found.items × IsTreeWithinWith found.items tree
IsFoundIn p packed.GaveUp = Unit {0}

-- Its lemma is on the desk, and what it found are arrangements; or the branch was given up.
abbrev pub IsOutcomeOf : Task → FlatDesk → Searched → Type 0
IsOutcomeOf p desk (Posted receipt found) = IsOfFlat desk receipt × AreArrangements p found.items
IsOutcomeOf p desk GaveUp = Unit {0}
IsOutcomeOf p desk Full = Unit {0}

-- Each number below the count stands once in one of the lists, and no other does.
abbrev pub IsTally : (count : ℕ) → List (Vec ℕ Global) → Type 0
IsTally count tally = (x : ℕ) → total (λ t. times x t.items) tally ≡ once_below x count

-- What `count` workers came to: an outcome for each number from 0 on, and a tally of numbers for each worker, where
-- each number is once in one of them.
pub record IsSearchedBy (p : Task) (desk : FlatDesk) (count : ℕ) (results : List Searched)
    (tally : List (Vec ℕ Global)) : Type 0 where
  pub outcomes : All (IsOutcomeOf p desk) results
  pub few : length results ≤ MOST_LEMMAS
  pub workers : length tally ≡ count
  pub taken : IsTally (length results) tally

-- Arrangements of the puzzle and a certificate, both within the limits of their texts, and which worker took which
-- lemma.
pub record IsSolvedBy (p : Task) (count : ℕ) (listed : List (List Placement)) (tally : List (Vec ℕ Global))
    (c : Contents) : Type 0 where
  pub arrangements : AreArrangements p listed
  pub list : IsListWithin SECOND listed
  pub certificate : IsCertificateWithin (said_by 2 c)
  pub workers : length tally ≡ count
  pub taken : IsTally (length c.lemmas) tally
