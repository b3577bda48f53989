-- What may be wrong with a certificate's symmetries and prefixes.
use Rattle.std.specs.Prelude.{◌≡◌, ℕ, List, Option}
use Rattle.match_puzzle.specs.Puzzle.{Task}
use Rattle.match_puzzle.specs.PrefixFaults.{IsPairList, IsPrefixFault}
use Rattle.match_puzzle.specs.declared.faults.PrefixFault.{PrefixFault}
use Rattle.puzzle_symmetry.specs.Symmetry.{IsSymmetry}
use Rattle.puzzle_symmetry.specs.SymmetryFaults.{IsSymmetryFault}
use Rattle.match_board.specs.declared.symmetry_lines.SymmetryLine.{SymmetryLine}
use Rattle.cert_tree.specs.Certificate.{Piece}
use Rattle.cert_check.specs.declared.symmetries.SymmetriesFault.{SymmetriesFault}
use Rattle.cert_check.specs.declared.symmetries.SymmetriesFault.TheVariants.{Line, Memory}
use Rattle.cert_check.specs.Lists.{IsFirstBad, TellsOfAll}

-- The line with this number has this fault.
abbrev pub LineFails : Task → ℕ → SymmetryLine → SymmetriesFault → Type 0
LineFails p number g (Line n fault) = (n ≡ number) × IsSymmetryFault p g fault
LineFails p number g Memory = Unit {0}

-- It is the first line that has a fault.
abbrev pub LinesFail : Task → List SymmetryLine → SymmetriesFault → Type 0
LinesFail p lines (Line number fault) =
    IsFirstBad (λ n g. IsSymmetry p g) (λ n g f. IsSymmetryFault p g f) lines number fault
LinesFail p lines Memory = Unit {0}

-- What is said of the lemmas' prefixes: that each is one, or the first that isn't, with its fault.
abbrev pub TellsOfPrefixes : Task → List Piece → Option (ℕ × PrefixFault) → Type 0
TellsOfPrefixes p =
    TellsOfAll (λ n (lemma : Piece). IsPairList p lemma.prefix)
    (λ n (lemma : Piece) fault. IsPrefixFault p lemma.prefix fault)
