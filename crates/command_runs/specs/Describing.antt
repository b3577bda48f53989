-- What is written of a puzzle that is described.
use Rattle.std.specs.Prelude.{◌≡◌, ◌≤◌, ◌++◌, ◌⊎◌, ℕ, List, All, None, Ok, Err, codes, decimal, length}
use Rattle.match_limits.specs.declared.TheConstants.{MOST_ENTRIES, MOST_SYMMETRIES}
use Rattle.match_puzzle.specs.Puzzle.{Task}
use Rattle.match_puzzle.specs.Prefix.{empty_prefix}
use Rattle.match_text.specs.Puzzles.{PuzzleReads}
use Rattle.match_text.specs.declared.faults.PuzzleTextFault.TheVariants as puzzles
use Rattle.match_limits.specs.declared.ranges.TheConstants.{SECOND}
use Rattle.show_pictures.specs.Pictures.{IsPuzzlePicture}
use Rattle.show_text.specs.Drawing.{IsDrawing}
use Rattle.show_text.specs.Facts.{IsFacts, IsWorkLine}
use Rattle.xcc_form.specs.Options.{Compiled, HasTooManyEntries, IsCompiled, entries_of}
use Rattle.show_reasons.specs.Sentences.{TellsReasons}
use Rattle.puzzle_symmetry.specs.Symmetry.{IsSymmetry}
use Rattle.match_board.specs.declared.symmetry_lines.SymmetryLine.{SymmetryLine}
use Rattle.cert_text.specs.CertificateSpelling.{symmetries_spelling, IsSymmetryWithin}
use Rattle.command_runs.specs.declared.description_runs.Description.{Description}
use Rattle.command_runs.specs.declared.description_runs.Description.TheVariants as descriptions
use Rattle.command_runs.specs.declared.faults.RunFault.{RunFault}
use Rattle.command_runs.specs.declared.faults.RunFault.TheVariants as runs

-- how many options there are, how many items these have, and how many items a solve takes at most
abbrev pub options_text : (options items : ℕ) → List ℕ
options_text options items =
    codes "options " ++ decimal options
    ++ codes "\nitems " ++ decimal items ++ codes " of " ++ decimal MOST_ENTRIES ++ codes "\n"

-- The text says how many options there are and how many items these have, and has a line for the work of a search.
pub record TellsSize (x : Compiled) (text : List ℕ) : Type 0 where
  pub work : List ℕ
  pub guessed : IsWorkLine work
  pub parts : text ≡ options_text (length x.options) (entries_of x) ++ work

-- The text tells the size of the puzzle's search, or that there are too many options for a solve.
abbrev pub TellsOptions : Task → (text : List ℕ) → Type 0
TellsOptions puzzle text =
    ((x : Compiled) × (x.puzzle ≡ puzzle) × IsCompiled x × TellsSize x text)
    ⊎ (HasTooManyEntries puzzle × (text ≡ codes "too many options\n"))

-- The text is the empty board of the puzzle, drawn, then facts of it, and what is told of its options.
pub record IsBoardText (puzzle : Task) (text : List ℕ) : Type 0 where
  pub drawing : List ℕ
  pub drawn : IsDrawing (record { puzzle = puzzle; placed = empty_prefix puzzle }) None drawing
  pub facts : List ℕ
  pub told : IsFacts puzzle facts
  pub options : List ℕ
  pub counted : TellsOptions puzzle options
  pub parts : text ≡ drawing ++ (facts ++ options)

-- The text has lines of symmetries of the puzzle, as a certificate of version 2 has them: at most `MOST_SYMMETRIES`
-- lines, each within its limits, and spelled as there.
pub record IsSymmetriesText (puzzle : Task) (text : List ℕ) : Type 0 where
  pub lines : List SymmetryLine
  pub symmetries : All (IsSymmetry puzzle) lines
  pub within : All (IsSymmetryWithin SECOND) lines
  pub few : length lines ≤ MOST_SYMMETRIES
  pub spelled : text ≡ symmetries_spelling lines

-- what is printed first of a puzzle that is to have no fault
abbrev pub no_fault_text : List ℕ
no_fault_text = codes "puzzle: no fault\n"

-- The text says that the puzzle has no fault, and then what makes an arrangement of it impossible.
pub record IsNoFaultText (puzzle : Task) (text : List ℕ) : Type 0 where
  pub reasons : List ℕ
  pub told : TellsReasons puzzle reasons
  pub parts : text ≡ no_fault_text ++ reasons

-- What is printed of a puzzle.
abbrev pub DescribesPuzzle : Description → (puzzle : Task) (printed : List ℕ) → Type 0
DescribesPuzzle descriptions.Board puzzle printed = IsBoardText puzzle printed
DescribesPuzzle descriptions.Picture puzzle printed = IsPuzzlePicture puzzle printed
DescribesPuzzle descriptions.Symmetries puzzle printed = IsSymmetriesText puzzle printed
DescribesPuzzle descriptions.NoFault puzzle printed = IsNoFaultText puzzle printed

-- What is printed of the puzzle that the text spells.
abbrev pub Describes : Description → (text printed : List ℕ) → (ends : Unit {0}) → Type 0
Describes description text printed ends =
    (puzzle : Task) × PuzzleReads text (Ok puzzle) × DescribesPuzzle description puzzle printed

-- What a fault says of the text of a puzzle: it spells none, with this fault, or it is want of memory.
abbrev pub DescribeFails : (text : List ℕ) → RunFault → Type 0
DescribeFails text (runs.Puzzle puzzles.Memory) = ⊥
DescribeFails text (runs.Puzzle fault) = PuzzleReads text (Err fault)
DescribeFails text runs.Memory = Unit {0}
DescribeFails text fault = ⊥
