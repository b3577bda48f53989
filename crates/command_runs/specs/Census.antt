-- What a count by a search prints.
use Rattle.std.specs.Prelude.{◌≡◌, ◌≤◌, ◌+◌, ◌∷◌, [], ◌⊎◌, ℕ, List, None, Some, Ok, codes, length, slice_get}
use Rattle.match_puzzle.specs.Arrangement.{IsArrangement, HasArrangements}
use Rattle.match_puzzle.specs.Puzzle.{Task}
use Rattle.match_puzzle.specs.Numbers.{AreMoreThan}
use Rattle.match_text.specs.Puzzles.{PuzzleReads}
use Rattle.show_text.specs.Facts.{number_line}
use Rattle.xcc_form.specs.Options.{Compiled, HasTooManyEntries, IsCompiled}
use Rattle.count_search.specs.Branches.{WeightedBranch, HaveTogether, IsSplit, IsTotal, every}
use Rattle.count_search.specs.Hash.{hash_of}
use Rattle.solver.specs.declared.faults.SolveFault.TheVariants as solves
use Rattle.count_totals.specs.Lines.{text_of}
use Rattle.count_totals.specs.declared.lines.Line.{Line}
use Rattle.count_totals.specs.declared.lines.Line.TheVariants as lines
use Rattle.count_totals.specs.declared.lines.SplitLine.{SplitLine}
use Rattle.sha2.specs.Sha256.{sha256}
use Rattle.command_words.specs.Parts.{first_in, parts_with}
use Rattle.command_words.specs.declared.orders.Parts.{Parts}
use Rattle.command_words.specs.declared.orders.Extent.{Extent}
use Rattle.command_words.specs.declared.orders.Extent.TheVariants as extents
use Rattle.command_runs.specs.Describing.{DescribeFails}
use Rattle.command_runs.specs.declared.faults.RunFault.{RunFault}
use Rattle.command_runs.specs.declared.faults.RunFault.TheVariants as runs

-- a split: how many branches it has, and their hash
abbrev pub split_of : List WeightedBranch → SplitLine
split_of branches = record { branches = length branches; hash = hash_of branches }

-- the branches of the part that is `later` parts after the first of these; branches are dealt in turn to all parts
abbrev pub part_of : Parts → (later : ℕ) → List WeightedBranch → List WeightedBranch
part_of parts later branches = every (parts_with parts) (parts.before + later) branches

-- Each number is how many arrangements one of these parts has, from the first to the last.
pub record AreCounts (x : Compiled) (branches : List WeightedBranch) (parts : Parts) (counts : List ℕ) : Type 0 where
  pub all : length counts ≡ parts.more + 1
  pub each : (later count : ℕ) → slice_get counts later ≡ Some count → HaveTogether x (part_of parts later branches) count

-- the lines of parts with these counts, from part `number` on, of `parts` parts in all
abbrev pub part_lines : (parts number : ℕ) → (counts : List ℕ) → List Line
part_lines parts number [] = []
part_lines parts number (count ∷ counts) =
    lines.Part (record { number = number; parts = parts; count = count }) ∷ part_lines parts (number + 1) counts

-- the lines of a puzzle that is spelled so, of a split of its search, and of these parts of that split, with their counts
abbrev pub count_lines : (spelled : List ℕ) → List WeightedBranch → Parts → (counts : List ℕ) → List Line
count_lines spelled branches parts counts =
    lines.Puzzle (sha256 spelled) ∷ lines.Split (split_of branches)
    ∷ part_lines (parts_with parts) (first_in parts) counts

-- The text says how many arrangements the puzzle has.
abbrev pub CountsAll : Task → (text : List ℕ) → Type 0
CountsAll puzzle text =
    (count : ℕ) × HasArrangements puzzle count × (text ≡ number_line (codes "arrangements") count)

-- The text says how many arrangements the puzzle has, which are at most `most`.
abbrev pub CountsUpTo : (most : ℕ) → Task → (text : List ℕ) → Type 0
CountsUpTo most puzzle text =
    (count : ℕ) × HasArrangements puzzle count × (count ≤ most) × (text ≡ number_line (codes "arrangements") count)

-- The puzzle has more than `most` arrangements, and the text says so.
abbrev pub CountsMore : (most : ℕ) → Task → (text : List ℕ) → Type 0
CountsMore most puzzle text =
    AreMoreThan most (IsArrangement puzzle) × (text ≡ number_line (codes "arrangements more than") most)

-- The text tells the SHA-256 of the puzzle's text, of one split of the search for all arrangements how large it is, and
-- how many arrangements each of the parts has of that split. That the numbers of all parts of one split add up to how many
-- there are is a law, `parts_make_the_whole`.
pub record CountsParts (parts : Parts) (spelled : List ℕ) (puzzle : Task) (text : List ℕ) : Type 0 where
  pub compiled : Compiled
  pub is_compiled : IsCompiled compiled
  pub of : compiled.puzzle ≡ puzzle
  pub branches : List WeightedBranch
  pub split : IsSplit compiled branches
  pub counts : List ℕ
  pub counted : AreCounts compiled branches parts counts
  pub is : text ≡ text_of (count_lines spelled branches parts counts)

-- What is printed of the puzzle, which is spelled so.
abbrev pub PrintsCount : Extent → (spelled : List ℕ) → Task → (text : List ℕ) → Type 0
PrintsCount extents.All spelled puzzle text = CountsAll puzzle text
PrintsCount (extents.Most most) spelled puzzle text = CountsUpTo most puzzle text ⊎ CountsMore most puzzle text
PrintsCount (extents.Parts parts) spelled puzzle text = CountsParts parts spelled puzzle text

-- What is printed of the puzzle that the text spells.
abbrev pub CensusGives : Extent → (text printed : List ℕ) → (ends : Unit {0}) → Type 0
CensusGives extent text printed ends =
    (puzzle : Task) × PuzzleReads text (Ok puzzle) × PrintsCount extent text puzzle printed

-- Branches that are counted in one sum have 2^64 arrangements or more: those of one of the parts, or all of these branches.
abbrev pub HaveTooMany : Extent → Compiled → List WeightedBranch → Type 0
HaveTooMany (extents.Parts parts) x branches =
    (later : ℕ) × (later ≤ parts.more) × IsTotal x (part_of parts later branches) None
HaveTooMany extent x branches = IsTotal x branches None

-- A split of the search has too many arrangements to count.
pub record AreTooManyToCount (extent : Extent) (puzzle : Task) : Type 0 where
  pub compiled : Compiled
  pub is_compiled : IsCompiled compiled
  pub of : compiled.puzzle ≡ puzzle
  pub branches : List WeightedBranch
  pub split : IsSplit compiled branches
  pub many : HaveTooMany extent compiled branches

-- Why branches aren't counted: they have too many arrangements; or want of memory.
abbrev pub AreNotCounted : Extent → Compiled → List WeightedBranch → RunFault → Type 0
AreNotCounted extent x branches (runs.Solve solves.Full) = HaveTooMany extent x branches
AreNotCounted extent x branches runs.Memory = Unit {0}
AreNotCounted extent x branches fault = ⊥

-- Why a puzzle isn't counted: its options have too many items, or its arrangements are too many, unless they are
-- counted up to some number only; or want of memory.
abbrev pub IsNotCounted : Extent → Task → RunFault → Type 0
IsNotCounted extent puzzle (runs.Solve solves.TooMany) = HasTooManyEntries puzzle
IsNotCounted (extents.Most most) puzzle (runs.Solve solves.Full) = ⊥
IsNotCounted extent puzzle (runs.Solve solves.Full) = AreTooManyToCount extent puzzle
IsNotCounted extent puzzle runs.Memory = Unit {0}
IsNotCounted extent puzzle fault = ⊥

-- What a fault says of the text: it spells no puzzle, with this fault, or one that isn't counted for this reason; or it
-- is want of memory.
abbrev pub CensusFails : Extent → (text : List ℕ) → RunFault → Type 0
CensusFails extent text (runs.Solve fault) =
    (puzzle : Task) × PuzzleReads text (Ok puzzle) × IsNotCounted extent puzzle (runs.Solve fault)
CensusFails extent text fault = DescribeFails text fault
