-- Sums of counted parts.
use Rattle.std.specs.Prelude.{◌≡◌, ◌≢◌, ◌≤◌, ◌<◌, ◌+◌, ◌-◌, ◌++◌, ◌∷◌, [], ℕ, List, Some, Contains, length, slice_get, sum}
use Rattle.count_totals.specs.Lines.{AreInRange, AreLinesOf, EndsEarly, HasUnknownLine, text_of}
use Rattle.count_totals.specs.declared.faults.Clash.{Clash}
use Rattle.count_totals.specs.declared.faults.Clash.TheVariants as clashes
use Rattle.count_totals.specs.declared.faults.PartsFault.{PartsFault}
use Rattle.count_totals.specs.declared.faults.PartsFault.TheVariants as faults
use Rattle.count_totals.specs.declared.lines.Line.{Line}
use Rattle.count_totals.specs.declared.lines.Line.TheVariants.{Puzzle, Split, Part}
use Rattle.count_totals.specs.declared.lines.CountedPart.{CountedPart}
use Rattle.count_totals.specs.declared.lines.SplitLine.{SplitLine}

-- The lines go together: they name one puzzle, one split and one number of parts, and of each part one count.
pub record GoTogether (lines : List Line) : Type 0 where
  pub one_puzzle : (digest other : List ℕ) → Contains lines (Puzzle digest) → Contains lines (Puzzle other) → digest ≡ other
  pub one_split : (split other : SplitLine) → Contains lines (Split split) → Contains lines (Split other) → split ≡ other
  pub one_number : (part other : CountedPart) → Contains lines (Part part) → Contains lines (Part other)
      → part.parts ≡ other.parts
  pub one_count : (part other : CountedPart) → Contains lines (Part part) → Contains lines (Part other)
      → part.number ≡ other.number → part.count ≡ other.count

-- What a line has that doesn't go with those before it: another puzzle, another split, another number of parts, which was
-- this before, or another count of a part, which was this before.
abbrev pub ClashesWith : (before : List Line) → Line → Clash → Type 0
ClashesWith before line clashes.Puzzle =
    (digest other : List ℕ) × (line ≡ Puzzle digest) × Contains before (Puzzle other) × (digest ≢ other)
ClashesWith before line clashes.Split =
    (split other : SplitLine) × (line ≡ Split split) × Contains before (Split other) × (split ≢ other)
ClashesWith before line (clashes.Parts parts earlier) =
    (part other : CountedPart) × (line ≡ Part part) × Contains before (Part other)
    × (part.parts ≡ parts) × (other.parts ≡ earlier) × (parts ≢ earlier)
ClashesWith before line (clashes.Count number parts earlier) =
    (part other : CountedPart) × (line ≡ Part part) × Contains before (Part other)
    × (part.number ≡ number) × (other.number ≡ number) × (part.parts ≡ parts) × (other.parts ≡ parts)
    × (other.count ≡ earlier) × (part.count ≢ earlier)

-- Each number is the count of a part, from the first to the last, and the lines name no other.
pub record AreCountsOf (lines : List Line) (counts : List ℕ) : Type 0 where
  pub some : 0 < length counts
  pub each : (earlier count : ℕ) → slice_get counts earlier ≡ Some count
      → Contains lines (Part (record { number = earlier + 1; parts = length counts; count = count }))
  pub all : (part : CountedPart) → Contains lines (Part part)
      → (part.parts ≡ length counts) × (slice_get counts (part.number - 1) ≡ Some part.count)

-- The lines name a puzzle, a split and each part of it with one count, and this is the sum of the counts.
pub record HaveTotal (lines : List Line) (total : ℕ) : Type 0 where
  pub together : GoTogether lines
  pub puzzle : (digest : List ℕ) × Contains lines (Puzzle digest)
  pub split : (split : SplitLine) × Contains lines (Split split)
  pub counts : List ℕ
  pub are_counts : AreCountsOf lines counts
  pub is : total ≡ sum counts

-- The text has lines with this total.
abbrev pub HasTotal : (text : List ℕ) (total : ℕ) → Type 0
HasTotal text total = (lines : List Line) × AreLinesOf text lines × HaveTotal lines total

-- no line names a puzzle, a split, a part
abbrev pub NameNoPuzzle : List Line → Type 0
NameNoPuzzle lines = (digest : List ℕ) → Contains lines (Puzzle digest) → ⊥

abbrev pub NameNoSplit : List Line → Type 0
NameNoSplit lines = (split : SplitLine) → Contains lines (Split split) → ⊥

abbrev pub NameNoPart : List Line → Type 0
NameNoPart lines = (part : CountedPart) → Contains lines (Part part) → ⊥

-- The lines name a part with this number.
abbrev pub NamePart : List Line → (number : ℕ) → Type 0
NamePart lines number = (part : CountedPart) × Contains lines (Part part) × (part.number ≡ number)

-- A line names one of `parts` parts, and `number` is the least part, from 1 to `parts`, that no line names.
pub record LackPart (lines : List Line) (number parts : ℕ) : Type 0 where
  pub named : (part : CountedPart) × Contains lines (Part part) × (part.parts ≡ parts)
  pub some : 1 ≤ number
  pub within : number ≤ parts
  pub lacking : NamePart lines number → ⊥
  pub least : (other : ℕ) → 1 ≤ other → other < number → NamePart lines other

-- What is missing of lines that go together: a puzzle; a split, where a puzzle is named; parts, where both are; or a part.
abbrev pub Lack : List Line → PartsFault → Type 0
Lack lines faults.NoPuzzle = NameNoPuzzle lines
Lack lines faults.NoSplit = (NameNoPuzzle lines → ⊥) × NameNoSplit lines
Lack lines faults.NoPart = (NameNoPuzzle lines → ⊥) × (NameNoSplit lines → ⊥) × NameNoPart lines
Lack lines (faults.Missing number parts) =
    (NameNoPuzzle lines → ⊥) × (NameNoSplit lines → ⊥) × LackPart lines number parts
Lack lines fault = ⊥

-- The line behind these of the text has this number, and it clashes with them so.
pub record HasClash (text : List ℕ) (number : ℕ) (clash : Clash) : Type 0 where
  pub before : List Line
  pub line : Line
  pub rest : List ℕ
  pub is : text ≡ text_of (before ++ line ∷ []) ++ rest
  pub in_range : AreInRange (before ++ line ∷ [])
  pub together : GoTogether before
  pub clashes : ClashesWith before line clash
  pub at : number ≡ length before + 1

-- What a fault says of the text: the first line that has no end, or is none that a count prints, or doesn't go with those
-- before it; or what is missing, where all lines are good; or it is want of memory.
abbrev pub FailsToTotal : (text : List ℕ) → PartsFault → Type 0
FailsToTotal text (faults.Ends number) =
    (before : List Line) × GoTogether before × EndsEarly text before × (number ≡ length before + 1)
FailsToTotal text (faults.Unknown number) =
    (before : List Line) × GoTogether before × HasUnknownLine text before × (number ≡ length before + 1)
FailsToTotal text (faults.Clashes number clash) = HasClash text number clash
FailsToTotal text faults.Memory = Unit {0}
FailsToTotal text fault = (lines : List Line) × AreLinesOf text lines × GoTogether lines × Lack lines fault
