-- What lines told so far.
use Rattle.std.specs.Prelude.{◌≡◌, ◌≢◌, ◌<◌, ◌+◌, ◌-◌, ◌++◌, ◌∷◌, ℕ, List, Option, Some, None, Contains, length, slice_get}
use Rattle.count_totals.specs.Lines.{IsInRange, IsLine, line_text}
use Rattle.count_totals.specs.declared.faults.PartsFault.{PartsFault}
use Rattle.count_totals.specs.declared.faults.PartsFault.TheVariants as faults
use Rattle.count_totals.specs.declared.lines.CountedPart.{CountedPart}
use Rattle.count_totals.specs.declared.lines.Line.{Line}
use Rattle.count_totals.specs.declared.lines.Line.TheVariants.{Puzzle, Split, Part}
use Rattle.count_totals.specs.declared.tallies.Tally.{Tally}

-- It is the only one that is named, or none is.
abbrev pub IsOnly : {X : Type 0} → (Named : X → Type 0) → Option X → Type 0
IsOnly {X} Named None = (x : X) → Named x → ⊥
IsOnly {X} Named (Some x) = Named x × ((other : X) → Named other → other ≡ x)

-- The counts are those of the parts that lines name, at their places, of which there are as many as parts.
pub record AreTold (lines : List Line) (counts : List (Option ℕ)) : Type 0 where
  pub each : (earlier count : ℕ) → slice_get counts earlier ≡ Some (Some count)
      → Contains lines (Part (record { number = earlier + 1; parts = length counts; count = count }))
  pub all : (part : CountedPart) → Contains lines (Part part)
      → (part.parts ≡ length counts) × (slice_get counts (part.number - 1) ≡ Some (Some part.count))

-- And there are none before a part is named.
pub record TellCounts (lines : List Line) (counts : List (Option ℕ)) : Type 0 where
  pub some : 0 < length counts → (part : CountedPart) × Contains lines (Part part)
  pub told : AreTold lines counts

-- The tally has what these lines tell.
pub record Tells (tally : Tally) (lines : List Line) : Type 0 where
  pub puzzle : IsOnly (λ digest. Contains lines (Puzzle digest)) tally.puzzle
  pub split : IsOnly (λ split. Contains lines (Split split)) tally.split
  pub counts : TellCounts lines tally.counts.items

-- The text begins with this line, and the rest stands behind it.
pub record BeginsWith (text : List ℕ) (line : Line) (rest : List ℕ) : Type 0 where
  pub is : text ≡ line_text line ++ 10 ∷ rest
  pub in_range : IsInRange line
  pub shorter : length rest < length text

-- Why the text begins with no line: nothing ends one, or what stands before the first end is none.
abbrev pub BeginsWithNone : (text : List ℕ) (number : ℕ) → PartsFault → Type 0
BeginsWithNone text number (faults.Ends at) =
    (at ≡ number) × ((line more : List ℕ) → text ≢ line ++ 10 ∷ more)
BeginsWithNone text number (faults.Unknown at) =
    (at ≡ number) × (here : List ℕ) × (rest : List ℕ) × (text ≡ here ++ 10 ∷ rest)
    × ((line more : List ℕ) → here ≢ line ++ 10 ∷ more) × ((line : Line) → IsLine here line → ⊥)
BeginsWithNone text number fault = ⊥
