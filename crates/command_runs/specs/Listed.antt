-- An arrangement of a list that is drawn.
use Rattle.std.specs.Prelude.{◌≡◌, ◌≤◌, ℕ, List, Ok, Err, length}
use Rattle.match_puzzle.specs.Arrangement.{IsArrangement}
use Rattle.match_puzzle.specs.ArrangementFaults.{IsArrangementFault}
use Rattle.match_puzzle.specs.Puzzle.{Task}
use Rattle.match_puzzle.specs.declared.placements.Placement.{Placement}
use Rattle.show_pictures.specs.Plans.{IsListedAt}
use Rattle.show_text.specs.Arrangement.{IsDrawnArrangement}
use Rattle.match_text.specs.Lists.{list_of}
use Rattle.match_text.specs.Puzzles.{PuzzleReads}
use Rattle.text_words.specs.declared.faults.ReadFault.TheVariants as lists
use Rattle.byte_streams.specs.declared.documents.TwoTexts.{TwoTexts}
use Rattle.command_runs.specs.Describing.{DescribeFails}
use Rattle.command_runs.specs.declared.faults.RunFault.{RunFault}
use Rattle.command_runs.specs.declared.faults.RunFault.TheVariants as runs

-- The texts spell a puzzle and a list of which this is so.
abbrev pub SpellList : (puzzle list : List ℕ) → (Task → List (List Placement) → Type 0) → Type 0
SpellList puzzle list Are =
    (p : Task) × (listed : List (List Placement)) × PuzzleReads puzzle (Ok p) × (list_of list ≡ Ok listed) × Are p listed

-- The drawing is the board with the listed arrangement of this number on it, which is one of the puzzle's.
abbrev pub DrawsListed : (number : ℕ) → TwoTexts → (drawing : List ℕ) → (ends : Unit {0}) → Type 0
DrawsListed number texts drawing ends =
    SpellList texts.puzzle texts.list (λ p. IsListedAt number (λ a. IsArrangement p a × IsDrawnArrangement p a drawing))

-- What a fault says of the texts: they spell no arrangement of this number, since the first is no puzzle, or the second
-- no list, or one that is too short, or one whose arrangement of this number is none of the puzzle's; or it is want of
-- memory.
abbrev pub DrawFails : (number : ℕ) → TwoTexts → RunFault → Type 0
DrawFails number texts (runs.List (lists.Text fault)) =
    (p : Task) × PuzzleReads texts.puzzle (Ok p) × (list_of texts.list ≡ Err fault)
DrawFails number texts (runs.List lists.Memory) = ⊥
DrawFails number texts (runs.NoArrangement at) =
    (at ≡ number) × SpellList texts.puzzle texts.list (λ p listed. length listed ≤ number)
DrawFails number texts (runs.Arrangement at fault) =
    (at ≡ number) × SpellList texts.puzzle texts.list (λ p. IsListedAt number (λ a. IsArrangementFault p a fault))
DrawFails number texts fault = DescribeFails texts.puzzle fault
