-- Pictures that are drawn of a list.
use Rattle.std.specs.Prelude.{◌≡◌, ℕ, List, Ok, Err}
use Rattle.match_puzzle.specs.Puzzle.{Task}
use Rattle.show_pictures.specs.Plans.{IsNotDrawn}
use Rattle.show_pictures.specs.declared.plans.NotDrawn.TheVariants as not_drawn
use Rattle.show_pictures.specs.Listed.{IsPictureFrom}
use Rattle.match_text.specs.Lists.{list_of}
use Rattle.match_text.specs.Puzzles.{PuzzleReads}
use Rattle.text_words.specs.declared.faults.ReadFault.TheVariants as lists
use Rattle.byte_streams.specs.declared.documents.TwoTexts.{TwoTexts}
use Rattle.command_runs.specs.Describing.{DescribeFails}
use Rattle.command_runs.specs.Listed.{SpellList}
use Rattle.command_runs.specs.declared.faults.RunFault.{RunFault}
use Rattle.command_runs.specs.declared.faults.RunFault.TheVariants as runs

-- The texts spell a puzzle and a list, of which the picture is drawn.
abbrev pub DrawsPicture : (number first : ℕ) → TwoTexts → (picture : List ℕ) → (ends : Unit {0}) → Type 0
DrawsPicture number first texts picture ends =
    SpellList texts.puzzle texts.list (λ p listed. IsPictureFrom number first p listed picture)

-- What a fault says of the texts: the first is no puzzle, or the second no list, or one of which nothing is drawn; or it
-- is want of memory.
abbrev pub PictureFails : (number first : ℕ) → TwoTexts → RunFault → Type 0
PictureFails number first texts (runs.List (lists.Text fault)) =
    (p : Task) × PuzzleReads texts.puzzle (Ok p) × (list_of texts.list ≡ Err fault)
PictureFails number first texts (runs.List lists.Memory) = ⊥
PictureFails number first texts (runs.NoArrangement at) =
    SpellList texts.puzzle texts.list (λ p listed. IsNotDrawn number first p listed (not_drawn.NoArrangement at))
PictureFails number first texts (runs.Arrangement at fault) =
    SpellList texts.puzzle texts.list (λ p listed. IsNotDrawn number first p listed (not_drawn.Arrangement at fault))
PictureFails number first texts fault = DescribeFails texts.puzzle fault
