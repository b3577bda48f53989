-- Pages with a puzzle's tiles to cut out.
use Rattle.std.specs.Prelude.{ℕ, List, Ok}
use Rattle.match_puzzle.specs.Puzzle.{Task}
use Rattle.match_text.specs.Puzzles.{PuzzleReads}
use Rattle.show_pictures.specs.Cuts.{IsCutDocument, IsCutDocumentFrom}
use Rattle.byte_streams.specs.declared.documents.TwoTexts.{TwoTexts}
use Rattle.command_runs.specs.Listed.{SpellList}

-- The text spells a puzzle, and what is printed has each of its tiles, with sides of `size` millimetres.
abbrev pub PrintsCut : (size : ℕ) → (text printed : List ℕ) → (ends : Unit {0}) → Type 0
PrintsCut size text printed ends = (p : Task) × PuzzleReads text (Ok p) × IsCutDocument size p printed

-- The texts spell a puzzle and a list, and what is printed has each tile of the puzzle, with sides of `size`
-- millimetres, and then the listed arrangement of this number, which is one of the puzzle's.
abbrev pub PrintsCutListed : (number size : ℕ) → TwoTexts → (printed : List ℕ) → (ends : Unit {0}) → Type 0
PrintsCutListed number size texts printed ends =
    SpellList texts.puzzle texts.list (λ p listed. IsCutDocumentFrom number size p listed printed)
