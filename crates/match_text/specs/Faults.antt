-- Faults of texts, as those of a document.
use Rattle.match_puzzle.specs.declared.faults.PuzzleFault.{PuzzleFault}
use Rattle.match_puzzle.specs.declared.faults.PuzzleFault.TheVariants as puzzle
use Rattle.text_words.specs.declared.faults.ReadFault.{ReadFault}
use Rattle.text_words.specs.declared.faults.ReadFault.TheVariants as read
use Rattle.match_text.specs.declared.faults.PuzzleTextFault.{PuzzleTextFault}
use Rattle.match_text.specs.declared.faults.PuzzleTextFault.TheVariants as puzzle_text

-- a fault of a puzzle's text
abbrev pub of_puzzle_text : ReadFault → PuzzleTextFault
of_puzzle_text (read.Text fault) = puzzle_text.Text fault
of_puzzle_text read.Memory = puzzle_text.Memory

-- a fault of the puzzle that a text asks for
abbrev pub of_puzzle : PuzzleFault → PuzzleTextFault
of_puzzle puzzle.Memory = puzzle_text.Memory
of_puzzle fault = puzzle_text.Puzzle fault
