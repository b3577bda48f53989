-- How a fault of a puzzle's text is told.
use Rattle.std.specs.Prelude.{ℕ, List, codes}
use Rattle.match_board.specs.FaultText.{board_fault_text}
use Rattle.match_puzzle.specs.FaultText.{puzzle_fault_text}
use Rattle.text_words.specs.FaultText.{text_fault_text}
use Rattle.match_text.specs.declared.faults.PuzzleTextFault.{PuzzleTextFault}
use Rattle.match_text.specs.declared.faults.PuzzleTextFault.TheVariants as puzzle_text

abbrev pub puzzle_text_fault_text : PuzzleTextFault → List ℕ
puzzle_text_fault_text (puzzle_text.Text fault) = text_fault_text fault
puzzle_text_fault_text (puzzle_text.Board fault) = board_fault_text fault
puzzle_text_fault_text (puzzle_text.Puzzle fault) = puzzle_fault_text fault
puzzle_text_fault_text puzzle_text.Memory = codes "out of memory"
