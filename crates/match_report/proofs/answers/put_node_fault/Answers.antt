use Rattle.match_report.specs.AnswerText.{node_fault_words}
use Rattle.match_report.proofs.LineLemmas.{spaced-after}
use Rattle.match_report.proofs.answers.put_node_fault.Goals as goal

pub returns-in-CellTaken : goal.returns-in-CellTaken
unfolding node_fault_words
returns-in-CellTaken c = rw c.in-CellTaken.is c.word-in-CellTaken.ensures

pub returns-in-TileTaken : goal.returns-in-TileTaken
unfolding node_fault_words
returns-in-TileTaken c = rw c.in-TileTaken.is c.word-in-TileTaken.ensures

pub returns-in_ok-put_numbered-in-WrongCount : goal.returns-in_ok-put_numbered-in-WrongCount
unfolding node_fault_words
returns-in_ok-put_numbered-in-WrongCount c =
    let h = rw (c.in_ok-put_numbered-in-WrongCount.ensures, spaced-after) at c.number.ensures in
    rw c.in-WrongCount.is h

pub returns-in-ListRange : goal.returns-in-ListRange
unfolding node_fault_words
returns-in-ListRange c = rw c.in-ListRange.is c.word-in-ListRange.ensures

pub returns-in-NotListed : goal.returns-in-NotListed
unfolding node_fault_words
returns-in-NotListed c = rw c.in-NotListed.is c.word-in-NotListed.ensures
