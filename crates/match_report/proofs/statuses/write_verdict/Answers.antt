use Rattle.std.proofs.Common.{subst}
use Rattle.match_puzzle.specs.Puzzle.{IsPuzzle}
use Rattle.match_report.proofs.AnswerLemmas.{has_line}
use Rattle.match_report.proofs.statuses.write_verdict.Goals as goal

pub write_answer-requires : goal.write_answer-requires
write_answer-requires c = has_line c.args.question.now c.args.answer.now (subst IsPuzzle c.puzzle.ensures c.board.ensures.puzzle) c.requires
