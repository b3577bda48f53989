use Rattle.clap.specs.Words.{found_of, rows_of}
use Rattle.command_words.proofs.CommandLemmas.{draw_number, draw_numbers, draw_puzzle}
use Rattle.command_words.proofs.drawing_words.cut.Goals as goal

pub read_subject-requires-clause-puzzle : goal.read_subject-requires-clause-puzzle
read_subject-requires-clause-puzzle c = draw_puzzle (rows_of (found_of c.args.matches.now)) c.requires.draw

pub read_subject-requires-clause-number : goal.read_subject-requires-clause-number
read_subject-requires-clause-number c = draw_number (rows_of (found_of c.args.matches.now)) c.requires.draw

pub flag-numbers-requires : goal.flag-numbers-requires
flag-numbers-requires c = draw_numbers (rows_of (found_of c.args.matches.now)) c.requires.draw
