use Rattle.clap.specs.Words.{found_of, rows_of}
use Rattle.command_words.proofs.CommandLemmas.{show_number, show_puzzle}
use Rattle.command_words.proofs.readings.show.Goals as goal

pub read_subject-requires-clause-puzzle : goal.read_subject-requires-clause-puzzle
read_subject-requires-clause-puzzle c = show_puzzle (rows_of (found_of c.args.matches.now)) c.requires

pub read_subject-requires-clause-number : goal.read_subject-requires-clause-number
read_subject-requires-clause-number c = show_number (rows_of (found_of c.args.matches.now)) c.requires
