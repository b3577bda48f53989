use Rattle.clap.specs.Words.{found_of, rows_of}
use Rattle.command_words.proofs.CommandLemmas.{symmetries_puzzle}
use Rattle.command_words.proofs.readings.symmetries.Goals as goal

pub puzzle_place-requires : goal.puzzle_place-requires
puzzle_place-requires c = symmetries_puzzle (rows_of (found_of c.args.matches.now)) c.requires
