use Rattle.std.proofs.Common.{arith}
use Rattle.clap.specs.Words.{found_of, rows_of}
use Rattle.command_words.proofs.CommandLemmas.{draw_first, draw_number, draw_numbers, draw_puzzle}
use Rattle.command_words.proofs.drawing_words.draw_all.Goals as goal

pub puzzle_place-requires : goal.puzzle_place-requires
puzzle_place-requires c = draw_puzzle (rows_of (found_of c.args.matches.now)) c.requires.draw

pub number-requires-2 : goal.number-requires-2
number-requires-2 c = (omega arith, draw_first (rows_of (found_of c.args.matches.now)) c.requires.draw)

pub number-requires : goal.number-requires
number-requires c = (omega arith, draw_number (rows_of (found_of c.args.matches.now)) c.requires.draw)

pub flag-requires : goal.flag-requires
flag-requires c = draw_numbers (rows_of (found_of c.args.matches.now)) c.requires.draw
