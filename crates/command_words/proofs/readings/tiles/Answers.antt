use Rattle.std.proofs.Common.{arith}
use Rattle.clap.specs.Words.{found_of, rows_of}
use Rattle.command_words.proofs.CommandLemmas.{tiles_colours, tiles_lines, tiles_sides}
use Rattle.command_words.proofs.readings.tiles.Goals as goal

pub number-sides-requires : goal.number-sides-requires
number-sides-requires c = (omega arith, tiles_sides (rows_of (found_of c.args.matches.now)) c.requires)

pub number-colours-requires : goal.number-colours-requires
number-colours-requires c = (omega arith, tiles_colours (rows_of (found_of c.args.matches.now)) c.requires)

pub flag-lines-requires : goal.flag-lines-requires
flag-lines-requires c = tiles_lines (rows_of (found_of c.args.matches.now)) c.requires
