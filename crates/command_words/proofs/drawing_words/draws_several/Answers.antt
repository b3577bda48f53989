use Rattle.std.proofs.Common.{arith}
use Rattle.clap.specs.Words.{found_of, rows_of}
use Rattle.command_words.proofs.CommandLemmas.{draw_first}
use Rattle.command_words.proofs.drawing_words.draws_several.Goals as goal

pub number-first-requires : goal.number-first-requires
number-first-requires c = (omega arith, draw_first (rows_of (found_of c.args.matches.now)) c.requires)
