use Rattle.std.proofs.Common.{arith}
use Rattle.clap.specs.Words.{found_of, rows_of}
use Rattle.command_words.proofs.CommandLemmas.{draw_cut, draw_size}
use Rattle.command_words.proofs.drawing_words.cut_size.Goals as goal

pub number_if_given-size-requires : goal.number_if_given-size-requires
number_if_given-size-requires c = (omega arith, draw_size (rows_of (found_of c.args.matches.now)) c.requires)

pub flag-requires : goal.flag-requires
flag-requires c = draw_cut (rows_of (found_of c.args.matches.now)) c.requires
