use Rattle.std.proofs.Common.{arith}
use Rattle.clap.specs.Words.{found_of, rows_of}
use Rattle.command_words.proofs.CommandLemmas.{check_forks, check_hints, check_progress}
use Rattle.command_words.proofs.readings.check.Goals as goal

pub number-forks-requires : goal.number-forks-requires
number-forks-requires c = (omega arith, check_forks (rows_of (found_of c.args.matches.now)) c.requires)

pub flag-progress-requires : goal.flag-progress-requires
flag-progress-requires c = check_progress (rows_of (found_of c.args.matches.now)) c.requires

pub flag-hints-requires : goal.flag-hints-requires
flag-hints-requires c = check_hints (rows_of (found_of c.args.matches.now)) c.requires
