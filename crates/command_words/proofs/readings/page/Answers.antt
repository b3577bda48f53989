use Rattle.std.proofs.Common.{arith}
use Rattle.clap.specs.Words.{found_of, rows_of}
use Rattle.command_words.proofs.CommandLemmas.{page_first, page_hints, page_title}
use Rattle.command_words.proofs.readings.page.Goals as goal

pub text-requires : goal.text-requires
text-requires c = page_title (rows_of (found_of c.args.matches.now)) c.requires

pub number-first-requires : goal.number-first-requires
number-first-requires c = (omega arith, page_first (rows_of (found_of c.args.matches.now)) c.requires)

pub flag-hints-requires : goal.flag-hints-requires
flag-hints-requires c = page_hints (rows_of (found_of c.args.matches.now)) c.requires
