use Rattle.std.proofs.Common.{arith}
use Rattle.clap.specs.Words.{found_of, rows_of}
use Rattle.command_words.proofs.CommandLemmas.{generate_easiest, generate_hardest, generate_unique}
use Rattle.command_words.proofs.draft_words.choice.Goals as goal

pub number_if_given-hardest-requires : goal.number_if_given-hardest-requires
number_if_given-hardest-requires c = (omega arith, generate_hardest (rows_of (found_of c.args.matches.now)) c.requires)

pub number_if_given-easiest-requires : goal.number_if_given-easiest-requires
number_if_given-easiest-requires c = (omega arith, generate_easiest (rows_of (found_of c.args.matches.now)) c.requires)

pub of_unique-requires : goal.of_unique-requires
of_unique-requires c = generate_unique (rows_of (found_of c.args.matches.now)) c.requires

pub of_unique-requires-in-Some-None : goal.of_unique-requires-in-Some-None
of_unique-requires-in-Some-None c = generate_unique (rows_of (found_of c.args.matches.now)) c.requires
