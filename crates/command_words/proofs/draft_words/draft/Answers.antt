use Rattle.std.proofs.Common.{arith}
use Rattle.clap.specs.Words.{found_of, rows_of}
use Rattle.command_words.proofs.CommandLemmas.{generate_clues, generate_colours, generate_different, generate_seed, generate_spare, generate_tries, generate_unique}
use Rattle.command_words.proofs.draft_words.draft.Goals as goal

pub number-colours-requires : goal.number-colours-requires
number-colours-requires c = (omega arith, generate_colours (rows_of (found_of c.args.matches.now)) c.requires)

pub number-spare-requires : goal.number-spare-requires
number-spare-requires c = (omega arith, generate_spare (rows_of (found_of c.args.matches.now)) c.requires)

pub number-clues-requires : goal.number-clues-requires
number-clues-requires c = (omega arith, generate_clues (rows_of (found_of c.args.matches.now)) c.requires)

pub number-tries-requires : goal.number-tries-requires
number-tries-requires c = (omega arith, generate_tries (rows_of (found_of c.args.matches.now)) c.requires)

pub flag-requires : goal.flag-requires
flag-requires c = generate_different (rows_of (found_of c.args.matches.now)) c.requires

pub flag-requires-2 : goal.flag-requires-2
flag-requires-2 c = generate_unique (rows_of (found_of c.args.matches.now)) c.requires

pub seed-requires : goal.seed-requires
seed-requires c = generate_seed (rows_of (found_of c.args.matches.now)) c.requires
