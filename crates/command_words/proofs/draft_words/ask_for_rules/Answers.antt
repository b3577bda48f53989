use Rattle.clap.specs.Words.{found_of, rows_of}
use Rattle.command_words.proofs.CommandLemmas.{generate_mates}
use Rattle.command_words.proofs.draft_words.ask_for_rules.Goals as goal

pub flag-requires : goal.flag-requires
flag-requires c = generate_mates (rows_of (found_of c.args.matches.now)) c.requires
