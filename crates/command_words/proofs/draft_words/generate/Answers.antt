use Rattle.clap.specs.Words.{found_of, rows_of}
use Rattle.command_words.proofs.CommandLemmas.{generate_progress}
use Rattle.command_words.proofs.draft_words.generate.Goals as goal

pub flag-progress-requires : goal.flag-progress-requires
flag-progress-requires c = generate_progress (rows_of (found_of c.args.matches.now)) c.requires
