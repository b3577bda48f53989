use Rattle.std.proofs.lemmas.Result.{err_from_is_err_and}
use Rattle.clap.specs.Words.{found_of, rows_of}
use Rattle.command_words.proofs.CommandLemmas.{generate_height, generate_mates, generate_size}
use Rattle.command_words.proofs.draft_words.plain_rules.Goals as goal

pub board-requires-clause-size : goal.board-requires-clause-size
board-requires-clause-size c = generate_size (rows_of (found_of c.args.matches.now)) c.requires

pub board-requires-clause-height : goal.board-requires-clause-height
board-requires-clause-height c = generate_height (rows_of (found_of c.args.matches.now)) c.requires

pub flag-mates-requires : goal.flag-mates-requires
flag-mates-requires c = generate_mates (rows_of (found_of c.args.matches.now)) c.requires

pub returns-in_err-border-clause-refused : goal.returns-in_err-border-clause-refused
returns-in_err-border-clause-refused c =
    let w = err_from_is_err_and c.from_residual-in_err-border.result c.from_residual-in_err-border.ensures.1 in
    rw w.1 (λ rules is. c.in_err-border.ensures.refused rules.border is.border)
