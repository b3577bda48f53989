use Rattle.std.proofs.Common.{codes}
use Rattle.clap.specs.Words.{found_of, rows_of}
use Rattle.command_words.proofs.MisfitLemmas.{misfits, no_draw}
use Rattle.command_words.proofs.drawing_words.draw.Goals as goal

pub returns-in-Err-clause-refused : goal.returns-in-Err-clause-refused
returns-in-Err-clause-refused c =
    let rows = rows_of (found_of c.args.matches.now) in
    misfits (codes "draw") rows c.refusal.result c.refusal.ensures (no_draw rows c.in-Err.ensures.refused)
