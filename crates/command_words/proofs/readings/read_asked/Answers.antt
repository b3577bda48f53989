use Rattle.clap.specs.Words.{found_of, rows_of}
use Rattle.command_words.proofs.MisfitLemmas.{asked_in}
use Rattle.command_words.proofs.readings.read_asked.Goals as goal

pub returns : goal.returns
returns c =
    asked_in (rows_of (found_of c.args.matches.now)) c.in_ok-puzzle.puzzle c.in_ok-list.list c.in_ok-certificate.certificate c.in_ok-puzzle.ensures c.in_ok-list.ensures c.in_ok-certificate.ensures
    c.asked_for.result c.asked_for.ensures
