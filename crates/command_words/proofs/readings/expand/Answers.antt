use Rattle.clap.specs.Words.{found_of, rows_of}
use Rattle.command_words.proofs.CommandLemmas.{expand_hints, expand_orbits}
use Rattle.command_words.proofs.readings.expand.Goals as goal

pub flag-orbits-requires : goal.flag-orbits-requires
flag-orbits-requires c = expand_orbits (rows_of (found_of c.args.matches.now)) c.requires

pub flag-hints-requires : goal.flag-hints-requires
flag-hints-requires c = expand_hints (rows_of (found_of c.args.matches.now)) c.requires
