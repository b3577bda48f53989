use Rattle.std.proofs.Common.{arith, codes}
use Rattle.clap.specs.Words.{found_of, rows_of}
use Rattle.command_words.proofs.CommandLemmas.{find_first, find_orbits, find_progress, find_puzzle, find_seed}
use Rattle.command_words.proofs.MisfitLemmas.{misfits, no_find}
use Rattle.command_words.proofs.readings.find.Goals as goal

pub orbits-requires : goal.orbits-requires
orbits-requires c = find_orbits (rows_of (found_of c.args.matches.now)) c.requires

pub puzzle_place-requires : goal.puzzle_place-requires
puzzle_place-requires c = find_puzzle (rows_of (found_of c.args.matches.now)) c.requires

pub number-first-requires : goal.number-first-requires
number-first-requires c = (omega arith, find_first (rows_of (found_of c.args.matches.now)) c.requires)

pub seed-seed-requires : goal.seed-seed-requires
seed-seed-requires c = find_seed (rows_of (found_of c.args.matches.now)) c.requires

pub flag-progress-requires : goal.flag-progress-requires
flag-progress-requires c = find_progress (rows_of (found_of c.args.matches.now)) c.requires

pub returns-in-Err-clause-refused : goal.returns-in-Err-clause-refused
returns-in-Err-clause-refused c =
    let rows = rows_of (found_of c.args.matches.now) in
    misfits (codes "find") rows c.misfit.result c.misfit.ensures (no_find rows (λ orbits asks has. c.in-Err.ensures.refused orbits asks))
