use Rattle.std.proofs.Common.{arith, codes, sym}
use Rattle.clap.specs.Words.{found_of, rows_of}
use Rattle.command_words.proofs.CommandLemmas.{solve_check, solve_files, solve_fuel, solve_hints, solve_progress}
use Rattle.command_words.proofs.MisfitLemmas.{misfits, not_searched, not_writable, true_is_false}
use Rattle.command_words.proofs.readings.solve.Goals as goal

pub files-requires : goal.files-requires
files-requires c = solve_files (rows_of (found_of c.args.matches.now)) c.requires

pub number-fuel-requires : goal.number-fuel-requires
number-fuel-requires c = (omega arith, solve_fuel (rows_of (found_of c.args.matches.now)) c.requires)

pub flag-check-requires : goal.flag-check-requires
flag-check-requires c = solve_check (rows_of (found_of c.args.matches.now)) c.requires

pub flag-progress-requires : goal.flag-progress-requires
flag-progress-requires c = solve_progress (rows_of (found_of c.args.matches.now)) c.requires

pub flag-hints-requires : goal.flag-hints-requires
flag-hints-requires c = solve_hints (rows_of (found_of c.args.matches.now)) c.requires

pub returns-then-not-are_writable-clause-refused : goal.returns-then-not-are_writable-clause-refused
returns-then-not-are_writable-clause-refused c =
    let rows = rows_of (found_of c.args.matches.now) in
    misfits (codes "solve") rows c.misfit.result c.misfit.ensures (not_writable rows c.in_ok-files.files c.in_ok-files.ensures
    (λ writable. true_is_false (sym (c.if-not-are_writable.ensures.1 writable))))

pub returns-in-Err-clause-refused : goal.returns-in-Err-clause-refused
returns-in-Err-clause-refused c =
    let rows = rows_of (found_of c.args.matches.now) in
    misfits (codes "solve") rows c.misfit-in-Err.result c.misfit-in-Err.ensures (not_searched rows c.in-Err.ensures.refused)
