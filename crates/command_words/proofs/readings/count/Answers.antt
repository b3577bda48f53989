use Rattle.std.proofs.Common.{arith, codes, rules}
use Rattle.clap.specs.Words.{found_of, rows_of}
use Rattle.command_words.proofs.CommandLemmas.{count_most, count_progress}
use Rattle.command_words.proofs.ExtentLemmas.{no_extent}
use Rattle.command_words.proofs.MisfitLemmas.{misfits}
use Rattle.command_words.specs.Orders.{IsExtent, IsGiven}
use Rattle.command_words.proofs.readings.count.Goals as goal

pub extent-requires : goal.extent-requires
extent-requires c = count_most (rows_of (found_of c.args.matches.now)) c.requires

pub flag-progress-requires : goal.flag-progress-requires
flag-progress-requires c = count_progress (rows_of (found_of c.args.matches.now)) c.requires

pub returns-in_default-clause-refused : goal.returns-in_default-clause-refused
returns-in_default-clause-refused c =
    let rows = rows_of (found_of c.args.matches.now) in
    misfits (codes "count") rows c.misfit.result c.misfit.ensures (no_extent rows c.in_default.ensures)

pub returns-in-Given-clause-order : goal.returns-in-Given-clause-order
returns-in-Given-clause-order c =
    let rows = rows_of (found_of c.args.matches.now) in
    let given : IsGiven rows c.in-Given.given = search rules in
    let extent : IsExtent rows c.in-Some.extent = search rules in
    (c.count_given.ensures rows given extent (c.in-Ok.workers, c.in-Ok.ensures.asked)).0

pub returns-in-Given-clause-refused : goal.returns-in-Given-clause-refused
returns-in-Given-clause-refused c =
    let rows = rows_of (found_of c.args.matches.now) in
    let given : IsGiven rows c.in-Given.given = search rules in
    let extent : IsExtent rows c.in-Some.extent = search rules in
    (c.count_given.ensures rows given extent (c.in-Ok.workers, c.in-Ok.ensures.asked)).1
