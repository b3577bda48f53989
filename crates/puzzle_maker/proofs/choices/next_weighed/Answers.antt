use Rattle.std.proofs.Common.{◌≡◌, Err, ap}
use Rattle.puzzle_maker.specs.declared.faults.MakeFault.TheVariants.{TooMany}
use Rattle.puzzle_maker.proofs.choices.next_weighed.Goals as goal

pub returns-in-Err-clause-too_many : goal.returns-in-Err-clause-too_many
returns-in-Err-clause-too_many g c = λ e.
    let same : c.in-Err.fault ≡ TooMany = cc in
    (c.in_ok-puzzle.puzzle, c.in_ok-puzzle.ensures.made.planned, c.in-Err.ensures.too_many (ap Err same))
