use Rattle.std.proofs.Common.{[], get_or}
use Rattle.std.proofs.lemmas.Option.{slice_get-get_or}
use Rattle.match_puzzle.specs.declared.tables.CellSides.{CellSides}
use Rattle.match_puzzle.proofs.asking.rule_in.Goals as goal

pub returns : goal.returns
returns c =
    let none : CellSides = record { sides = []; asked_at = [] } in
    (get_or c.args.table.now c.args.cell none, slice_get-get_or c.args.table.now c.args.cell none c.requires.cell, rw (c.from.ensures, c.from-2.ensures) at c.rule.ensures)
