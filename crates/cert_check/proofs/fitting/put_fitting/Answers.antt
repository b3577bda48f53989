use Rattle.std.proofs.Common.{map, sym, subst}
use Rattle.match_puzzle.specs.Fitting.{AreFitting, numbered_pair}
use Rattle.match_puzzle.specs.declared.items.Item.{Item}
use Rattle.match_puzzle.proofs.FittingLemmas.{fitting_at_cell, fitting_of_tile}
use Rattle.cert_check.proofs.fitting.put_fitting.Goals as goal

pub returns-in-Cell : goal.returns-in-Cell
returns-in-Cell c =
    let w = c.args.partial.now in
    let numbers = c.put_fitting_at.new.numbers in
    subst (λ (i : Item). AreFitting w.puzzle w.placed i (map (numbered_pair i) numbers)) (sym c.in-Cell.is)
    (fitting_at_cell w.puzzle w.placed c.in-Cell.cell numbers c.put_fitting_at.ensures.puzzle c.put_fitting_at.ensures.fitting)

pub returns-in-Tile : goal.returns-in-Tile
returns-in-Tile c =
    let w = c.args.partial.now in
    let numbers = c.put_fitting_of.new.numbers in
    subst (λ (i : Item). AreFitting w.puzzle w.placed i (map (numbered_pair i) numbers)) (sym c.in-Tile.is)
    (fitting_of_tile w.puzzle w.placed c.in-Tile.tile numbers c.put_fitting_of.ensures.puzzle c.put_fitting_of.ensures.fitting)
