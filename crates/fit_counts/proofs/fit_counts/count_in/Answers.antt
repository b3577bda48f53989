use Rattle.std.proofs.Common.{◌≡◌, length, ap, sym, subst, ◌∙◌}
use Rattle.match_puzzle.specs.declared.items.Item.{Item}
use Rattle.fit_counts.specs.FitRows.{HasRowsOf, IsCountIn}
use Rattle.fit_counts.proofs.fit_counts.count_in.Goals as goal

pub at-requires : goal.at-requires
at-requires c = subst (HasRowsOf c.args.rows.now) c.in-Cell.is c.requires

pub places_of-requires : goal.places_of-requires
places_of-requires c = subst (HasRowsOf c.args.rows.now) c.in-Tile.is c.requires

pub returns-in-Cell : goal.returns-in-Cell
returns-in-Cell c =
    subst (λ (item : Item). IsCountIn c.args.rows.now item c.len.result) (sym c.in-Cell.is)
    (ap length (sym c.at.ensures) ∙ sym c.len.ensures.count)

pub returns-in-Tile : goal.returns-in-Tile
returns-in-Tile c =
    subst (λ (item : Item). IsCountIn c.args.rows.now item c.len-in-Tile.result) (sym c.in-Tile.is)
    (c.places_of.result, c.places_of.ensures, sym c.len-in-Tile.ensures.count)
