use Rattle.std.proofs.Common.{◌∙◌, ap}
use Rattle.match_board.specs.Board.{cell_count}
use Rattle.match_puzzle.proofs.ArrangementLemmas.{first_range, first_turn, first_twice, first_border, first_edge, no_range, no_turn, no_twice, no_border}
use Rattle.match_puzzle.proofs.puzzles.Puzzle.arrangement_fault.Goals as goal

pub returns-in-Some : goal.returns-in-Some
returns-in-Some c = let p = c.args.self.now in let a = c.args.placements.now in
    first_range p a (c.if-placements-from.false ∙ c.from.ensures ∙ c.cells.ensures.count ∙ ap cell_count c.board.ensures.value) c.in-Some.cell c.in-Some.ensures

pub returns-in-Some-turn_out_of_range : goal.returns-in-Some-turn_out_of_range
returns-in-Some-turn_out_of_range c = let p = c.args.self.now in let a = c.args.placements.now in
    first_turn p a (c.if-placements-from.false ∙ c.from.ensures ∙ c.cells.ensures.count ∙ ap cell_count c.board.ensures.value) (no_range p a c.in_default.ensures) c.in-Some-turn_out_of_range.cell c.in-Some-turn_out_of_range.ensures

pub returns-in-Some-repeated_tile : goal.returns-in-Some-repeated_tile
returns-in-Some-repeated_tile c = let p = c.args.self.now in let a = c.args.placements.now in
    first_twice p a (c.if-placements-from.false ∙ c.from.ensures ∙ c.cells.ensures.count ∙ ap cell_count c.board.ensures.value) (no_range p a c.in_default.ensures) (no_turn p a c.in_default-turn_out_of_range.ensures) c.in-Some-repeated_tile.cell c.in-Some-repeated_tile.ensures

pub returns-in-Some-broken_border : goal.returns-in-Some-broken_border
returns-in-Some-broken_border c = let p = c.args.self.now in let a = c.args.placements.now in
    rw (c.from-in-Some-broken_border.ensures, c.from-in-Some-broken_border-2.ensures) (first_border p a (c.if-placements-from.false ∙ c.from.ensures ∙ c.cells.ensures.count ∙ ap cell_count c.board.ensures.value) (no_range p a c.in_default.ensures) (no_turn p a c.in_default-turn_out_of_range.ensures) (no_twice p a c.in_default-repeated_tile.ensures)
    c.in-Some-broken_border.cell c.in-Some-broken_border.side c.in-Some-broken_border.ensures)

pub returns-in-Some-broken_edge : goal.returns-in-Some-broken_edge
returns-in-Some-broken_edge c = let p = c.args.self.now in let a = c.args.placements.now in
    rw (c.from-in-Some-broken_edge.ensures, c.from-in-Some-broken_edge-2.ensures) (first_edge p a (c.if-placements-from.false ∙ c.from.ensures ∙ c.cells.ensures.count ∙ ap cell_count c.board.ensures.value) (no_range p a c.in_default.ensures) (no_turn p a c.in_default-turn_out_of_range.ensures) (no_twice p a c.in_default-repeated_tile.ensures) (no_border p a c.in_default-broken_border.ensures)
    c.in-Some-broken_edge.cell c.in-Some-broken_edge.side c.in-Some-broken_edge.ensures)

pub returns : goal.returns
returns c =
    let long = c.if-placements-from.false ∙ c.from.ensures ∙ c.cells.ensures.count ∙ ap cell_count c.board.ensures.value in
    record {
      cells = long;
      legal = c.in_default-turn_out_of_range.ensures;
      once = c.in_default-repeated_tile.ensures;
      border = c.in_default-broken_border.ensures;
      edges = c.in_default-broken_edge.ensures;
    }
