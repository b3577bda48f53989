use Rattle.std.proofs.Common.{◌<◌, ◌∙◌, MatchBool, length, slice_index, lt-ltb, ap, arith, sym, subst}
use Rattle.match_board.proofs.Places.{StandsAt-in_range, Meets-turned}
use Rattle.match_puzzle.specs.Arrangement.{MatchesEdgeAt}
use Rattle.match_puzzle.specs.ArrangementFaults.{BreaksEdgeAt}
use Rattle.match_puzzle.proofs.ArrangementLemmas.{first_tile, read_stands, edge_matches, matches_turned, border_matches, side_in_range}
use Rattle.match_limits.proofs.FirstLemmas.{by_test}
use Rattle.match_puzzle.proofs.puzzles.Puzzle.matches_edge.Goals as goal
use Rattle.match_puzzle.proofs.puzzles.Puzzle.matches_edge.Goals.{In-Edge}

other_in : (c : In-Edge) → c.in-Edge.other < length c.args.placements.now
other_in c = omega (arith, StandsAt-in_range c.in-Edge.ensures.0.there, c.requires.long)

pub bounds-placements-from-in-Edge : goal.bounds-placements-from-in-Edge
bounds-placements-from-in-Edge c = rw c.from-in-Edge.ensures (other_in (goal.at.bounds-placements-from-in-Edge c).In-Edge)

pub shown-requires : goal.shown-requires
shown-requires c = rw c.from.ensures (c.requires.legal c.args.cell _ (read_stands c.args.placements.now c.args.cell first_tile (omega (arith, c.requires.long, c.requires.cell))))

pub asked_by-requires : goal.asked_by-requires
asked_by-requires c = rw c.from-in-Edge.ensures (c.requires.legal c.in-Edge.other _ (read_stands c.args.placements.now c.in-Edge.other first_tile (other_in (goal.at.asked_by-requires c).In-Edge)))

pub returns-in-Border : goal.returns-in-Border
returns-in-Border c = border_matches c.args.self.now c.args.placements.now c.args.cell c.args.side c.in-Border.field-0 c.in-Border.ensures

pub returns-then-other-cell : goal.returns-then-other-cell
returns-then-other-cell c =
    let is = c.in-Edge.ensures in
    subst (λ b. MatchBool b (MatchesEdgeAt c.args.self.now c.args.placements.now c.args.cell c.args.side) (BreaksEdgeAt c.args.self.now c.args.placements.now c.args.cell c.args.side)) (sym (lt-ltb c.in-Edge.other c.args.cell c.if-other-cell.true))
    (matches_turned c.args.self.now c.requires.puzzle c.args.placements.now c.args.cell c.args.side c.in-Edge.other c.in-Edge.other_side is.0 is.1 (c.requires.before c.in-Edge.other c.in-Edge.other_side c.if-other-cell.true (side_in_range (Meets-turned is.0))))

pub returns-else-other-cell : goal.returns-else-other-cell
returns-else-other-cell c =
    let is = c.in-Edge.ensures in
    let both = edge_matches c.args.self.now c.args.placements.now c.args.cell c.args.side c.in-Edge.other c.in-Edge.other_side first_tile (omega (arith, c.requires.long, c.requires.cell)) (other_in (goal.at.returns-else-other-cell c).In-Edge) is.0 is.1 in
    let here = rw c.from.ensures at (ap (λ k. slice_index c.shown.result k) c.from-else-other-cell.ensures ∙ (c.shown.ensures c.args.side c.requires.side).0) in
    let there = rw c.from-in-Edge.ensures at (ap (λ k. slice_index c.asked_by.result k) c.from-else-other-cell-2.ensures ∙ (c.asked_by.ensures c.in-Edge.other_side (side_in_range (Meets-turned is.0))).0) in
    by_test (slice_index c.shown.result c.from-else-other-cell.result) (slice_index c.asked_by.result c.from-else-other-cell-2.result) _ _
    (λ e. both.0 (sym here ∙ e ∙ there)) (λ ne. both.1 (λ e. ne (here ∙ e ∙ sym there)))
