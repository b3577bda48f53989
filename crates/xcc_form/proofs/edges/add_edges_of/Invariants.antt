use Rattle.std.proofs.Common.{◌≤◌, ◌+◌, length}
use Rattle.match_limits.specs.Listing.{IsListing, ByKey, HoldsBefore}
use Rattle.xcc_form.specs.Options.{IsSharedEdge, least_place}
use Rattle.xcc_form.proofs.edges.add_edges_of.Given as goal

abbrev pub invariant-loop-side : goal.invariant-loop-side
invariant-loop-side l = record {
  before : IsListing (ByKey least_place) (HoldsBefore least_place (IsSharedEdge l.puzzle.board) (l.cell, l.side)) l.edges.items;
  few : length l.edges.items ≤ length l.initial.edges.items + l.side;
}
