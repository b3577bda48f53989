use Rattle.std.proofs.Common.{◌≤◌, ◌*◌, length}
use Rattle.match_limits.specs.Listing.{IsListing, ByKey, HoldsBefore}
use Rattle.xcc_form.specs.Options.{IsSharedEdge, least_place}
use Rattle.xcc_form.proofs.edges.shared_edges.Given as goal

abbrev pub invariant-loop-cell : goal.invariant-loop-cell
invariant-loop-cell l = record {
  before : IsListing (ByKey least_place) (HoldsBefore least_place (IsSharedEdge l.puzzle.board) (l.cell, 0)) l.edges.items;
  few : length l.edges.items ≤ 4 * l.cell;
}
