use Rattle.std.proofs.Common.{◌≡◌, ◌+◌}
use Rattle.xcc_form.specs.Options.{item_count}
use Rattle.xcc_form.proofs.ShownLemmas.{AreAdded}
use Rattle.xcc_form.proofs.lists.add_edges.Given as goal

abbrev pub invariant-loop-edge : goal.invariant-loop-edge
invariant-loop-edge l = record {
  item : l.item ≡ item_count l.puzzle + l.edge-index;
  added : AreAdded l.puzzle l.shared l.pair l.edge-index l.initial.edges.items l.edges.items;
}
