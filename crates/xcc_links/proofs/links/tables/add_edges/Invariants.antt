use Rattle.std.proofs.Common.{◌≡◌, ◌++◌, map, take}
use Rattle.xcc_links.specs.TableLayout.{edge_entry}
use Rattle.xcc_links.proofs.links.tables.add_edges.Given as goal

abbrev pub invariant-loop-edge : goal.invariant-loop-edge
invariant-loop-edge l = l.entries.items ≡ l.initial.entries.items ++ map (edge_entry l.option) (take l.edge-index l.edges)
