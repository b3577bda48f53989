use Rattle.xcc_links.specs.TableLayout.{IsLaidOutTo}
use Rattle.xcc_links.proofs.links.tables.NodeTable.new.Given as goal

abbrev pub invariant-loop-option : goal.invariant-loop-option
invariant-loop-option l = IsLaidOutTo l.xcc l.items l.option 0 l.entries.items l.starts.items
