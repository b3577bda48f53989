use Rattle.std.proofs.Common.{◌≡◌, ◌+◌, length}
use Rattle.xcc_form.specs.Options.{Compiled}
use Rattle.xcc_links.specs.TableLayout.{IsLaidOutTo}
use Rattle.xcc_links.proofs.links.tables.add_roots.Given as goal

abbrev pub invariant-loop-item : goal.invariant-loop-item
invariant-loop-item l = record {
  long : length l.entries.items ≡ length l.initial.entries.items + l.item;
  laid : (x : Compiled) → IsLaidOutTo x l.items l.options 0 l.initial.entries.items l.initial.starts.items → IsLaidOutTo x l.items l.options l.item l.entries.items l.starts.items;
}
