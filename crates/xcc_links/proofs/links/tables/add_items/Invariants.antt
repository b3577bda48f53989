use Rattle.std.proofs.Common.{◌≡◌, ◌<◌, ℕ, length, get_or}
use Rattle.xcc_links.specs.Rings.{no_entry}
use Rattle.xcc_links.specs.TableLayout.{own_entry}
use Rattle.xcc_links.proofs.links.tables.add_items.Given as goal

abbrev pub invariant-loop-item : goal.invariant-loop-item
invariant-loop-item l = record {
  long : length l.entries.items ≡ l.item;
  own : (k : ℕ) → k < l.item → get_or l.entries.items k no_entry ≡ own_entry k;
}
