use Rattle.std.proofs.Common.{◌≤◌, ℕ}
use Rattle.xcc_form.specs.Options.{cover_of}
use Rattle.xcc_form.specs.Chosen.{IsUncovered, ComesAfter}
use Rattle.xcc_dance.proofs.open_sets.OpenSetsOpenOptions.next_item.Given as goal

abbrev pub invariant-loop-item : goal.invariant-loop-item
invariant-loop-item l = (number : ℕ) → IsUncovered (cover_of l.self.compiled) l.self.chosen number → ComesAfter l.fn.after number → l.item ≤ number
