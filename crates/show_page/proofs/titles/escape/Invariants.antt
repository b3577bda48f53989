use Rattle.std.proofs.Common.{◌≡◌}
use Rattle.show_page.specs.Titles.{entity}
use Rattle.show_page.proofs.JoiningLemmas.{first_ones}
use Rattle.show_page.proofs.titles.escape.Given as goal

abbrev pub invariant-loop-byte : goal.invariant-loop-byte
invariant-loop-byte l = l.hole.items ≡ first_ones entity l.byte-items l.byte-index
