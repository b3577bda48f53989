use Rattle.std.proofs.Common.{◌≡◌, ◌++◌, List, length, codes}
use Rattle.match_puzzle.specs.declared.placements.Pair.{Pair}
use Rattle.text_words.specs.Words.{pair_in}
use Rattle.cert_text.specs.Entries.{entries_before}
use Rattle.text_words.proofs.LoopLemmas.{AreRead}
use Rattle.cert_text.proofs.entries.prefix.Given as goal

-- These pairs were read, and are behind the old ones.
abbrev pub invariant-loop-scan : goal.invariant-loop-scan
invariant-loop-scan l = (read : List Pair) × (l.pairs.items ≡ l.fn.pairs.items ++ read) × AreRead l.ranges.most_cells (λ room. entries_before (codes "tree") room (pair_in l.ranges)) l.fn.scan read l.scan

abbrev pub decreases-loop-scan : goal.decreases-loop-scan
decreases-loop-scan l = length l.scan.words
