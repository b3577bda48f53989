use Rattle.std.proofs.Common.{◌*◌, ℕ, List, take}
use Rattle.xcc_form.specs.Options.{Compiled}
use Rattle.count_search.specs.Branches.{WeightedBranch, HaveTogether}
use Rattle.count_search.specs.ChunkTotals.{AreChunkTotals}
use Rattle.count_search.proofs.crews.sum_of.Given as goal

abbrev pub invariant-loop-total : goal.invariant-loop-total
invariant-loop-total l =
    (x : Compiled) (branches : List WeightedBranch) (size : ℕ) → AreChunkTotals x branches size l.totals
    → HaveTogether x (take (l.total-index * size) branches) l.sum
