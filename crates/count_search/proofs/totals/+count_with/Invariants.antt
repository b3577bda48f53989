use Rattle.std.proofs.Common.{length}
use Rattle.count_search.proofs.totals.+count_with.Given as goal

abbrev pub decreases-count_with : goal.decreases-count_with
decreases-count_with g l = length l.options.now
