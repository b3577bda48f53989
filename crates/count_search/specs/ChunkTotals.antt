-- The totals of branches that are counted chunk by chunk.
use Rattle.std.specs.Prelude.{◌≤◌, ◌<◌, ◌*◌, ℕ, List, Option, length, slice_index_or}
use Rattle.std.specs.Fork.{slice_chunk}
use Rattle.xcc_form.specs.Options.{Compiled}
use Rattle.count_search.specs.Branches.{WeightedBranch, IsTotal}

-- The branches are in chunks of this size, and each chunk has the total at its place.
pub record AreChunkTotals (x : Compiled) (branches : List WeightedBranch) (size : ℕ) (totals : List (Option ℕ))
    : Type 0 where
  pub all : length branches ≤ length totals * size
  pub each : (n : ℕ) (d : Option ℕ) → n < length totals
      → IsTotal x (slice_chunk branches size n) (slice_index_or totals n d)
