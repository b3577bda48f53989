-- Chosen options, and the states before they were chosen.
use Rattle.std.specs.Prelude.{◌≡◌, ◌<◌, ◌≤◌, ◌+◌, ℕ, true, List, Contains, length, take, drop, slice_index_or}
use Rattle.xcc_links.specs.declared.links.tables.Entry.{Entry}
use Rattle.xcc_links.specs.Trails.{Arrays, put_back, back}
use Rattle.xcc_links.specs.NodeTables.{has, AreRight}
use Rattle.xcc_links.specs.NodeClashes.{Excludes, NodesClash}

-- how long the trail was when the k-th option was chosen; its length now, where no more than k are
abbrev pub mark_of : List ℕ → List ℕ → ℕ → ℕ
mark_of trail marks k = slice_index_or marks k (length trail)

-- the arrays when k options were chosen: what was hidden since is put back, last first
abbrev pub arrays_before : List Entry → List ℕ → Arrays → List ℕ → List ℕ → ℕ → Arrays
arrays_before entries starts a trail marks k = back (put_back entries starts) (drop (mark_of trail marks k) trail) a

-- An option among them excludes p.
pub record IsExcluded (takable items options : ℕ) (entries : List Entry) (chosen : List ℕ) (p : ℕ) : Type 0 where
  pub by : ℕ
  pub among : Contains chosen by
  pub excludes : Excludes takable items options entries by p

-- Hidden is just what the chosen options exclude.
pub record HidesJust (takable items options : ℕ) (entries : List Entry) (chosen trail : List ℕ) : Type 0 where
  pub only : (p : ℕ) → has trail p ≡ true → IsExcluded takable items options entries chosen p
  pub all : (p : ℕ) → IsExcluded takable items options entries chosen p → has trail p ≡ true

-- The arrays are right for the chosen options.
pub record AreRightFor (takable items options : ℕ) (entries : List Entry) (starts chosen : List ℕ) (a : Arrays)
    (trail : List ℕ) : Type 0 where
  pub hides : HidesJust takable items options entries chosen trail
  pub right : AreRight items entries starts a.0 a.1 trail

-- The arrays are right, and were before each choice.
pub record WereAlwaysRight (takable items options : ℕ) (entries : List Entry) (starts : List ℕ) (a : Arrays)
    (trail marks chosen : List ℕ) : Type 0 where
  pub as_many : length marks ≡ length chosen
  pub rising : (k : ℕ) → k < length marks → mark_of trail marks k ≤ mark_of trail marks (k + 1)
  pub real : (o : ℕ) → Contains chosen o → o < options
  pub apart : (i j d : ℕ) → i < j → j < length chosen
      → NodesClash takable items entries (slice_index_or chosen i d) (slice_index_or chosen j d) → ⊥
  pub right : (k : ℕ) → k ≤ length chosen
      → AreRightFor takable items options entries starts (take k chosen)
      (arrays_before entries starts a trail marks k) (take (mark_of trail marks k) trail)
