-- Nodes of options that are open, and walks along the list of an item.
use Rattle.std.specs.Prelude.{◌≡◌, ◌≢◌, ◌⊎◌, ◌<◌, ◌≤◌, ◌+◌, ◌-◌, ◌==◌, ℕ, true, cond, List, Contains, length, slice_index_or}
use Rattle.match_limits.specs.Listing.{IsListing}
use Rattle.xcc_links.specs.Rings.{item_of, option_of}
use Rattle.xcc_links.specs.NodeTables.{shown_by}
use Rattle.xcc_links.specs.NodeClashes.{NodesClash}
use Rattle.xcc_links.specs.declared.links.tables.Entry.{Entry}

-- An option has the item.
pub record HasNode (items : ℕ) (entries : List Entry) (o i : ℕ) : Type 0 where
  pub node : ℕ
  pub from : items ≤ node
  pub to : node < length entries
  pub option : option_of entries node ≡ o
  pub item : item_of entries node ≡ i

-- No chosen option has the item.
abbrev pub HasNoChosenNode : ℕ → List Entry → List ℕ → ℕ → Type 0
HasNoChosenNode items entries chosen i = (c : ℕ) → Contains chosen c → HasNode items entries c i → ⊥

-- The option clashes with none chosen.
abbrev pub HasNoClash : ℕ → ℕ → List Entry → List ℕ → ℕ → Type 0
HasNoClash takable items entries chosen o = (c : ℕ) → Contains chosen c → NodesClash takable items entries c o → ⊥

-- The option has the item, and clashes with none chosen.
pub record IsFreeAt (takable items options : ℕ) (entries : List Entry) (chosen : List ℕ) (i o : ℕ) : Type 0 where
  pub small : o < options
  pub free : HasNoClash takable items entries chosen o
  pub at : HasNode items entries o i

-- The walk stands at a node of the item's list or is back at its own, and those before it pass.
pub record IsWalking (items : ℕ) (entries : List Entry) (trail : List ℕ) (item : ℕ) (Q : ℕ → Type 0) (node : ℕ) : Type 0 where
  pub place : (node ≡ item) ⊎ ((shown_by items entries trail node ≡ true) × (item_of entries node ≡ item))
  pub before : (n : ℕ) → shown_by items entries trail n ≡ true → item_of entries n ≡ item → Q n ⊎ ((node ≢ item) × (node ≤ n))

-- how far the walk can go
abbrev pub left_to : ℕ → ℕ → ℕ → ℕ
left_to most item node = cond (node == item) 0 (most - node)

-- A chosen option has the item.
pub record HasChosenNode (items : ℕ) (entries : List Entry) (chosen : List ℕ) (i : ℕ) : Type 0 where
  pub by : ℕ
  pub among : Contains chosen by
  pub at : HasNode items entries by i

-- Each primary item is covered.
abbrev pub HaveChosenNodes : ℕ → ℕ → List Entry → List ℕ → Type 0
HaveChosenNodes primaries items entries chosen = (j : ℕ) → j < primaries → HasChosenNode items entries chosen j

-- Of the uncovered primary items it has the fewest open options, and the least number among those.
pub record HasLeastSize (primaries takable items options : ℕ) (entries : List Entry) (chosen : List ℕ) (i : ℕ) : Type 0 where
  pub primary : i < primaries
  pub uncovered : HasNoChosenNode items entries chosen i
  pub fewest : (j : ℕ) → j < primaries → HasNoChosenNode items entries chosen j → (xs ys : List ℕ) → IsListing ◌<◌ (IsFreeAt takable items options entries chosen i) xs → IsListing ◌<◌ (IsFreeAt takable items options entries chosen j) ys → (length xs < length ys) ⊎ ((length xs ≡ length ys) × (i ≤ j))

-- The size at the node's item is greater, or the same and the item no less.
abbrev pub NoBetter : List ℕ → ℕ → ℕ → ℕ → ℕ → Type 0
NoBetter sizes first best fewest n = (fewest < slice_index_or sizes (n - first) 0) ⊎ ((fewest ≡ slice_index_or sizes (n - first) 0) × (best + first ≤ n))

-- The best of the items before the node in the list of items.
pub record IsBest (items : ℕ) (entries : List Entry) (trail sizes : List ℕ) (root first best fewest node : ℕ) : Type 0 where
  pub walking : IsWalking items entries trail root (NoBetter sizes first best fewest) node
  pub stands : shown_by items entries trail (first + best) ≡ true
  pub listed : item_of entries (first + best) ≡ root
  pub size : fewest ≡ slice_index_or sizes best 0
  pub past : (node ≢ root) → first + best < node
