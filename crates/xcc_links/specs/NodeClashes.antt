-- What options exclude.
use Rattle.std.specs.Prelude.{◌≡◌, ◌≢◌, ◌⊎◌, ◌<◌, ◌≤◌, ◌+◌, ℕ, List, length}
use Rattle.xcc_links.specs.declared.links.tables.Entry.{Entry}
use Rattle.xcc_links.specs.Rings.{item_of, colour_of, option_of}

-- Option p has the item, with another colour.
pub record HasOtherColour (items : ℕ) (entries : List Entry) (item keep p : ℕ) : Type 0 where
  pub node : ℕ
  pub from : items ≤ node
  pub to : node < length entries
  pub option : option_of entries node ≡ p
  pub there : item_of entries node ≡ item
  pub colour : colour_of entries node ≢ keep

-- Option p has the item of node m, which is takable or has another colour there.
pub record NodeClashes (takable items : ℕ) (entries : List Entry) (m p : ℕ) : Type 0 where
  pub node : ℕ
  pub from : items ≤ node
  pub to : node < length entries
  pub option : option_of entries node ≡ p
  pub item : item_of entries node ≡ item_of entries m
  pub differ : (item_of entries m < takable) ⊎ (colour_of entries node ≢ colour_of entries m)

-- Option p stands for the item of node m, which is takable.
pub record CoversItem (takable options : ℕ) (entries : List Entry) (m p : ℕ) : Type 0 where
  pub can_take : item_of entries m < takable
  pub is : p ≡ options + item_of entries m

abbrev pub ExcludesAt : ℕ → ℕ → ℕ → List Entry → ℕ → ℕ → Type 0
ExcludesAt takable items options entries m p =
    NodeClashes takable items entries m p ⊎ CoversItem takable options entries m p

-- Choosing option o hides p.
pub record Excludes (takable items options : ℕ) (entries : List Entry) (o p : ℕ) : Type 0 where
  pub node : ℕ
  pub from : items ≤ node
  pub to : node < length entries
  pub option : option_of entries node ≡ o
  pub excludes : ExcludesAt takable items options entries node p

-- Two options share an item that is takable or has two colours.
pub record NodesClash (takable items : ℕ) (entries : List Entry) (o p : ℕ) : Type 0 where
  pub node : ℕ
  pub from : items ≤ node
  pub to : node < length entries
  pub option : option_of entries node ≡ o
  pub clashes : NodeClashes takable items entries node p
