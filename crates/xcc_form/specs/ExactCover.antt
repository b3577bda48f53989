-- Exact covers with colours (Knuth, TAOCP 4B, 7.2.2.1).
use Rattle.std.specs.Prelude.{◌≡◌, ◌<◌, ◌≤◌, ◌+◌, ℕ, List, [], ◌∷◌, Some, Contains, length, slice_get}
use Rattle.xcc_form.specs.declared.edges.Edge.{Edge}

-- an option: the items that it takes, and its secondary items with a colour each
pub record ItemSet : Type 0 where
  pub primary : List ℕ
  pub coloured : List Edge

-- What is asked: how many items there are, and the options. First come the primary ones, which have to be taken, then
-- those that may be taken or not, then the secondary ones with colours.
pub record Cover : Type 0 where
  pub primaries : ℕ
  pub takable : ℕ
  pub secondaries : ℕ
  pub options : List ItemSet

-- how many items all options have
abbrev pub entry_count : List ItemSet → ℕ
entry_count [] = 0
entry_count (o ∷ options) = length o.primary + length o.coloured + entry_count options

-- The option takes the item.
abbrev pub HasPrimary : Cover → (option item : ℕ) → Type 0
HasPrimary x option item = (o : ItemSet) × (slice_get x.options option ≡ Some o) × Contains o.primary item

-- The secondary item is one of the option's, and has this colour there.
abbrev pub HasColour : Cover → (option item colour : ℕ) → Type 0
HasColour x option item colour =
    (o : ItemSet) × (slice_get x.options option ≡ Some o)
    × Contains o.coloured (record { item = item; colour = colour })

-- The primary item is in exactly one of the chosen options.
abbrev pub IsInExactlyOne : Cover → (chosen : List ℕ) → (item : ℕ) → Type 0
IsInExactlyOne x chosen item =
    (option : ℕ) × Contains chosen option × HasPrimary x option item
    × ((other : ℕ) → Contains chosen other → HasPrimary x other item → other ≡ option)

-- A set of options, such that each primary item is in exactly one of them, no item is taken by two of them, and each
-- secondary item has one colour in all of them that have it.
pub record IsSolution (x : Cover) (chosen : List ℕ) : Type 0 where
  pub real : (option : ℕ) → Contains chosen option → option < length x.options
  pub different : (place place' option : ℕ) → slice_get chosen place ≡ Some option
      → slice_get chosen place' ≡ Some option → place ≡ place'
  pub covered : (item : ℕ) → item < x.primaries → IsInExactlyOne x chosen item
  pub apart : (item option option' : ℕ) → Contains chosen option → Contains chosen option'
      → HasPrimary x option item → HasPrimary x option' item → option ≡ option'
  pub coloured : (item option option' colour colour' : ℕ) → Contains chosen option → Contains chosen option'
      → HasColour x option item colour → HasColour x option' item colour' → colour ≡ colour'

-- Each option is a set of items that there are, at least one of them primary, and none of them twice.
pub record IsCover (x : Cover) : Type 0 where
  pub some : (option : ℕ) → option < length x.options → (item : ℕ) × HasPrimary x option item
  pub few : x.primaries ≤ x.takable
  pub primary : (option item : ℕ) → HasPrimary x option item → item < x.takable
  pub secondary : (option item colour : ℕ) → HasColour x option item colour → (x.takable ≤ item)
      × (item < x.takable + x.secondaries)
  pub once_primary : (option place place' item : ℕ) (o : ItemSet) → slice_get x.options option ≡ Some o
      → slice_get o.primary place ≡ Some item → slice_get o.primary place' ≡ Some item → place ≡ place'
  pub once_coloured : (option place place' : ℕ) (o : ItemSet) (e f : Edge) → slice_get x.options option ≡ Some o
      → slice_get o.coloured place ≡ Some e → slice_get o.coloured place' ≡ Some f → e.item ≡ f.item → place ≡ place'
