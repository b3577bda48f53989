-- Options that can't be in one solution of an exact cover with colours (Knuth, TAOCP 4B, 7.2.2.1).
use Rattle.std.specs.Prelude.{◌≡◌, ◌≢◌, ◌⊎◌, ◌<◌, ℕ, List, Some, Contains, length, slice_get}
use Rattle.xcc_form.specs.ExactCover.{Cover, HasPrimary, HasColour}

-- Both options have a primary item.
pub record ShareAnItem (x : Cover) (option other : ℕ) : Type 0 where
  pub item : ℕ
  pub one : HasPrimary x option item
  pub two : HasPrimary x other item

-- The options give a secondary item two colours.
pub record GiveTwoColours (x : Cover) (option other : ℕ) : Type 0 where
  pub item : ℕ
  pub colour : ℕ
  pub other_colour : ℕ
  pub one : HasColour x option item colour
  pub two : HasColour x other item other_colour
  pub differ : colour ≢ other_colour

-- The options share a primary item, or give a secondary item two colours.
abbrev pub Clash : Cover → (option other : ℕ) → Type 0
Clash x option other = ShareAnItem x option other ⊎ GiveTwoColours x option other

-- options that there are, of which no two clash
pub record IsPartialSolution (x : Cover) (chosen : List ℕ) : Type 0 where
  pub real : (option : ℕ) → Contains chosen option → option < length x.options
  pub apart : (place place' option other : ℕ) → place < place' → slice_get chosen place ≡ Some option
      → slice_get chosen place' ≡ Some other → Clash x option other → ⊥

-- The option goes with what is chosen: it clashes with no chosen option.
pub record IsOpen (x : Cover) (chosen : List ℕ) (option : ℕ) : Type 0 where
  pub real : option < length x.options
  pub free : (other : ℕ) → Contains chosen other → Clash x other option → ⊥

-- an open option that has the primary item
pub record IsOpenAt (x : Cover) (chosen : List ℕ) (item option : ℕ) : Type 0 where
  pub open_option : IsOpen x chosen option
  pub at : HasPrimary x option item
