-- How a word of colours turns.
use Rattle.std.specs.Prelude.{◌≡◌, ◌⊎◌, ◌<◌, ◌≤◌, ◌+◌, ◌*◌, ◌%◌, ◌^◌, ℕ, List, [], ◌∷◌, All, Contains, length}
use Rattle.std.specs.Prelude.{slice_index, slice_index_or}
use Rattle.match_limits.specs.Listing.{IsListing}

-- the colour on side `side` of a tile with this word, after `turn` turns
unfoldable pub shown : List ℕ → (turn side : ℕ) → ℕ
shown word turn side = slice_index word ((side + turn) % length word)

-- After `turns` turns the word is the same as before.
unfoldable pub IsSameAfter : List ℕ → ℕ → Type 0
IsSameAfter word turns = (side : ℕ) → side < length word → shown word turns side ≡ shown word 0 side

-- the fewest turns, at least one, that give the same word
pub record IsPeriod (word : List ℕ) (turns : ℕ) : Type 0 where
  pub some : 1 ≤ turns
  pub same : IsSameAfter word turns
  pub least : (fewer : ℕ) → 1 ≤ fewer → IsSameAfter word fewer → turns ≤ fewer

-- The other word is this one after some turns.
pub record IsTurnOf (word other : List ℕ) : Type 0 where
  pub long : length other ≡ length word
  pub turns : ℕ
  pub same : (side : ℕ) → side < length word → slice_index other side ≡ shown word turns side

-- The one has the lesser colour where the two first differ.
abbrev pub WordComesBefore : (word other : List ℕ) → Type 0
WordComesBefore [] other = ⊥
WordComesBefore (colour ∷ word) [] = ⊥
WordComesBefore (colour ∷ word) (other_colour ∷ other) =
    (colour < other_colour) ⊎ ((colour ≡ other_colour) × WordComesBefore word other)

-- a word of `sides` sides, each with one of `colours` colours; no turn of the word comes before it
pub record IsLeastWord (sides colours : ℕ) (word : List ℕ) : Type 0 where
  pub long : length word ≡ sides
  pub coloured : All (λ colour. colour < colours) word
  pub least : (other : List ℕ) → IsTurnOf word other → WordComesBefore other word → ⊥

-- The least word of each class of words that turn into each other, rising (MacMahon 1921).
abbrev pub AreLeastWords : (sides colours : ℕ) → List (List ℕ) → Type 0
AreLeastWords sides colours words = IsListing WordComesBefore (IsLeastWord sides colours) words

-- There are more than `most` least words: a rising list of them has more.
pub record HasMoreLeastWords (sides colours most : ℕ) : Type 0 where
  pub words : List (List ℕ)
  pub least : (word : List ℕ) → Contains words word → IsLeastWord sides colours word
  pub rising : (i j : ℕ) (d : List ℕ) → i < j → j < length words
      → WordComesBefore (slice_index_or words i d) (slice_index_or words j d)
  pub more : most < length words

-- At the first side where the word after `turns` turns differs from the word itself, it has the lesser colour.
pub record IsLessAfter (word : List ℕ) (turns : ℕ) : Type 0 where
  pub side : ℕ
  pub side_in : side < length word
  pub same : (before : ℕ) → before < side → shown word turns before ≡ shown word 0 before
  pub less : shown word turns side < shown word 0 side

-- how many words of the same length, over `colours` colours, come before the word
unfoldable pub number_of : (colours : ℕ) → List ℕ → ℕ
number_of colours [] = 0
number_of colours (colour ∷ word) = colour * colours ^ length word + number_of colours word
