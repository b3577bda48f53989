-- Sets of placements, by number: four turns to a tile.
use Rattle.std.specs.Prelude.{◌≡◌, ◌≢◌, ◌⊎◌, ◌<◌, ◌/◌, ◌%◌, ◌+◌, ◌*◌, ℕ, List, [], length, slice_index, slice_index_or}
use Rattle.match_limits.specs.declared.TheConstants.{MOST_COLOURS}
use Rattle.match_limits.specs.Listing.{IsListing}
use Rattle.match_board.specs.Turns.{shown}
use Rattle.match_board.specs.Board.{side_count}
use Rattle.match_puzzle.specs.Puzzle.{Task, IsLegal, colour_of, mate_of}
use Rattle.match_board.specs.Mates.{mate_in}
use Rattle.match_puzzle.specs.Prefix.{Prefix, IsUnused}
use Rattle.match_puzzle.specs.declared.placements.Placement.{Placement}
use Rattle.match_puzzle.specs.declared.placement_sets.TheConstants.{NO_COLOUR}

-- the placement with this number
abbrev pub numbered : ℕ → Placement
numbered n = record { tile = n / 4; turn = n % 4 }

-- The word shows the colour on the side after these turns.
abbrev pub Shows : List ℕ → (colour side turn : ℕ) → Type 0
Shows word colour side turn = (side < length word) × (shown word turn side ≡ colour)

-- The numbers are those of the words' placements that show on the side what is asked: a colour, with one more nothing
-- in particular, or past that what nothing shows.
abbrev pub AreShowing : List (List ℕ) → (asked side : ℕ) → List ℕ → Type 0
AreShowing words asked side numbers =
    IsListing ◌<◌
    (λ n. (n / 4 < length words) × (asked ≢ MOST_COLOURS → Shows (slice_index_or words (n / 4) []) asked side (n % 4)))
    numbers

-- The table has these sets, four sides for each colour and for two more.
pub record AreShowingSets (words : List (List ℕ)) (table : List (List ℕ)) : Type 0 where
  pub long : length table ≡ 4 * (NO_COLOUR + 1)
  pub is : (place : ℕ) → place < length table → AreShowing words (place / 4) (place % 4) (slice_index_or table place [])

-- The colours are those that the word shows after these turns.
abbrev pub AreColoursAfter : (word : List ℕ) (turn : ℕ) (colours : List ℕ) → Type 0
AreColoursAfter word turn colours =
    (side : ℕ) → side < length word
    → (slice_index colours side ≡ shown word turn side) × (slice_index colours side < MOST_COLOURS)

-- The table has what the words show, four turns to a word.
pub record AreShownColours (words : List (List ℕ)) (table : List (List ℕ)) : Type 0 where
  pub long : length table ≡ 4 * length words
  pub is : (place : ℕ) → place < length table
      → AreColoursAfter (slice_index_or words (place / 4) []) (place % 4) (slice_index_or table place [])

-- The one table has the mates of what the other has.
pub record AreMatesShown (mates : List ℕ) (shown asked : List (List ℕ)) : Type 0 where
  pub long : length asked ≡ length shown
  pub is : (place side : ℕ) → place < length shown → side < 4
      → slice_index (slice_index_or asked place []) side ≡ mate_in mates (slice_index (slice_index_or shown place []) side)

-- The colours are those that the placement shows.
abbrev pub ShowsColours : Task → Placement → (colours : List ℕ) → Type 0
ShowsColours p x colours =
    (side : ℕ) → side < side_count p.board
    → (slice_index colours side ≡ colour_of p x side) × (slice_index colours side < MOST_COLOURS)

-- The colours are those that match what the placement shows: the mates of these.
abbrev pub AsksColours : Task → Placement → (colours : List ℕ) → Type 0
AsksColours p x colours =
    (side : ℕ) → side < side_count p.board
    → (slice_index colours side ≡ mate_of p (colour_of p x side)) × (slice_index colours side < MOST_COLOURS)

-- What the number says of the colours that are asked: there is none, this one alone, or two, which nothing shows.
abbrev pub TellsOf : (ℕ → Type 0) → (number : ℕ) → Type 0
TellsOf Asked number =
    ((number ≡ MOST_COLOURS) × ((colour : ℕ) → Asked colour → ⊥))
    ⊎ ((number < MOST_COLOURS) × Asked number × ((colour : ℕ) → Asked colour → number ≡ colour))
    ⊎ ((number ≡ NO_COLOUR) × (one : ℕ) × (other : ℕ) × Asked one × Asked other × (one ≢ other))

-- What two ask for together: what the second does, where the first asks for nothing or the same, and else what nothing
-- shows.
abbrev pub JoinsTo : (first second joined : ℕ) → Type 0
JoinsTo first second joined =
    (((first ≡ MOST_COLOURS) ⊎ (first ≡ second)) × (joined ≡ second))
    ⊎ ((first ≢ MOST_COLOURS) × (first ≢ second) × (joined ≡ NO_COLOUR))

-- The numbers are those of the legal placements.
abbrev pub AreLegalNumbers : Task → List ℕ → Type 0
AreLegalNumbers p numbers = IsListing ◌<◌ (λ n. IsLegal p (numbered n)) numbers

-- The numbers are those of the legal placements of tiles that stand nowhere.
abbrev pub AreFreeNumbers : Task → Prefix → List ℕ → Type 0
AreFreeNumbers p q numbers = IsListing ◌<◌ (λ n. IsLegal p (numbered n) × IsUnused q (n / 4)) numbers

-- Each tile may be placed unturned.
abbrev pub AreUnturnedLegal : Task → Type 0
AreUnturnedLegal p = (tile : ℕ) → tile < length p.words → IsLegal p (record { tile = tile; turn = 0 })
