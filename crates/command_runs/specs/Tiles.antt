-- What a list of tiles prints.
use Rattle.std.specs.Prelude.{◌≡◌, ◌≤◌, ℕ, List, length, map}
use Rattle.match_limits.specs.declared.TheConstants.{MOST_CLASSES}
use Rattle.match_board.specs.Turns.{AreLeastWords, HasMoreLeastWords}
use Rattle.match_text.specs.PuzzleSpelling.{tile_words, tiles_spelling}
use Rattle.text_words.specs.Spelling.{text_of}
use Rattle.command_runs.specs.declared.faults.RunFault.{RunFault}
use Rattle.command_runs.specs.declared.faults.RunFault.TheVariants as runs

-- The words are those of the tiles, one for each class of words that turn into each other, and few enough to be listed.
abbrev pub AreTileWords : (sides colours : ℕ) → List (List ℕ) → Type 0
AreTileWords sides colours words = AreLeastWords sides colours words × (length words ≤ MOST_CLASSES)

-- What a list of tiles prints, of no text.
abbrev pub TilesGive : (sides colours : ℕ) → (nothing : Unit {0}) → (text : List ℕ) → (ends : Unit {0}) → Type 0
TilesGive sides colours nothing text ends =
    (words : List (List ℕ)) × AreTileWords sides colours words × (text ≡ tiles_spelling words)

-- What a list of tiles prints by lines, of no text: for each tile the line that a puzzle's text has.
abbrev pub TileLinesGive : (sides colours : ℕ) → (nothing : Unit {0}) → (text : List ℕ) → (ends : Unit {0}) → Type 0
TileLinesGive sides colours nothing text ends =
    (words : List (List ℕ)) × AreTileWords sides colours words × (text ≡ text_of (map tile_words words))

-- What a fault says of the tiles: there are more than are listed, or it is want of memory.
abbrev pub TilesFail : (sides colours : ℕ) → (nothing : Unit {0}) → RunFault → Type 0
TilesFail sides colours nothing runs.Tiles = HasMoreLeastWords sides colours MOST_CLASSES
TilesFail sides colours nothing runs.Memory = Unit {0}
TilesFail sides colours nothing fault = ⊥
