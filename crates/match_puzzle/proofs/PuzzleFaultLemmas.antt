-- The first fault of a puzzle.
use Rattle.std.proofs.Common.{◌≡◌, ◌<◌, ℕ, List, Bool, true, false, MatchBool, length, map, arith, refl, sym, subst, inl, inr, ⊎_elim}
use Rattle.std.proofs.lemmas.List.{length-map}
use Rattle.match_board.specs.Tile.{word}
use Rattle.match_board.specs.declared.tiles.Tile.{Tile}
use Rattle.match_limits.specs.declared.TheConstants.{MOST_COLOURS}
use Rattle.match_board.specs.Board.{cell_count, side_count}
use Rattle.match_limits.specs.First.{AtMost, IsFirst, IsLeast}
use Rattle.match_puzzle.specs.Puzzle.{Task, AreClues, AreEnough, word_of}
use Rattle.match_board.specs.Borders.{StandsInRule, IsAsLongAsBorder}
use Rattle.match_puzzle.specs.PuzzleFaults.{PuzzleFails, BreaksCluesAt, puzzle_rank}
use Rattle.match_limits.proofs.ListLemmas.{contains_at}
use Rattle.match_puzzle.specs.declared.faults.PuzzleFault.{PuzzleFault}
use Rattle.match_puzzle.specs.declared.faults.PuzzleFault.TheVariants.{FixedTriangles, TileCount, TileSides, BadColour}
use Rattle.match_puzzle.specs.declared.faults.PuzzleFault.TheVariants.{BorderLength, Mates, Clue, Memory}
use Rattle.match_board.specs.Mates.{AreMates}
use Rattle.match_board.proofs.MateLemmas.{not_without}
use Rattle.match_limits.proofs.FirstLemmas.{sooner, not_after_number}

-- what the test of how many tiles there are says of their words
pub enough_words : (version cells : ℕ) (tiles : List Tile) (b : Bool) → b ≡ true → MatchBool b (AreEnough version cells (length tiles)) (AreEnough version cells (length tiles) → ⊥) → AreEnough version cells (length (map word tiles))
enough_words version cells tiles b e told =
    subst (AreEnough version cells) (sym (length-map tiles word)) (subst (λ x. MatchBool x (AreEnough version cells (length tiles)) (AreEnough version cells (length tiles) → ⊥)) e told)

-- a colour that there is not, where all before is right
pub first_bad_colour : (p : Task) (place : ℕ) → (side_count p.board ≡ 3 → p.turns ≡ false → ⊥) → AreEnough p.mating.version (cell_count p.board) (length p.words) →
    ((tile : ℕ) → tile < length p.words → length (word_of p tile) ≡ side_count p.board) → IsLeast (λ n. PuzzleFails p (BadColour n)) place → IsFirst puzzle_rank (PuzzleFails p) (BadColour place)
first_bad_colour p place triangles tiles sides least = record { occurs = least.holds; first = by_kind }
  where
    by_kind : (g : PuzzleFault) → PuzzleFails p g → AtMost (puzzle_rank (BadColour place)) (puzzle_rank g)
    by_kind FixedTriangles o = absurd (triangles o.0 o.1)
    by_kind TileCount o = absurd (o tiles)
    by_kind (TileSides tile) o = absurd (o.1 (sides tile o.0))
    by_kind (BadColour n) o = not_after_number _ 4 place n least o
    by_kind g o = sooner _ _ (omega arith)

-- a colour without its mate, where all before is right
pub first_bad_mate : (p : Task) (place : ℕ) → (side_count p.board ≡ 3 → p.turns ≡ false → ⊥) → AreEnough p.mating.version (cell_count p.board) (length p.words) →
    ((tile : ℕ) → tile < length p.words → length (word_of p tile) ≡ side_count p.board) → ((n colour : ℕ) → StandsInRule p.border n colour → colour < MOST_COLOURS) → IsAsLongAsBorder p.board p.border →
    IsLeast (λ n. PuzzleFails p (Mates n)) place → IsFirst puzzle_rank (PuzzleFails p) (Mates place)
first_bad_mate p place triangles tiles sides colours long least = record { occurs = least.holds; first = by_kind }
  where
    by_kind : (g : PuzzleFault) → PuzzleFails p g → AtMost (puzzle_rank (Mates place)) (puzzle_rank g)
    by_kind FixedTriangles o = absurd (triangles o.0 o.1)
    by_kind TileCount o = absurd (o tiles)
    by_kind (TileSides tile) o = absurd (o.1 (sides tile o.0))
    by_kind (BadColour n) o = absurd (omega (arith, colours n o.0 o.1, o.2))
    by_kind BorderLength o = absurd (o long)
    by_kind (Mates n) o = not_after_number _ 6 place n least o
    by_kind (Clue n) o = sooner _ _ (omega arith)
    by_kind Memory o = absurd o

-- a clue that the puzzle can't have, where all before is right
pub first_bad_clue : (p : Task) (number : ℕ) → (side_count p.board ≡ 3 → p.turns ≡ false → ⊥) → AreEnough p.mating.version (cell_count p.board) (length p.words) →
    ((tile : ℕ) → tile < length p.words → length (word_of p tile) ≡ side_count p.board) → ((n colour : ℕ) → StandsInRule p.border n colour → colour < MOST_COLOURS) → IsAsLongAsBorder p.board p.border → AreMates p.mating.mates →
    IsLeast (λ n. PuzzleFails p (Clue n)) number → IsFirst puzzle_rank (PuzzleFails p) (Clue number)
first_bad_clue p number triangles tiles sides colours long mates least = record { occurs = least.holds; first = by_kind }
  where
    by_kind : (g : PuzzleFault) → PuzzleFails p g → AtMost (puzzle_rank (Clue number)) (puzzle_rank g)
    by_kind FixedTriangles o = absurd (triangles o.0 o.1)
    by_kind TileCount o = absurd (o tiles)
    by_kind (TileSides tile) o = absurd (o.1 (sides tile o.0))
    by_kind (BadColour n) o = absurd (omega (arith, colours n o.0 o.1, o.2))
    by_kind BorderLength o = absurd (o long)
    by_kind (Mates n) o = absurd (⊎_elim (λ none. not_without p.mating.mates n (mates.each n none.0) none) (λ past. let few = mates.few in omega (arith, few, past.1)) o)
    by_kind (Clue n) o = not_after_number _ 7 number n least o
    by_kind Memory o = absurd o

-- no clue of a puzzle is one that it can't have
pub no_broken_clue : (p : Task) (n : ℕ) → AreClues p → BreaksCluesAt p n → ⊥
no_broken_clue p n are breaks =
    ⊎_elim
    (λ high. let cell = are.cells n breaks.0 breaks.1 in omega (arith, high, cell))
    (λ other.
    ⊎_elim
    (λ low. let order = are.rising low.0 n low.1 breaks.0 low.3 breaks.1 low.2 in let le = low.4 in omega (arith, order, le))
    (λ last.
    ⊎_elim
    (λ odd. odd (are.sides n breaks.0 breaks.1))
    (λ d.
    d.6
    (are.agree breaks.0.cell d.0 d.1 d.2 (record { cell_in = d.3.cell_in; side_in = d.3.side_in; asked = inl (d.3, d.4) })
    (record { cell_in = d.3.cell_in; side_in = d.3.side_in; asked = inr (breaks.0, contains_at p.clues n breaks.0 breaks.1, refl, d.5) })))
    last)
    other)
    breaks.2
