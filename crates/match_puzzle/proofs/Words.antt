-- The words of a puzzle's tiles.
use Rattle.std.proofs.lemmas.List.{length-map}
use Rattle.std.proofs.Common.{◌≡◌, ◌<◌, ◌≤◌, ℕ, List, [], length, map, get_or, arith, ap, sym, ◌∙◌, IsTrue, MatchBool, Bool, true, false, ltb, lt-ltb, Some, slice_get, refl, zero, suc, ◌∷◌}
use Rattle.std.proofs.lemmas.Bool.{ltb-true}
use borrow.Author.Tests.{ltb-true}
use Rattle.std.proofs.lemmas.List.{get_or-map, length-map}
use Rattle.match_board.proofs.TurnsLemmas.{whole_turn}
use Rattle.match_board.specs.Board.{side_count}
use Rattle.match_board.specs.declared.figures.Figure.{Figure}
use Rattle.match_board.specs.declared.figures.Figure.TheVariants.{Rectangle, Triangle, Hexagon, Shape}
use Rattle.match_board.specs.Tile.{word}
use Rattle.match_board.specs.Turns.{IsPeriod}
use Rattle.match_board.specs.declared.tiles.Tile.{Tile}
use Rattle.match_puzzle.specs.Puzzle.{Task, IsPuzzle, IsBelowPeriod, IsLegal}
use Rattle.match_puzzle.specs.Tables.{IsTurnCount}
use Rattle.match_puzzle.specs.declared.placements.Placement.{Placement}

-- the word of the tile that was read
pub word_at : (ts : List Tile) (i : ℕ) (t : Tile) → i < length ts → t ≡ get_or ts i t → get_or (map word ts) i [] ≡ word t
word_at ts i t lt e = get_or-map word ts i t [] lt ∙ ap word (sym e)

-- a cell has sides
pub some_sides : (s : Figure) → 1 ≤ side_count s
some_sides (Rectangle width height) = omega arith
some_sides (Triangle size) = omega arith
some_sides (Hexagon size) = omega arith
some_sides (Shape width height mask) = omega arith

-- a cell has at most four sides
pub few_sides : (s : Figure) → side_count s ≤ 4
few_sides (Rectangle width height) = omega arith
few_sides (Triangle size) = omega arith
few_sides (Hexagon size) = omega arith
few_sides (Shape width height mask) = omega arith

-- a word has one period
pub one_period : {word : List ℕ} {m n : ℕ} → IsPeriod word m → IsPeriod word n → m ≡ n
one_period {word} {m} {n} a b = omega (arith, a.least n b.some b.same, b.least m a.some a.same)

-- the word of a tile that was read behind the puzzle
pub inside_words : (words : List (List ℕ)) (ts : List Tile) (i : ℕ) (t : Tile) → map word ts ≡ words → i < length words → t ≡ get_or ts i t → word t ≡ get_or words i []
inside_words words ts i t e lt is =
    let long : i < length ts = omega (arith, ap length e, length-map ts word) in
    sym (word_at ts i t long is) ∙ ap (λ (ws : List (List ℕ)). get_or ws i []) e

-- a legal turn is below the number of sides
pub legal_below : (p : Task) (x : Placement) → IsPuzzle p → IsLegal p x → x.turn < side_count p.board
unfolding IsBelowPeriod
legal_below p x is legal = by_turns p.turns legal.turn
  where
    word_sides : length (get_or p.words x.tile []) ≡ side_count p.board
    word_sides = is.sides x.tile legal.tile

    some : 1 ≤ side_count p.board
    some = some_sides p.board

    by_turns : (b : Bool) → MatchBool b (IsBelowPeriod (get_or p.words x.tile []) x.turn) (x.turn ≡ 0) → x.turn < side_count p.board
    by_turns true h = omega (arith, h.2, h.1.least (length (get_or p.words x.tile [])) (omega (arith, word_sides, some)) (whole_turn (get_or p.words x.tile [])), word_sides)
    by_turns false h = omega (arith, h, some)

-- the tile whose word stands at a place
pub tile_of_word : (ts : List Tile) (i : ℕ) → i < length ts → (t : Tile) × (slice_get ts i ≡ Some t) × (get_or (map word ts) i [] ≡ word t)
tile_of_word [] i lt = absurd (omega arith)
tile_of_word (t ∷ ts) zero lt = (t, refl, refl)
tile_of_word (t ∷ ts) (suc i) lt = tile_of_word ts i (omega arith)

-- A turn below the number of legal ones is legal, and no other.
pub legal_by_count : (p : Task) (x : Placement) (count : ℕ) → x.tile < length p.words → IsTurnCount p x.tile count → (IsTrue (ltb x.turn count) → IsLegal p x) × (IsLegal p x → IsTrue (ltb x.turn count))
unfolding IsBelowPeriod
legal_by_count p x count lt is = (λ h. record { tile = lt; turn = turn p.turns is (ltb-true x.turn count h) }, λ h. lt-ltb x.turn count (below p.turns is h.turn))
  where
    turn : (b : Bool) → MatchBool b (IsPeriod (get_or p.words x.tile []) count) (count ≡ 1) → x.turn < count → MatchBool b (IsBelowPeriod (get_or p.words x.tile []) x.turn) (x.turn ≡ 0)
    turn true is lt = (count, is, lt)
    turn false is lt = omega arith

    below : (b : Bool) → MatchBool b (IsPeriod (get_or p.words x.tile []) count) (count ≡ 1) → MatchBool b (IsBelowPeriod (get_or p.words x.tile []) x.turn) (x.turn ≡ 0) → x.turn < count
    below true is h = omega (arith, one_period is h.1, h.2)
    below false is h = omega arith
