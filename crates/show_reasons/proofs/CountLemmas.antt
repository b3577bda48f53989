-- How often an arrangement shows a colour.
use Rattle.std.proofs.Common.{◌≡◌, ◌<◌, ◌≤◌, ◌+◌, ◌*◌, ◌/◌, ◌%◌, ℕ, zero, suc, Bool, true, false, List, [], ◌∷◌, cond, length, get_or, count_by, ltb, refl, ap, sym, ◌∙◌, arith}
use Rattle.std.proofs.lemmas.Bool.{eqb-true, ltb-true}
use Rattle.std.proofs.lemmas.Option.{slice_get_within}
use Rattle.match_board.specs.Board.{cell_count, side_count}
use Rattle.match_board.specs.Turns.{shown}
use Rattle.match_board.specs.declared.figures.Figure.{Figure}
use Rattle.match_board.specs.declared.figures.Figure.TheVariants.{Rectangle, Triangle, Hexagon, Shape}
use Rattle.match_puzzle.proofs.Pigeonhole.{all_placed}
use Rattle.match_puzzle.specs.Arrangement.{Stands, IsArrangement}
use Rattle.match_puzzle.specs.Puzzle.{Task, IsPuzzle, AllHaveToStand, colour_of, word_of}
use Rattle.match_puzzle.specs.declared.placements.Placement.{Placement}
use Rattle.match_puzzle.proofs.ArrangementLemmas.{read_stands, standing_is}
use Rattle.match_puzzle.proofs.Words.{legal_below}
use Rattle.show_text.specs.Facts.{is_colour, tile_count}
use Rattle.show_reasons.proofs.Totals.{total, total_same, total_fours, total_list, carried, Goes}
use Rattle.show_reasons.proofs.MeetLemmas.{of_number}

-- ---- a turned word

-- 1 for a side below so many that has the colour, and 0 for another
abbrev pub one_at : (sides colour side shows : ℕ) → ℕ
one_at sides colour side shows = cond (ltb side sides) (cond (is_colour colour shows) 1 0) 0

-- how many of so many sides of a turned word have the colour
abbrev ones_in : (sides colour : ℕ) → (word : List ℕ) → (turn : ℕ) → ℕ
ones_in sides colour word turn =
    one_at sides colour 0 (shown word turn 0) + one_at sides colour 1 (shown word turn 1) + one_at sides colour 2 (shown word turn 2) + one_at sides colour 3 (shown word turn 3)

ones_in_three : (colour a b c turn : ℕ) → turn < 3 → ones_in 3 colour (a ∷ b ∷ c ∷ []) turn ≡ count_by (is_colour colour) (a ∷ b ∷ c ∷ [])
unfolding shown
ones_in_three colour a b c zero lt = omega arith
ones_in_three colour a b c (suc zero) lt = omega arith
ones_in_three colour a b c (suc (suc zero)) lt = omega arith
ones_in_three colour a b c (suc (suc (suc turn))) lt = absurd (omega (arith, lt))

ones_in_four : (colour a b c d turn : ℕ) → turn < 4 → ones_in 4 colour (a ∷ b ∷ c ∷ d ∷ []) turn ≡ count_by (is_colour colour) (a ∷ b ∷ c ∷ d ∷ [])
unfolding shown
ones_in_four colour a b c d zero lt = omega arith
ones_in_four colour a b c d (suc zero) lt = omega arith
ones_in_four colour a b c d (suc (suc zero)) lt = omega arith
ones_in_four colour a b c d (suc (suc (suc zero))) lt = omega arith
ones_in_four colour a b c d (suc (suc (suc (suc turn)))) lt = absurd (omega (arith, lt))

three_sides : (colour : ℕ) (word : List ℕ) (turn : ℕ) → length word ≡ 3 → turn < 3 → ones_in 3 colour word turn ≡ count_by (is_colour colour) word
three_sides colour [] turn long lt = absurd (omega (arith, long))
three_sides colour (a ∷ []) turn long lt = absurd (omega (arith, long))
three_sides colour (a ∷ b ∷ []) turn long lt = absurd (omega (arith, long))
three_sides colour (a ∷ b ∷ c ∷ []) turn long lt = ones_in_three colour a b c turn lt
three_sides colour (a ∷ b ∷ c ∷ d ∷ word) turn long lt = absurd (omega (arith, long))

four_sides : (colour : ℕ) (word : List ℕ) (turn : ℕ) → length word ≡ 4 → turn < 4 → ones_in 4 colour word turn ≡ count_by (is_colour colour) word
four_sides colour [] turn long lt = absurd (omega (arith, long))
four_sides colour (a ∷ []) turn long lt = absurd (omega (arith, long))
four_sides colour (a ∷ b ∷ []) turn long lt = absurd (omega (arith, long))
four_sides colour (a ∷ b ∷ c ∷ []) turn long lt = absurd (omega (arith, long))
four_sides colour (a ∷ b ∷ c ∷ d ∷ []) turn long lt = ones_in_four colour a b c d turn lt
four_sides colour (a ∷ b ∷ c ∷ d ∷ e ∷ word) turn long lt = absurd (omega (arith, long))

-- A turn shows each colour as often as it is in the word.
pub turned_ones : (s : Figure) (colour : ℕ) (word : List ℕ) (turn : ℕ) → length word ≡ side_count s → turn < side_count s → ones_in (side_count s) colour word turn ≡ count_by (is_colour colour) word
turned_ones (Rectangle width height) colour word turn long lt = four_sides colour word turn long lt
turned_ones (Triangle size) colour word turn long lt = three_sides colour word turn long lt
turned_ones (Hexagon size) colour word turn long lt = three_sides colour word turn long lt
turned_ones (Shape width height mask) colour word turn long lt = four_sides colour word turn long lt

-- ---- the sides of an arrangement

module _ (p : Task) (a : List Placement) where
  -- what stands at the cell
  abbrev pub at : (cell : ℕ) → Placement
  at cell = get_or a cell (record { tile = 0; turn = 0 })

  -- 1 for a side that shows the colour, and 0 for another: four to a cell
  abbrev pub shows : (colour n : ℕ) → ℕ
  shows colour n = one_at (side_count p.board) colour (n % 4) (colour_of p (at (n / 4)) (n % 4))

  -- how many sides of tiles have the colour, tile by tile
  abbrev of_tile : (colour tile : ℕ) → ℕ
  of_tile colour tile = count_by (is_colour colour) (word_of p tile)

  shows_at : (colour cell side : ℕ) → side < 4 → shows colour (4 * cell + side) ≡ one_at (side_count p.board) colour side (colour_of p (at cell) side)
  shows_at colour cell side lt =
      let is = of_number cell side lt in
      ap (λ k. one_at (side_count p.board) colour k (colour_of p (at ((4 * cell + side) / 4)) k)) is.1
      ∙ ap (λ c. one_at (side_count p.board) colour side (colour_of p (at c) side)) is.0

  -- a side that is counted is one of the cell's, and shows the colour
  pub shows_tells : (colour n : ℕ) → 0 < shows colour n → (n % 4 < side_count p.board) × (colour_of p (at (n / 4)) (n % 4) ≡ colour)
  shows_tells colour n some = by_side (ltb (n % 4) (side_count p.board)) refl some
    where
      by_colour : (b : Bool) → is_colour colour (colour_of p (at (n / 4)) (n % 4)) ≡ b → 0 < cond b 1 0 → colour_of p (at (n / 4)) (n % 4) ≡ colour
      by_colour true e lt = eqb-true (colour_of p (at (n / 4)) (n % 4)) colour e
      by_colour false e lt = absurd (omega (arith, lt))

      by_side : (b : Bool) → ltb (n % 4) (side_count p.board) ≡ b → 0 < cond b (cond (is_colour colour (colour_of p (at (n / 4)) (n % 4))) 1 0) 0 →
          (n % 4 < side_count p.board) × (colour_of p (at (n / 4)) (n % 4) ≡ colour)
      by_side true e lt = (ltb-true (n % 4) (side_count p.board) e, by_colour (is_colour colour (colour_of p (at (n / 4)) (n % 4))) refl lt)
      by_side false e lt = absurd (omega (arith, lt))

  -- and such a side is counted once
  pub shows_one : (colour n : ℕ) → n % 4 < side_count p.board → colour_of p (at (n / 4)) (n % 4) ≡ colour → shows colour n ≡ 1
  shows_one colour n lt is = grind arith

  -- none is counted twice
  pub shows_few : (colour n : ℕ) → shows colour n ≤ 1
  shows_few colour n = by_side (ltb (n % 4) (side_count p.board)) (is_colour colour (colour_of p (at (n / 4)) (n % 4)))
    where
      by_side : (b c : Bool) → cond b (cond c 1 0) 0 ≤ 1
      by_side true true = omega arith
      by_side true false = omega arith
      by_side false c = omega arith

  module _ (puzzle : IsPuzzle p) (is : IsArrangement p a) where
    pub stands_at : (cell : ℕ) → cell < cell_count p.board → Stands a cell (at cell)
    stands_at cell lt = read_stands a cell _ (let inside : cell < length a = omega (arith, is.cells, lt) in inside)

    of_cell : (colour cell : ℕ) → cell < cell_count p.board → shows colour (4 * cell) + shows colour (4 * cell + 1) + shows colour (4 * cell + 2) + shows colour (4 * cell + 3) ≡ of_tile colour (at cell).tile
    unfolding colour_of
    of_cell colour cell lt =
        let legal = is.legal cell (at cell) (stands_at cell lt) in
        let first : 4 * cell ≡ 4 * cell + 0 = omega arith in
        let turned = turned_ones p.board colour (word_of p (at cell).tile) (at cell).turn (puzzle.sides (at cell).tile legal.tile) (legal_below p (at cell) puzzle legal) in
        omega (arith, ap (shows colour) first, shows_at colour cell 0 (omega arith), shows_at colour cell 1 (omega arith), shows_at colour cell 2 (omega arith), shows_at colour cell 3 (omega arith), turned)

    -- how many sides of the tiles that stand have the colour
    abbrev standing : (colour : ℕ) → ℕ
    standing colour = total (λ cell. of_tile colour (at cell).tile) (cell_count p.board)

    -- No tile stands at two cells.
    tiles_few : (colour : ℕ) → standing colour ≤ total (of_tile colour) (length p.words)
    tiles_few colour =
        carried (λ cell. of_tile colour (at cell).tile) (of_tile colour) (cell_count p.board) (length p.words) (λ cell tile. (cell < cell_count p.board) × ((at cell).tile ≡ tile))
        (λ cell lt some. ((at cell).tile, (is.legal cell (at cell) (stands_at cell lt)).tile, (lt, refl), omega arith))
        (λ cell cell' tile r r'. is.once cell cell' (at cell) (at cell') (stands_at cell r.0) (stands_at cell' r'.0) (r.1 ∙ sym r'.1))

    -- Where all have to stand, each stands at one.
    tiles_once : AllHaveToStand p → (colour : ℕ) → standing colour ≡ total (of_tile colour) (length p.words)
    tiles_once all colour = omega (arith, tiles_few colour, back)
      where
        back : total (of_tile colour) (length p.words) ≤ standing colour
        back =
            carried (of_tile colour) (λ cell. of_tile colour (at cell).tile) (length p.words) (cell_count p.board) (λ tile cell. (at cell).tile ≡ tile)
            (λ tile lt some. found tile (all_placed p a all is tile lt))
            (λ tile tile' cell r r'. sym r ∙ r')
          where
            found : (tile : ℕ) → (cell : ℕ) × (x : Placement) × Stands a cell x × (x.tile ≡ tile) → Goes (of_tile colour) (λ cell. of_tile colour (at cell).tile) (λ tile cell. (at cell).tile ≡ tile) (cell_count p.board) tile
            found tile w =
                let here : (at w.0).tile ≡ tile = ap (λ (x : Placement). x.tile) (standing_is a w.0 w.1 _ w.2) ∙ w.3 in
                let same = ap (of_tile colour) here in
                (w.0, inside w.0 w.1 w.2, here, omega (arith, same))
              where
                inside : (cell : ℕ) (x : Placement) → Stands a cell x → cell < cell_count p.board
                inside cell x s = let lt = slice_get_within a cell x s in omega (arith, lt, is.cells)

    -- An arrangement shows each colour as often as the tiles that stand have it,
    shown_standing : (colour : ℕ) → total (shows colour) (4 * cell_count p.board) ≡ standing colour
    shown_standing colour =
        total_fours (shows colour) (cell_count p.board)
        ∙ total_same _ (λ cell. of_tile colour (at cell).tile) (cell_count p.board) (λ cell lt. of_cell colour cell lt)

    -- so at most as often as all tiles have it,
    pub shown_few : (colour : ℕ) → total (shows colour) (4 * cell_count p.board) ≤ tile_count p.words colour
    shown_few colour = omega (arith, shown_standing colour, tiles_few colour, total_list (count_by (is_colour colour)) p.words [])

    -- and where all have to stand just as often.
    pub shown_often : AllHaveToStand p → (colour : ℕ) → total (shows colour) (4 * cell_count p.board) ≡ tile_count p.words colour
    shown_often all colour = shown_standing colour ∙ tiles_once all colour ∙ total_list (count_by (is_colour colour)) p.words []
