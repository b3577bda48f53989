-- Each cell of a drawing has its place.
use Rattle.std.proofs.Common.{◌≡◌, ◌<◌, ◌≤◌, ◌+◌, ◌*◌, ◌^◌, ℕ, Bool, nat_lt, List, [], Option, Some, None, length, get_or, slice_get, refl, ap, sym, subst, ◌∙◌, arith, ⊎_elim}
use Rattle.std.proofs.lemmas.Bool.Decides.{leb_tells}
use Rattle.std.proofs.lemmas.Fmt.{length-decimal-le}
use Rattle.std.proofs.lemmas.Option.{slice_get-get_or}
use Rattle.match_board.specs.Board.{cell_count, side_count, IsBoard, IsFilled, StandsAt}
use Rattle.match_board.specs.declared.figures.Figure.{Figure}
use Rattle.match_board.specs.declared.figures.Figure.TheVariants.{Rectangle, Triangle, Hexagon, Shape}
use Rattle.match_board.proofs.Places.{StandsAt-in_range}
use Rattle.match_puzzle.specs.Puzzle.{IsPuzzle}
use Rattle.match_puzzle.specs.Prefix.{Layout, IsPrefix}
use Rattle.match_puzzle.proofs.Prefixes.{inside}
use Rattle.show_text.specs.declared.faces.Face.{Face}
use Rattle.show_text.specs.Face.{IsFace, ShowsTile, ShowsRules}
use Rattle.show_text.specs.Rows.{IsAtPlace, IsRow, AreRows}
use Rattle.show_text.specs.declared.squares.Part.{Part}
use Rattle.show_text.specs.declared.squares.Part.TheVariants.{Top, Middle, Bottom}
use Rattle.show_text.specs.declared.triangles.Level.{Level}
use Rattle.show_text.specs.Pieces.{sheet_text}
use Rattle.show_text.specs.Squares.{square_part}
use Rattle.show_text.specs.Triangles.{roof_line, triangle_part, own_level, turned, above_base, rows_in}
use Rattle.show_text.specs.Drawing.{board_lines, digits_of}
use Rattle.show_text.specs.Laws.{HasFace, HasSquare, HasTriangle, DrawingLaw, TellingLaw, ShowAlike, points_up}
use Rattle.show_text.proofs.CleanLemmas.{AreCleanLines, same_bytes}
use Rattle.show_text.proofs.TellLemmas.{IsSound, AreSoundRows, face_signs, clean_square_lines, clean_triangle_lines, clean_roof, square_tells, triangle_tells}
use Rattle.show_text.proofs.PlaceLemmas.{FitsIn, FaceFits, AreFitting, square_at, triangle_at, triangle_below, length-square_part, length-triangle_part}

none_some : {X : Type 0} {x : X} → None ≡ Some x → ⊥
none_some e = cc

-- numbers of at most 1,000 cells have no more digits than there is room for
digits_enough : (count : ℕ) → count ≤ 1000 → (0 < digits_of count) × (count ≤ 10 ^ digits_of count)
digits_enough count most =
    ⊎_elim
    (λ few. rw few.0 (omega arith, few.1))
    (λ more. rw more.0 (⊎_elim
    (λ few. rw few.0 (omega arith, few.1))
    (λ many. rw many.0 (omega arith, most))
    (leb_tells count 100)))
    (leb_tells count 10)

-- The face's numbers are below these counts, of which that of the tiles is no less.
record IsBelow (cells tiles : ℕ) (face : Face) : Type 0 where
  cell : face.cell < cells
  tile : (tile : ℕ) → face.tile ≡ Some tile → tile < tiles
  enough : cells ≤ tiles
  most : tiles ≤ 1000

fits_in : (digits count : ℕ) (number : Option ℕ) → 0 < digits → count ≤ 10 ^ digits → count ≤ 1000 → ((n : ℕ) → number ≡ Some n → n < count) → FitsIn digits number
fits_in digits count None some room most below = tt
fits_in digits count (Some n) some room most below =
    let lt = below n refl in
    length-decimal-le digits n some (omega (arith, lt, room)) (omega (arith, lt, most))

face_fits : (cell_digits tile_digits cells tiles : ℕ) (face : Face) → 0 < cell_digits → 0 < tile_digits → cells ≤ 10 ^ cell_digits → tiles ≤ 10 ^ tile_digits → IsBelow cells tiles face → FaceFits cell_digits tile_digits face
face_fits cell_digits tile_digits cells tiles face some some' room room' below = record {
  cell = fits_in cell_digits cells (Some face.cell) some room (omega (arith, below.enough, below.most)) (λ n is. subst (λ m. m < cells) (inside is) below.cell);
  tile = fits_in tile_digits tiles face.tile some' room' below.most below.tile;
}

-- in squares
square_fits : (cells tiles : ℕ) (face : Face) → IsBelow cells tiles face → FaceFits (digits_of tiles) (digits_of tiles) face
square_fits cells tiles face below =
    let enough = digits_enough tiles below.most in
    face_fits (digits_of tiles) (digits_of tiles) cells tiles face enough.0 enough.0 (omega (arith, enough.1, below.enough)) enough.1 below

-- in triangles, of which there are at most 100
triangle_fits : (cells tiles : ℕ) (face : Face) → cells ≤ 10 ^ 2 → IsBelow cells tiles face → FaceFits 2 3 face
triangle_fits cells tiles face room below =
    face_fits 2 3 cells tiles face (omega arith) (omega arith) room (let most = below.most in omega (arith, most)) below

-- a row of a board
module _ (s : Figure) (tiles : ℕ) (places : List (Option Face))
    (below : (k : ℕ) (x : Face) → slice_get places k ≡ Some (Some x) → IsBelow (cell_count s) tiles x) where
  fitting_squares : AreFitting (digits_of tiles) (digits_of tiles) places
  fitting_squares k x is = square_fits (cell_count s) tiles x (below k x is)

  fitting_triangles : cell_count s ≤ 10 ^ 2 → AreFitting 2 3 places
  fitting_triangles room k x is = triangle_fits (cell_count s) tiles x room (below k x is)

-- the lines of a board have each face at its place
has_face : (s : Figure) (board : IsBoard s) (tiles : ℕ) (rows : List (List (Option Face))) (row place : ℕ) (places : List (Option Face)) (face : Face) → slice_get rows row ≡ Some places → slice_get places place ≡ Some (Some face)
    → ((k : ℕ) (x : Face) → slice_get places k ≡ Some (Some x) → IsBelow (cell_count s) tiles x)
    → ((k : ℕ) → slice_get places k ≡ Some None → IsFilled s row k → ⊥)
    → HasFace tiles s (board_lines tiles s rows) row place face
has_face (Rectangle width height) board tiles rows row place places face row_at at below missing =
    square_at (digits_of tiles) width rows row place places face (fitting_squares (Rectangle width height) tiles places below) row_at at
has_face (Shape width height mask) board tiles rows row place places face row_at at below missing =
    square_at (digits_of tiles) width rows row place places face (fitting_squares (Shape width height mask) tiles places below) row_at at
has_face (Triangle size) board tiles rows row place places face row_at at below missing =
    triangle_at size rows row place places face (λ k is. missing k is tt) (fitting_triangles (Triangle size) tiles places below board.room) row_at at
has_face (Hexagon size) board tiles rows row place places face row_at at below missing =
    triangle_below size (roof_line size) rows row place places face (λ k is. missing k is tt) (fitting_triangles (Hexagon size) tiles places below board.room) row_at at

-- what is seen of a cell has numbers of the puzzle
seen_below : (q : Layout) (mark : Option ℕ) (row place : ℕ) (face : Face) → IsPuzzle q.puzzle → IsPrefix q.puzzle q.placed → IsAtPlace q mark row place (Some face) → IsBelow (cell_count q.puzzle.board) (length q.puzzle.words) face
seen_below q mark row place face puzzle prefix at = record {
  cell = StandsAt-in_range at.0;
  tile = λ tile is. ⊎_elim
      (λ (shows : ShowsTile q face).
      let lt = (prefix.legal face.cell shows.placement shows.stands).tile in
      let same : shows.placement.tile ≡ tile = inside (sym shows.tile ∙ is) in
      subst (λ n. n < length q.puzzle.words) same lt)
      (λ (shows : ShowsRules q face). absurd (none_some (sym shows.tile ∙ is)))
      at.1.shows;
  enough = puzzle.tiles.enough;
  most = let few = puzzle.tiles.few in omega (arith, few);
}

pub drawing_law : DrawingLaw
drawing_law q mark rows puzzle prefix seen cell row place at =
    by_place (get_or places place None) there (here.each place (get_or places place None) there)
  where
    places : List (Option Face)
    places = get_or rows row []

    row_at : slice_get rows row ≡ Some places
    row_at = slice_get-get_or rows row [] (omega (arith, at.row_in, seen.long))

    here : IsRow q mark row places
    here = seen.each row places row_at

    there : slice_get places place ≡ Some (get_or places place None)
    there = slice_get-get_or places place None (omega (arith, at.place_in, here.long))

    by_place : (x : Option Face) → slice_get places place ≡ Some x → IsAtPlace q mark row place x → (face : Face) × (face.cell ≡ cell) × IsFace q mark face × HasFace (length q.puzzle.words) q.puzzle.board (board_lines (length q.puzzle.words) q.puzzle.board rows) row place face
    by_place None is none = absurd (none at.filled)
    by_place (Some face) is shows = (
      face,
      shows.0.number ∙ sym at.number,
      shows.1,
      has_face q.puzzle.board puzzle.board (length q.puzzle.words) rows row place places face row_at is
          (λ k x at_k. seen_below q mark row k x puzzle prefix (here.each k (Some x) at_k))
          (λ k at_k. here.each k None at_k),
    )

-- ---- drawings that are the same text

-- what is seen of a cell is sound
sound_face : (q : Layout) (mark : Option ℕ) (row place : ℕ) (face : Face) → IsPuzzle q.puzzle → IsPrefix q.puzzle q.placed → IsAtPlace q mark row place (Some face) → IsSound (side_count q.puzzle.board) face
sound_face q mark row place face puzzle prefix at =
    let below = seen_below q mark row place face puzzle prefix at in
    let most = puzzle.board.most in
    record {
      cell = omega (arith, below.cell, most);
      tile = λ tile is. let lt = below.tile tile is in omega (arith, lt, below.most);
      signs = face_signs q mark face at.1;
    }

sound_rows : (q : Layout) (mark : Option ℕ) (rows : List (List (Option Face))) → IsPuzzle q.puzzle → IsPrefix q.puzzle q.placed → AreRows q mark rows → AreSoundRows (side_count q.puzzle.board) rows
sound_rows q mark rows puzzle prefix seen row places row_at k face at =
    sound_face q mark row k face puzzle prefix ((seen.each row places row_at).each k (Some face) at)

clean_board : (tiles : ℕ) (s : Figure) (rows : List (List (Option Face))) → AreSoundRows (side_count s) rows → AreCleanLines (board_lines tiles s rows)
clean_board tiles (Rectangle width height) rows sound = clean_square_lines (digits_of tiles) width [] rows sound
clean_board tiles (Shape width height mask) rows sound = clean_square_lines (digits_of tiles) width [] rows sound
clean_board tiles (Triangle size) rows sound = clean_triangle_lines size 0 rows sound
clean_board tiles (Hexagon size) rows sound = (clean_roof size, clean_triangle_lines size 0 rows sound)

tell_square : (ls ms : List (List ℕ)) (digits row place : ℕ) (face other : Face) → AreCleanLines ls → AreCleanLines ms → sheet_text ls ≡ sheet_text ms → face.cell ≡ other.cell → IsSound 4 face → IsSound 4 other → FaceFits digits digits face → FaceFits digits digits other → HasSquare ls digits row place face → HasSquare ms digits row place other → ShowAlike 4 face other
tell_square ls ms digits row place face other c d e cell sound sound' fit fit' h h' =
    square_tells digits face other cell fit.tile fit'.tile sound.tile sound'.tile
    (same_bytes ls ms c d e (4 * row + 1) ((digits + 7) * place + 1) (square_part digits Top face) (square_part digits Top other) (long Top) h.top h'.top)
    (same_bytes ls ms c d e (4 * row + 2) ((digits + 7) * place + 1) (square_part digits Middle face) (square_part digits Middle other) (long Middle) h.middle h'.middle)
    (same_bytes ls ms c d e (4 * row + 3) ((digits + 7) * place + 1) (square_part digits Bottom face) (square_part digits Bottom other) (long Bottom) h.bottom h'.bottom)
  where
    long : (part : Part) → length (square_part digits part face) ≡ length (square_part digits part other)
    long part = length-square_part digits part face fit ∙ sym (length-square_part digits part other fit')

tell_triangle : (ls ms : List (List ℕ)) (first size row place : ℕ) (face other : Face) → AreCleanLines ls → AreCleanLines ms → sheet_text ls ≡ sheet_text ms → face.cell ≡ other.cell → IsSound 3 face → IsSound 3 other → FaceFits 2 3 face → FaceFits 2 3 other → HasTriangle ls first size row place face → HasTriangle ms first size row place other → ShowAlike 3 face other
tell_triangle ls ms first size row place face other c d e cell sound sound' fit fit' h h' =
    triangle_tells face other cell sound sound' fit.tile fit'.tile up
    (λ level. same_bytes ls ms c d e (first + 5 * row + above_base (turned level)) (5 * (rows_in size row + place) + above_base (own_level up level) + 1)
    (triangle_part up (own_level up level) face) (triangle_part up (own_level up level) other) (long (own_level up level)) (h level) (h' level))
  where
    up : Bool
    up = points_up (nat_lt row size) place

    long : (level : Level) → length (triangle_part up level face) ≡ length (triangle_part up level other)
    long level = omega (arith, length-triangle_part up level face fit, length-triangle_part up level other fit')

tell_board : (s : Figure) → IsBoard s → (tiles : ℕ) (rows rows' : List (List (Option Face))) (row place : ℕ) (face other : Face) → AreCleanLines (board_lines tiles s rows) → AreCleanLines (board_lines tiles s rows')
    → sheet_text (board_lines tiles s rows) ≡ sheet_text (board_lines tiles s rows') → face.cell ≡ other.cell
    → IsSound (side_count s) face → IsSound (side_count s) other → IsBelow (cell_count s) tiles face → IsBelow (cell_count s) tiles other
    → HasFace tiles s (board_lines tiles s rows) row place face → HasFace tiles s (board_lines tiles s rows') row place other → ShowAlike (side_count s) face other
tell_board (Rectangle width height) board tiles rows rows' row place face other c d e cell sound sound' below below' h h' =
    tell_square _ _ (digits_of tiles) row place face other c d e cell sound sound' (square_fits (cell_count (Rectangle width height)) tiles face below) (square_fits (cell_count (Rectangle width height)) tiles other below') h h'
tell_board (Shape width height mask) board tiles rows rows' row place face other c d e cell sound sound' below below' h h' =
    tell_square _ _ (digits_of tiles) row place face other c d e cell sound sound' (square_fits (cell_count (Shape width height mask)) tiles face below) (square_fits (cell_count (Shape width height mask)) tiles other below') h h'
tell_board (Triangle size) board tiles rows rows' row place face other c d e cell sound sound' below below' h h' =
    tell_triangle _ _ 0 size row place face other c d e cell sound sound' (triangle_fits (cell_count (Triangle size)) tiles face board.room below) (triangle_fits (cell_count (Triangle size)) tiles other board.room below') h h'
tell_board (Hexagon size) board tiles rows rows' row place face other c d e cell sound sound' below below' h h' =
    tell_triangle _ _ 1 size row place face other c d e cell sound sound' (triangle_fits (cell_count (Hexagon size)) tiles face board.room below) (triangle_fits (cell_count (Hexagon size)) tiles other board.room below') h h'

-- a face with this number is what is seen of the cell there
at_its_place : (q : Layout) (mark : Option ℕ) (cell row place : ℕ) (face : Face) → StandsAt q.puzzle.board cell row place → face.cell ≡ cell → IsFace q mark face → IsAtPlace q mark row place (Some face)
at_its_place q mark cell row place face at is shows = (subst (λ n. StandsAt q.puzzle.board n row place) (sym is) at, shows)

pub telling_law : TellingLaw
telling_law q q' mark mark' text puzzle prefix puzzle' prefix' boards as_many drawing drawing' cell row place at =
    (here.0, there.0, here.1, here.2, there.2, alike)
  where
    s : Figure
    s = q.puzzle.board

    tiles : ℕ
    tiles = length q.puzzle.words

    at' : StandsAt q'.puzzle.board cell row place
    at' = subst (λ b. StandsAt b cell row place) (sym boards) at

    here : (face : Face) × (face.cell ≡ cell) × IsFace q mark face × HasFace tiles s (board_lines tiles s drawing.rows) row place face
    here = drawing_law q mark drawing.rows puzzle prefix drawing.seen cell row place at

    there : (face : Face) × (face.cell ≡ cell) × IsFace q' mark' face × HasFace (length q'.puzzle.words) q'.puzzle.board (board_lines (length q'.puzzle.words) q'.puzzle.board drawing'.rows) row place face
    there = drawing_law q' mark' drawing'.rows puzzle' prefix' drawing'.seen cell row place at'

    texts : sheet_text (board_lines tiles s drawing.rows) ≡ sheet_text (board_lines tiles s drawing'.rows)
    texts = sym drawing.drawn ∙ drawing'.drawn ∙ ap (λ b. sheet_text (board_lines (length q'.puzzle.words) b drawing'.rows)) boards ∙ ap (λ n. sheet_text (board_lines n s drawing'.rows)) as_many

    alike : ShowAlike (side_count s) here.0 there.0
    alike =
        tell_board s puzzle.board tiles drawing.rows drawing'.rows row place here.0 there.0
        (clean_board tiles s drawing.rows (sound_rows q mark drawing.rows puzzle prefix drawing.seen))
        (clean_board tiles s drawing'.rows (subst (λ b. AreSoundRows (side_count b) drawing'.rows) boards (sound_rows q' mark' drawing'.rows puzzle' prefix' drawing'.seen)))
        texts (here.1 ∙ sym there.1)
        (sound_face q mark row place here.0 puzzle prefix (at_its_place q mark cell row place here.0 at here.1 here.2))
        (subst (λ b. IsSound (side_count b) there.0) boards (sound_face q' mark' row place there.0 puzzle' prefix' (at_its_place q' mark' cell row place there.0 at' there.1 there.2)))
        (seen_below q mark row place here.0 puzzle prefix (at_its_place q mark cell row place here.0 at here.1 here.2))
        (subst (λ n. IsBelow (cell_count s) n there.0) as_many (subst (λ b. IsBelow (cell_count b) (length q'.puzzle.words) there.0) boards (seen_below q' mark' row place there.0 puzzle' prefix' (at_its_place q' mark' cell row place there.0 at' there.1 there.2))))
        here.3
        (subst (λ n. HasFace n s (board_lines n s drawing'.rows) row place there.0) as_many (subst (λ b. HasFace (length q'.puzzle.words) b (board_lines (length q'.puzzle.words) b drawing'.rows) row place there.0) boards there.3))
