-- Where things stand in the lines of a drawing.
use Rattle.std.proofs.Common.{◌≡◌, ◌≤◌, ◌+◌, ◌-◌, ◌*◌, ◌++◌, ℕ, zero, suc, List, [], ◌∷◌, Option, Some, None, Bool, true, false, not, is_some, slice_index, map, option_map, length, decimal, slice_get, nat_lt, refl, ap, sym, subst, ◌∙◌, append_assoc, arith, length-append}
use Rattle.std.proofs.lemmas.List.{length-replicate}
use Rattle.std.proofs.lemmas.Option.{slice_get-map}
use Rattle.match_puzzle.proofs.Prefixes.{inside}
use Rattle.show_text.specs.declared.faces.Face.{Face}
use Rattle.show_text.specs.declared.squares.Part.{Part}
use Rattle.show_text.specs.declared.squares.Part.TheVariants.{Top, Middle, Bottom}
use Rattle.show_text.specs.declared.triangles.Level.{Level}
use Rattle.show_text.specs.declared.triangles.Level.TheVariants.{Tip, Blank, Number, Tile, Base}
use Rattle.show_text.specs.Pieces.{spaces, padded, star}
use Rattle.show_text.specs.Squares.{square_part, inside_width, posted, fenced, part_line, square_lines}
use Rattle.show_text.specs.Triangles.{triangle_part, own_level, turned, above_base, rows_in, crossed_piece, crossed, level_line, row_lines, triangle_lines, slant}
use Rattle.show_text.specs.Laws.{HasAt, HasSquare, HasTriangle, points_up}

none_some : {X : Type 0} {x : X} → None ≡ Some x → ⊥
none_some e = cc

-- ---- numbers fit their columns

-- The number, if there is one, has at most so many digits.
abbrev pub FitsIn : ℕ → Option ℕ → Type 0
FitsIn digits None = Unit {0}
FitsIn digits (Some number) = length (decimal number) ≤ digits

-- The numbers of the face's cell and of its tile have at most so many digits.
pub record FaceFits (cell_digits tile_digits : ℕ) (face : Face) : Type 0 where
  pub cell : length (decimal face.cell) ≤ cell_digits
  pub tile : FitsIn tile_digits face.tile

pub length-padded : (digits : ℕ) (number : Option ℕ) → FitsIn digits number → length (padded digits number) ≡ digits
length-padded digits None fits = length-replicate {A = ℕ} digits 32
length-padded digits (Some number) fits =
    omega (arith, fits, length-append (spaces (digits - length (decimal number))) (decimal number), length-replicate {A = ℕ} (digits - length (decimal number)) 32)

-- ---- pieces beside each other

-- Each piece that is there is so wide.
abbrev pub AreWide : ℕ → List (Option (List ℕ)) → Type 0
AreWide width pieces = (k : ℕ) (piece : List ℕ) → slice_get pieces k ≡ Some (Some piece) → length piece ≡ width

length-posted : (sign width : ℕ) (before : Bool) (piece : Option (List ℕ)) → ((p : List ℕ) → piece ≡ Some p → length p ≡ width) → length (posted sign width before piece) ≡ width + 1
length-posted sign width before None wide = omega (arith, length-replicate {A = ℕ} width 32)
length-posted sign width before (Some piece) wide = omega (arith, wide piece refl)

-- a line that has the bytes from the column on
pub record Splits (line : List ℕ) (column : ℕ) (bytes : List ℕ) : Type 0 where
  pub before : List ℕ
  pub after : List ℕ
  pub line_is : line ≡ before ++ bytes ++ after
  pub column_is : length before ≡ column

-- the same with something before it
pub splits_later : (front line : List ℕ) (column column' : ℕ) (bytes : List ℕ) → length front + column ≡ column' → Splits line column bytes → Splits (front ++ line) column' bytes
splits_later front line column column' bytes e s = record {
  before = front ++ s.before;
  after = s.after;
  line_is = ap (λ l. front ++ l) s.line_is ∙ simp append_assoc refl;
  column_is = length-append front s.before ∙ ap (λ n. length front + n) s.column_is ∙ e;
}

pub fenced_at : (sign width : ℕ) (before : Bool) (pieces : List (Option (List ℕ))) (place : ℕ) (piece : List ℕ) → AreWide width pieces → slice_get pieces place ≡ Some (Some piece) → Splits (fenced sign width before pieces) ((width + 1) * place + 1) piece
fenced_at sign width before [] place piece wide at = absurd (none_some at)
fenced_at sign width before (None ∷ pieces) zero piece wide at = absurd (none_some (inside at))
fenced_at sign width before (Some p ∷ pieces) zero piece wide at =
    let same : p ≡ piece = inside (inside at) in
    record {
      before = sign ∷ [];
      after = fenced sign width true pieces;
      line_is = ap (λ x. (sign ∷ x) ++ fenced sign width true pieces) same;
      column_is = omega arith;
    }
fenced_at sign width before (p ∷ pieces) (suc place) piece wide at =
    let rest = fenced_at sign width (is_some p) pieces place piece (λ k x is. wide (suc k) x is) at in
    let long = length-posted sign width before p (λ x is. wide 0 x (ap Some is)) in
    splits_later (posted sign width before p) (fenced sign width (is_some p) pieces) ((width + 1) * place + 1) ((width + 1) * suc place + 1) piece (omega (arith, long)) rest

-- ---- squares

pub length-square_part : (digits : ℕ) (part : Part) (face : Face) → FaceFits digits digits face → length (square_part digits part face) ≡ inside_width digits
length-square_part digits Top face fits =
    omega (arith, length-append (padded digits (Some face.cell)) (star face.marked ∷ 32 ∷ slice_index face.signs 0 ∷ spaces 3), length-padded digits (Some face.cell) fits.cell)
length-square_part digits Middle face fits =
    omega (arith, length-append (32 ∷ slice_index face.signs 3 ∷ 32 ∷ padded digits face.tile) (32 ∷ slice_index face.signs 1 ∷ 32 ∷ []), length-padded digits face.tile fits.tile)
length-square_part digits Bottom face fits =
    omega (arith, length-append (spaces (digits + 2)) (slice_index face.signs 2 ∷ spaces 3), length-replicate {A = ℕ} (digits + 2) 32)

-- Each face of the row fits.
abbrev pub AreFitting : (cell_digits tile_digits : ℕ) → List (Option Face) → Type 0
AreFitting cell_digits tile_digits places =
    (k : ℕ) (face : Face) → slice_get places k ≡ Some (Some face) → FaceFits cell_digits tile_digits face

-- what a piece is made of
mapped_from : {X Y : Type 0} (f : X → Y) (xs : List (Option X)) (k : ℕ) (y : Y) → slice_get (map (option_map f) xs) k ≡ Some (Some y) → (x : X) × (slice_get xs k ≡ Some (Some x)) × (f x ≡ y)
mapped_from f [] k y at = absurd (none_some at)
mapped_from f (None ∷ xs) zero y at = absurd (none_some (inside at))
mapped_from f (Some x ∷ xs) zero y at = (x, refl, inside (inside at))
mapped_from f (x ∷ xs) (suc k) y at = mapped_from f xs k y at

part_at : (digits : ℕ) (part : Part) (places : List (Option Face)) (place : ℕ) (face : Face) → AreFitting digits digits places → slice_get places place ≡ Some (Some face) → Splits (part_line digits part places) ((digits + 7) * place + 1) (square_part digits part face)
part_at digits part places place face fit at =
    let width : inside_width digits + 1 ≡ digits + 7 = omega arith in
    let there = slice_get-map (option_map (square_part digits part)) places place ∙ ap (option_map (option_map (square_part digits part))) at in
    let wide = λ (k : ℕ) (piece : List ℕ) (is : slice_get (map (option_map (square_part digits part)) places) k ≡ Some (Some piece)).
    (let from = mapped_from (square_part digits part) places k piece is in
    ap length (sym from.2) ∙ length-square_part digits part from.0 (fit k from.0 from.1)) in
    subst (λ n. Splits (part_line digits part places) (n * place + 1) (square_part digits part face)) width
    (fenced_at 124 (inside_width digits) false (map (option_map (square_part digits part)) places) place (square_part digits part face) wide there)

-- a line of the lines that splits
pub has_at : (lines : List (List ℕ)) (number : ℕ) (line : List ℕ) (column : ℕ) (bytes : List ℕ) → slice_get lines number ≡ Some line → Splits line column bytes → HasAt lines number column bytes
has_at lines number line column bytes at s = record {
  before = s.before;
  after = s.after;
  line_is = at ∙ ap Some s.line_is;
  column_is = s.column_is;
}

-- the lines through a row of squares
part_line_at : (digits columns : ℕ) (above : List (Option Face)) (rows : List (List (Option Face))) (row : ℕ) (places : List (Option Face)) → slice_get rows row ≡ Some places
    → (slice_get (square_lines digits columns above rows) (4 * row + 1) ≡ Some (part_line digits Top places))
    × (slice_get (square_lines digits columns above rows) (4 * row + 2) ≡ Some (part_line digits Middle places))
    × (slice_get (square_lines digits columns above rows) (4 * row + 3) ≡ Some (part_line digits Bottom places))
part_line_at digits columns above [] row places at = absurd (none_some at)
part_line_at digits columns above (here ∷ rows) zero places at =
    let same = inside at in
    (ap (λ x. Some (part_line digits Top x)) same, ap (λ x. Some (part_line digits Middle x)) same, ap (λ x. Some (part_line digits Bottom x)) same)
part_line_at digits columns above (here ∷ rows) (suc row) places at =
    let next = part_line_at digits columns here rows row places at in
    let lines = square_lines digits columns above (here ∷ rows) in
    let one : 4 * suc row + 1 ≡ suc (suc (suc (suc (4 * row + 1)))) = omega arith in
    let two : 4 * suc row + 2 ≡ suc (suc (suc (suc (4 * row + 2)))) = omega arith in
    let three : 4 * suc row + 3 ≡ suc (suc (suc (suc (4 * row + 3)))) = omega arith in
    (ap (slice_get lines) one ∙ next.0, ap (slice_get lines) two ∙ next.1, ap (slice_get lines) three ∙ next.2)

pub square_at : (digits columns : ℕ) (rows : List (List (Option Face))) (row place : ℕ) (places : List (Option Face)) (face : Face) → AreFitting digits digits places → slice_get rows row ≡ Some places → slice_get places place ≡ Some (Some face) → HasSquare (square_lines digits columns [] rows) digits row place face
square_at digits columns rows row place places face fit row_at at =
    let lines = part_line_at digits columns [] rows row places row_at in
    record {
      top = has_at _ (4 * row + 1) (part_line digits Top places) ((digits + 7) * place + 1) (square_part digits Top face) lines.0 (part_at digits Top places place face fit at);
      middle = has_at _ (4 * row + 2) (part_line digits Middle places) ((digits + 7) * place + 1) (square_part digits Middle face) lines.1 (part_at digits Middle places place face fit at);
      bottom = has_at _ (4 * row + 3) (part_line digits Bottom places) ((digits + 7) * place + 1) (square_part digits Bottom face) lines.2 (part_at digits Bottom places place face fit at);
    }

-- ---- triangles

pub length-triangle_part : (up : Bool) (level : Level) (face : Face) → FaceFits 2 3 face → length (triangle_part up level face) + 2 * above_base level ≡ 8
length-triangle_part up Tip face fits = refl
length-triangle_part up Blank face fits = refl
length-triangle_part up Number face fits =
    omega (arith, length-append (32 ∷ padded 2 (Some face.cell)) (star face.marked ∷ []), length-padded 2 (Some face.cell) fits.cell)
length-triangle_part true Tile face fits =
    omega (arith, length-append (slice_index face.signs 2 ∷ padded 3 face.tile) (32 ∷ slice_index face.signs 0 ∷ []), length-padded 3 face.tile fits.tile)
length-triangle_part false Tile face fits =
    omega (arith, length-append (slice_index face.signs 0 ∷ padded 3 face.tile) (32 ∷ slice_index face.signs 2 ∷ []), length-padded 3 face.tile fits.tile)
length-triangle_part true Base face fits = refl
length-triangle_part false Base face fits = refl

-- a level and that of the triangle beside it
levels_add : (up : Bool) (level : Level) → above_base (own_level up level) + above_base (own_level (not up) level) ≡ 4
levels_add true Tip = refl
levels_add true Blank = refl
levels_add true Number = refl
levels_add true Tile = refl
levels_add true Base = refl
levels_add false Tip = refl
levels_add false Blank = refl
levels_add false Number = refl
levels_add false Tile = refl
levels_add false Base = refl

-- There is a triangle at each place.
abbrev pub AreThere : List (Option Face) → Type 0
AreThere places = (k : ℕ) → slice_get places k ≡ Some None → ⊥

crossed_at : (level : Level) (up : Bool) (places : List (Option Face)) (place : ℕ) (face : Face) → AreThere places → AreFitting 2 3 places → slice_get places place ≡ Some (Some face)
    → (column : ℕ) × Splits (crossed level up places) column (triangle_part (points_up up place) (own_level (points_up up place) level) face)
    × (column + above_base (own_level up level) ≡ 5 * place + above_base (own_level (points_up up place) level) + 1)
crossed_at level up [] place face there fit at = absurd (none_some at)
crossed_at level up (None ∷ places) place face there fit at = absurd (there 0 refl)
crossed_at level up (Some f ∷ places) zero face there fit at =
    let same : f ≡ face = inside (inside at) in (
      1,
      record {
        before = slant up ∷ [];
        after = crossed level (not up) places;
        line_is = ap (λ x. (slant up ∷ triangle_part up (own_level up level) x) ++ crossed level (not up) places) same;
        column_is = refl;
      },
      omega arith,
    )
crossed_at level up (Some f ∷ places) (suc place) face there fit at =
    let rest = crossed_at level (not up) places place face (λ k is. there (suc k) is) (λ k x is. fit (suc k) x is) at in
    let long = length-triangle_part up (own_level up level) f (fit 0 f refl) in
    let levels = levels_add up level in
    let piece = crossed_piece level up (Some f) in
    (length piece + rest.0, splits_later piece (crossed level (not up) places) rest.0 (length piece + rest.0) _ refl rest.1, omega (arith, long, levels, rest.2))

level_at : (size row : ℕ) (level : Level) (places : List (Option Face)) (place : ℕ) (face : Face) → AreThere places → AreFitting 2 3 places → slice_get places place ≡ Some (Some face)
    → Splits (level_line size row level places) (5 * (rows_in size row + place) + above_base (own_level (points_up (nat_lt row size) place) level) + 1) (triangle_part (points_up (nat_lt row size) place) (own_level (points_up (nat_lt row size) place) level) face)
level_at size row level places place face there fit at =
    let up = nat_lt row size in
    let found = crossed_at level up places place face there fit at in
    let indent = 5 * rows_in size row + above_base (own_level up level) in
    splits_later (spaces indent) (crossed level up places) found.0 (5 * (rows_in size row + place) + above_base (own_level (points_up up place) level) + 1) _ (omega (arith, length-replicate {A = ℕ} indent 32, found.2)) found.1

-- which of the lines through a row it is
level_row : (size row : ℕ) (level : Level) (places : List (Option Face)) (more : List (List ℕ)) → slice_get (row_lines size row places ++ more) (above_base (turned level)) ≡ Some (level_line size row level places)
level_row size row Tip places more = refl
level_row size row Blank places more = refl
level_row size row Number places more = refl
level_row size row Tile places more = refl
level_row size row Base places more = refl

level_line_at : (size first : ℕ) (rows : List (List (Option Face))) (row : ℕ) (level : Level) (places : List (Option Face)) → slice_get rows row ≡ Some places → slice_get (triangle_lines size first rows) (5 * row + above_base (turned level)) ≡ Some (level_line size (first + row) level places)
level_line_at size first [] row level places at = absurd (none_some at)
level_line_at size first (here ∷ rows) zero level places at =
    let lines = triangle_lines size first (here ∷ rows) in
    let line : 5 * 0 + above_base (turned level) ≡ above_base (turned level) = omega arith in
    let same : first ≡ first + 0 = omega arith in
    ap (slice_get lines) line ∙ level_row size first level here (triangle_lines size (first + 1) rows) ∙ ap (λ x. Some (level_line size first level x)) (inside at) ∙ ap (λ n. Some (level_line size n level places)) same
level_line_at size first (here ∷ rows) (suc row) level places at =
    let lines = triangle_lines size first (here ∷ rows) in
    let line : 5 * suc row + above_base (turned level) ≡ suc (suc (suc (suc (suc (5 * row + above_base (turned level)))))) = omega arith in
    let same : first + 1 + row ≡ first + suc row = omega arith in
    ap (slice_get lines) line ∙ level_line_at size (first + 1) rows row level places at ∙ ap (λ n. Some (level_line size n level places)) same

pub triangle_at : (size : ℕ) (rows : List (List (Option Face))) (row place : ℕ) (places : List (Option Face)) (face : Face) → AreThere places → AreFitting 2 3 places → slice_get rows row ≡ Some places → slice_get places place ≡ Some (Some face) → HasTriangle (triangle_lines size 0 rows) 0 size row place face
triangle_at size rows row place places face there fit row_at at level =
    let number : 0 + 5 * row + above_base (turned level) ≡ 5 * row + above_base (turned level) = omega arith in
    let same : 0 + row ≡ row = omega arith in
    has_at (triangle_lines size 0 rows) (0 + 5 * row + above_base (turned level)) (level_line size row level places) _ _
    (ap (slice_get (triangle_lines size 0 rows)) number ∙ level_line_at size 0 rows row level places row_at ∙ ap (λ n. Some (level_line size n level places)) same)
    (level_at size row level places place face there fit at)

-- the same below a roof
pub triangle_below : (size : ℕ) (roof : List ℕ) (rows : List (List (Option Face))) (row place : ℕ) (places : List (Option Face)) (face : Face) → AreThere places → AreFitting 2 3 places → slice_get rows row ≡ Some places → slice_get places place ≡ Some (Some face) → HasTriangle (roof ∷ triangle_lines size 0 rows) 1 size row place face
triangle_below size roof rows row place places face there fit row_at at level =
    let number : 1 + 5 * row + above_base (turned level) ≡ suc (5 * row + above_base (turned level)) = omega arith in
    let same : 0 + row ≡ row = omega arith in
    has_at (roof ∷ triangle_lines size 0 rows) (1 + 5 * row + above_base (turned level)) (level_line size row level places) _ _
    (ap (slice_get (roof ∷ triangle_lines size 0 rows)) number ∙ level_line_at size 0 rows row level places row_at ∙ ap (λ n. Some (level_line size n level places)) same)
    (level_at size row level places place face there fit at)
