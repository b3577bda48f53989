-- Where cells stand.
use Rattle.std.proofs.Common.{◌≡◌, ◌<◌, ◌≤◌, ◌+◌, ◌-◌, ◌*◌, ℕ, zero, suc, arith, refl, ap, sym, subst, inl, inr, ⊎_elim}
use Rattle.std.proofs.lemmas.Bool.{cases_lt}
use Rattle.match_board.specs.Board.{side_count, cell_count, row_count, row_length, cells_above, cells_left, IsFilled, StandsAt, Meets, LiesAgainst}
use Rattle.match_board.specs.declared.figures.Figure.{Figure}
use Rattle.match_board.specs.declared.figures.Figure.TheVariants.{Rectangle, Triangle, Hexagon, Shape}
use Rattle.match_board.proofs.MaskLemmas.{marks_before}

-- the rows above a row of a rectangle
pub above_in_rectangle : (width height row : ℕ) → cells_above (Rectangle width height) row ≡ row * width
above_in_rectangle width height zero = omega arith
above_in_rectangle width height (suc row) = omega (arith, above_in_rectangle width height row)

-- the rows above a row of a triangle
pub above_in_triangle : (size row : ℕ) → cells_above (Triangle size) row ≡ row * row
above_in_triangle size zero = omega arith
above_in_triangle size (suc row) = omega (arith, above_in_triangle size row)

-- the rows above a row of a hexagon's upper half
above_in_upper_half : (size row : ℕ) → row ≤ size → cells_above (Hexagon size) row ≡ row * (2 * size + row)
above_in_upper_half size zero le = omega arith
above_in_upper_half size (suc row) le = omega (arith, le, above_in_upper_half size row (omega (arith, le)))

-- the rows from a row of the lower half on are as many cells as so many first rows
above_in_lower_half : (size row rest : ℕ) → size ≤ row → rest + row ≡ 2 * size → cells_above (Hexagon size) row + rest * (2 * size + rest) ≡ 6 * size * size
above_in_lower_half zero zero rest le e = let none : rest ≡ 0 = omega (arith, e) in rw none (omega arith)
above_in_lower_half (suc size) zero rest le e = absurd (omega (arith, le))
above_in_lower_half size (suc row) rest le e =
    elim (cases_lt row size) [
      | inl lt ↦ (let first : suc row ≡ size = omega (arith, le, lt) in
          let same : rest ≡ size = omega (arith, e, first) in
          rw same (omega (arith, ap (λ r. cells_above (Hexagon size) r) first, above_in_upper_half size size (omega arith))))
      | inr ge ↦ omega (arith, above_in_lower_half size row (rest + 1) ge (omega (arith, e)), e, ge)
    ]

pub cells_in_hexagon : (size : ℕ) → cells_above (Hexagon size) (2 * size) ≡ 6 * size * size
cells_in_hexagon size = omega (arith, above_in_lower_half size (2 * size) 0 (omega arith) (omega arith))

-- only a triangle of no rows has no cells
pub empty_triangle : (size : ℕ) → cells_above (Triangle size) size ≡ 0 → size ≡ 0
empty_triangle zero e = refl
empty_triangle (suc size) e = absurd (omega (arith, above_in_triangle (suc size) (suc size), e))

-- only a hexagon of no rows has no cells
pub empty_hexagon : (size : ℕ) → cells_above (Hexagon size) (2 * size) ≡ 0 → size ≡ 0
empty_hexagon zero e = refl
empty_hexagon (suc size) e = absurd (omega (arith, cells_in_hexagon (suc size), e))

-- the rows above a lower row have all cells of this one
above_later : (s : Figure) (row more row' : ℕ) → row' ≡ suc (row + more) → cells_above s row + cells_left s row (row_length s row) ≤ cells_above s row'
above_later s row more zero e = absurd (omega arith)
above_later s row zero (suc row') e =
    let same : row' ≡ row = omega arith in
    omega (arith, ap (λ r. cells_above s r) same, ap (λ r. cells_left s r (row_length s r)) same)
above_later s row (suc more) (suc row') e = omega (arith, above_later s row more row' (omega arith))

-- the cells of a row come before the next row's
pub whole_row : (s : Figure) (row row' : ℕ) → row < row' → cells_above s row + cells_left s row (row_length s row) ≤ cells_above s row'
whole_row s row row' lt = above_later s row (row' - suc row) row' (omega (arith, lt))

-- a cell has fewer cells of its row left of it than each place at its right
pub left_of_later : (s : Figure) (row place place' : ℕ) → IsFilled s row place → place < place' → cells_left s row place < cells_left s row place'
left_of_later (Rectangle width height) row place place' filled lt = lt
left_of_later (Triangle size) row place place' filled lt = lt
left_of_later (Hexagon size) row place place' filled lt = lt
left_of_later (Shape width height mask) row place place' filled lt = marks_before mask (row * width) place place' filled lt

-- cells of a row have different numbers of cells left of them
pub one_left : (s : Figure) (row place place' : ℕ) → IsFilled s row place → IsFilled s row place' → cells_left s row place ≡ cells_left s row place' → place ≡ place'
one_left s row place place' filled filled' e =
    let le : (place < place' → ⊥) = λ lt. omega (arith, left_of_later s row place place' filled lt, e) in
    let ge : (place' < place → ⊥) = λ lt. omega (arith, left_of_later s row place' place filled' lt, e) in
    grind arith

-- a cell of a lower row has a greater number
later : {s : Figure} {cell row place cell' row' place' : ℕ} → StandsAt s cell row place → StandsAt s cell' row' place' → row < row' → cell < cell'
later {s} {cell} {row} {place} {cell'} {row'} {place'} a b lt =
    omega (arith, whole_row s row row' lt, left_of_later s row place (row_length s row) a.filled a.place_in, a.number, b.number)

-- a cell stands in one row
one_row : {s : Figure} {cell row place row' place' : ℕ} → StandsAt s cell row place → StandsAt s cell row' place' → row ≡ row'
one_row {s} {cell} {row} {place} {row'} {place'} a b =
    let le : (row < row' → ⊥) = λ lt. omega (arith, later a b lt) in
    let ge : (row' < row → ⊥) = λ lt. omega (arith, later b a lt) in
    grind arith

-- a cell stands at one place
pub one_place : {s : Figure} {cell row place row' place' : ℕ} → StandsAt s cell row place → StandsAt s cell row' place' → (row ≡ row') × (place ≡ place')
one_place {s} {cell} {row} {place} {row'} {place'} a b =
    let same = one_row a b in
    let filled = subst (λ r. IsFilled s r place') (sym same) b.filled in
    let left : cells_left s row place ≡ cells_left s row place' =
    omega (arith, ap (λ r. cells_above s r) same, ap (λ r. cells_left s r place') same, a.number, b.number) in
    (same, one_left s row place place' a.filled filled left)

-- a place is within the board
pub StandsAt-in_range : {s : Figure} {cell row place : ℕ} → StandsAt s cell row place → cell < cell_count s
StandsAt-in_range {s} {cell} {row} {place} a =
    omega (arith, whole_row s row (row_count s) a.row_in, left_of_later s row place (row_length s row) a.filled a.place_in, a.number)

-- a place has one number
pub one_number : {s : Figure} {cell cell' row place row' place' : ℕ} → StandsAt s cell row place → StandsAt s cell' row' place' → row ≡ row' → place ≡ place' → cell ≡ cell'
one_number {s} {cell} {cell'} {row} {place} {row'} {place'} a b same_row same_place =
    omega (arith, a.number, b.number, ap (λ r. cells_above s r) same_row, ap (λ r. cells_left s r place) same_row, ap (λ p. cells_left s row' p) same_place)

pub Meets-turned : {s : Figure} {cell side cell' side' : ℕ} → Meets s cell side cell' side' → Meets s cell' side' cell side
Meets-turned {s} m = record {
  row = m.row';
  place = m.place';
  row' = m.row;
  place' = m.place;
  here = m.there;
  there = m.here;
  against = ⊎_elim inr inl m.against;
}

-- what a cell's side meets lies against the place where the cell stands
pub met_place : {s : Figure} {cell side cell' side' row place : ℕ} → Meets s cell side cell' side' → StandsAt s cell row place → (row' place' : ℕ) × StandsAt s cell' row' place' × LiesAgainst s row place side row' place' side'
met_place {s} {cell} {side} {cell'} {side'} {row} {place} m at =
    let same = one_place m.here at in
    let against = subst (λ r. LiesAgainst s r m.place side m.row' m.place' side') same.0 m.against in
    (m.row', m.place', m.there, subst (λ p. LiesAgainst s row p side m.row' m.place' side') same.1 against)

-- a side that lies against another is one of a cell's
pub against_in_range : (s : Figure) (row place side row' place' side' : ℕ) → LiesAgainst s row place side row' place' side' → side < side_count s
against_in_range (Rectangle width height) row place side row' place' side' h = grind arith
against_in_range (Triangle size) row place side row' place' side' h = grind arith
against_in_range (Hexagon size) row place side row' place' side' h = grind arith
against_in_range (Shape width height mask) row place side row' place' side' h = grind arith
