-- Places of a row, counted.
use Rattle.std.proofs.Common.{◌≡◌, ◌<◌, ◌+◌, ◌*◌, ℕ, Bool, true, false, cond, refl, arith, add-one, subst}
use Rattle.std.specs.Prelude.{slice_index_or}
use Rattle.match_board.specs.Board.{row_count, row_length, cells_above, cells_left, IsFilled, StandsAt}
use Rattle.match_board.specs.declared.figures.Figure.{Figure}
use Rattle.match_board.specs.declared.figures.Figure.TheVariants.{Rectangle, Triangle, Hexagon, Shape}
use Rattle.match_board.proofs.MaskLemmas.{mark_next}

-- a place with a cell counts
pub left_filled : (s : Figure) (row place : ℕ) → IsFilled s row place → cells_left s row (place + 1) ≡ cells_left s row place + 1
left_filled (Rectangle width height) row place is = refl
left_filled (Triangle size) row place is = refl
left_filled (Hexagon size) row place is = refl
left_filled (Shape width height mask) row place is = rw add-one (mark_next mask (row * width) place is)

-- no mark counts for nothing
no_mark : (b : Bool) → (b ≡ true → ⊥) → cond {A = ℕ} b 1 0 ≡ 0
no_mark true none = absurd (none refl)
no_mark false none = refl

-- a place without one doesn't
pub left_unfilled : (s : Figure) (row place : ℕ) → (IsFilled s row place → ⊥) → cells_left s row (place + 1) ≡ cells_left s row place
left_unfilled (Rectangle width height) row place none = absurd (none tt)
left_unfilled (Triangle size) row place none = absurd (none tt)
left_unfilled (Hexagon size) row place none = absurd (none tt)
left_unfilled (Shape width height mask) row place none =
    rw add-one (omega (arith, no_mark (slice_index_or mask (row * width + place) false) none))

-- the cell at a place, where so many stand before it
pub here_stands : (s t : Figure) (row place next : ℕ) → t ≡ s → row < row_count s → place < row_length t row → IsFilled t row place → next ≡ cells_above s row + cells_left s row place → StandsAt s next row place
here_stands s t row place next same row_in place_in filled number = record {
  row_in = row_in;
  place_in = subst (λ u. place < row_length u row) same place_in;
  filled = subst (λ u. IsFilled u row place) same filled;
  number = number;
}
