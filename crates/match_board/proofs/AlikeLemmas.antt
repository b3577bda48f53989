-- Boards on which the same sides meet.
use Rattle.std.proofs.Common.{◌≡◌, ◌<◌, ◌≤◌, ◌+◌, ◌*◌, ◌-◌, ℕ, zero, suc, Bool, true, false, List, length, replicate, arith, refl, sym, ◌∙◌}
use Rattle.std.proofs.lemmas.List.{get_or_append_left, get_or-replicate, length-replicate}
use Rattle.match_limits.specs.Listing.{IsListing}
use Rattle.match_board.specs.Board.{IsMarked, marks_from, cells_above, StandsAt, IsBoard, IsBorderPair, IsBorderOrder, AreAlike, mask_of, second_figure}
use Rattle.match_limits.specs.declared.TheConstants.{MOST_PLACES}
use Rattle.match_board.specs.declared.figures.Figure.{Figure}
use Rattle.match_board.specs.declared.figures.Figure.TheVariants.{Rectangle, Triangle, Hexagon, Shape}
use Rattle.match_board.proofs.MaskLemmas.{mark_next, row_room}
use Rattle.match_board.proofs.Places.{above_in_rectangle}

-- among places that all have a cell there are as many cells
all_marked : (mask : List Bool) (first more : ℕ) → ((n : ℕ) → n < more → IsMarked mask (first + n)) → marks_from mask first more ≡ more
all_marked mask first zero all = refl
all_marked mask first (suc more) all =
    omega (arith, mark_next mask first more (all more (omega arith)), all_marked mask first more (λ n lt. all n (omega (arith, lt))))

module _ (width height : ℕ) where
  -- a rectangle's mask
  abbrev full : List Bool
  full = mask_of (replicate (height * width) true)

  full_marked : (n : ℕ) → n < height * width → IsMarked full n
  full_marked n lt =
      get_or_append_left (replicate (height * width) true) (replicate (MOST_PLACES - length (replicate (height * width) true)) false) false n (let long = length-replicate (height * width) true in omega (arith, long, lt))
      ∙ get_or-replicate (height * width) n true false lt

  full_row : (row place : ℕ) → row < height → place ≤ width → marks_from full (row * width) place ≡ place
  full_row row place lt le =
      all_marked full (row * width) place (λ n below. full_marked (row * width + n) (omega (arith, row_room row height width lt, below, le)))

  full_above : (row : ℕ) → row ≤ height → cells_above (Shape width height full) row ≡ cells_above (Rectangle width height) row
  full_above zero le = refl
  full_above (suc row) le = omega (arith, full_above row (omega (arith, le)), full_row row width (omega (arith, le)) (omega arith))

  to_shape : {cell row place : ℕ} → StandsAt (Rectangle width height) cell row place → StandsAt (Shape width height full) cell row place
  to_shape {cell} {row} {place} a = record {
    row_in = a.row_in;
    place_in = a.place_in;
    filled = full_marked (row * width + place) (omega (arith, row_room row height width a.row_in, a.place_in));
    number = omega (arith, a.number, full_above row (omega (arith, a.row_in)), full_row row place a.row_in (omega (arith, a.place_in)));
  }

  to_rectangle : {cell row place : ℕ} → StandsAt (Shape width height full) cell row place → StandsAt (Rectangle width height) cell row place
  to_rectangle {cell} {row} {place} a = record {
    row_in = a.row_in;
    place_in = a.place_in;
    filled = tt;
    number = omega (arith, a.number, full_above row (omega (arith, a.row_in)), full_row row place a.row_in (omega (arith, a.place_in)));
  }

  rectangle_alike : AreAlike (Rectangle width height) (Shape width height full)
  rectangle_alike = record {
    cells = sym (full_above height (omega arith));
    sides = refl;
    meet = λ cell side cell' side'. (
      λ m. record { row = m.row; place = m.place; row' = m.row'; place' = m.place'; here = to_shape m.here; there = to_shape m.there; against = m.against },
      λ m. record { row = m.row; place = m.place; row' = m.row'; place' = m.place'; here = to_rectangle m.here; there = to_rectangle m.there; against = m.against },
    );
  }

  full_is_board : IsBoard (Rectangle width height) → IsBoard (Shape width height full)
  full_is_board is =
      let same = full_above height (omega arith) in
      let cells = above_in_rectangle width height height in
      record {
        some = omega (arith, is.some, same);
        most = omega (arith, is.most, same);
        room = (omega (arith, is.room, cells), omega (arith, is.most, same));
        marks = (replicate (height * width) true, length-replicate (height * width) true, refl);
      }

-- each board is like itself
pub alike_itself : (s : Figure) → AreAlike s s
alike_itself s = record { cells = refl; sides = refl; meet = λ cell side cell' side'. (λ m. m, λ m. m) }

pub alike_turned : {s t : Figure} → AreAlike s t → AreAlike t s
alike_turned {s} {t} a = record {
  cells = sym a.cells;
  sides = sym a.sides;
  meet = λ cell side cell' side'. let m = a.meet cell side cell' side' in (m.1, m.0);
}

-- the second form of a board is a board like it
pub second_alike : (s : Figure) → AreAlike s (second_figure s)
second_alike (Rectangle width height) = rectangle_alike width height
second_alike (Triangle size) = alike_itself (Triangle size)
second_alike (Hexagon size) = alike_itself (Hexagon size)
second_alike (Shape width height mask) = alike_itself (Shape width height mask)

pub second_is_board : (s : Figure) → IsBoard s → IsBoard (second_figure s)
second_is_board (Rectangle width height) is = full_is_board width height is
second_is_board (Triangle size) is = is
second_is_board (Hexagon size) is = is
second_is_board (Shape width height mask) is = is

-- boards that are alike have the same border pairs
pub alike_border_pair : {s t : Figure} {cell side : ℕ} → AreAlike s t → IsBorderPair s cell side → IsBorderPair t cell side
alike_border_pair {s} {t} {cell} {side} a is = record {
  cell_in = omega (arith, a.cells, is.cell_in);
  side_in = omega (arith, a.sides, is.side_in);
  meets_nothing = λ cell' side' m. is.meets_nothing cell' side' ((a.meet cell side cell' side').1 m);
}

-- a list of what has a property is one of what has the same
pub listing_alike : {X : Type 0} {Before : X → X → Type 0} {P Q : X → Type 0} {xs : List X} → ((x : X) → P x → Q x) → ((x : X) → Q x → P x) → IsListing Before P xs → IsListing Before Q xs
listing_alike to from is = record { only = λ x h. to x (is.only x h); all = λ x h. is.all x (from x h); rising = is.rising }

-- in the same order
pub alike_border_order : {s t : Figure} (pairs : List (ℕ × ℕ)) → AreAlike s t → IsBorderOrder s pairs → IsBorderOrder t pairs
alike_border_order {s} {t} pairs a is =
    listing_alike (λ pair h. alike_border_pair a h) (λ pair h. alike_border_pair (alike_turned a) h) is
