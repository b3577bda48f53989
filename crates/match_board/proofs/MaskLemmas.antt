-- Cells of a mask, counted.
use Rattle.std.proofs.Common.{◌≡◌, ◌<◌, ◌≤◌, ◌+◌, ◌*◌, ◌-◌, ◌++◌, ℕ, zero, suc, Bool, true, false, List, length, replicate, get_or, set, take, ◌∷◌, [], append_assoc, cond, ◌↔◌, arith, refl, ap, sym, ◌∙◌, inl, inr, subst}
use Rattle.std.proofs.lemmas.Bool.{cases_lt, cond-true}
use Rattle.std.proofs.lemmas.List.{get_or_append_left, ext_get_or}
use Rattle.std.proofs.Math.Nat.{mul-le-mul_right}
use Rattle.std.proofs.Math.Seq.{take-suc, set-append_seam}
use Rattle.std.proofs.lemmas.List.{length-take}
use Rattle.std.specs.Prelude.{slice_index_or}
use Rattle.match_board.specs.Board.{IsMarked, marks_from, cells_above, cell_count, mask_of, shape_of, MarksItsPlaces, IsBoard, HasRoom}
use Rattle.match_limits.specs.declared.TheConstants.{MOST_CELLS, MOST_PLACES}
use Rattle.match_board.specs.declared.figures.Figure.TheVariants.{Shape}

-- a place counts for one at most
cond_few : (b : Bool) → cond {A = ℕ} b 1 0 ≤ 1
cond_few true = omega arith
cond_few false = omega arith

-- a place with a cell counts for one more
pub mark_next : (mask : List Bool) (first more : ℕ) → IsMarked mask (first + more) → marks_from mask first (suc more) ≡ marks_from mask first more + 1
mark_next mask first more is = omega (arith, cond-true {A = ℕ} (slice_index_or mask (first + more) false) 1 0 is)

-- there is no less among more places
pub marks_grow : (mask : List Bool) (first more more' : ℕ) → more ≤ more' → marks_from mask first more ≤ marks_from mask first more'
marks_grow mask first zero zero le = omega arith
marks_grow mask first (suc more) zero le = absurd (omega (arith, le))
marks_grow mask first more (suc more') le =
    elim (cases_lt more' more) [
      | inl lt ↦ (let same : more ≡ suc more' = omega (arith, lt, le) in omega (arith, ap (λ n. marks_from mask first n) same))
      | inr ge ↦ omega (arith, marks_grow mask first more more' ge)
    ]

-- a cell is one more among the places behind it
pub marks_before : (mask : List Bool) (first place place' : ℕ) → IsMarked mask (first + place) → place < place' → marks_from mask first place < marks_from mask first place'
marks_before mask first place place' is lt =
    omega (arith, mark_next mask first place is, marks_grow mask first (suc place) place' (omega (arith, lt)))

-- no more cells than places
pub marks_few : (mask : List Bool) (first more : ℕ) → marks_from mask first more ≤ more
marks_few mask first zero = omega arith
marks_few mask first (suc more) = omega (arith, marks_few mask first more, cond_few (slice_index_or mask (first + more) false))

-- the places from the first on, and those behind them
pub marks_append : (mask : List Bool) (first more others : ℕ) → marks_from mask first (more + others) ≡ marks_from mask first more + marks_from mask (first + more) others
marks_append mask first more zero = let e : more + 0 ≡ more = omega arith in omega (arith, ap (λ n. marks_from mask first n) e)
marks_append mask first more (suc others) =
    let e : more + suc others ≡ suc (more + others) = omega arith in
    let at : first + (more + others) ≡ first + more + others = omega arith in
    omega (arith, ap (λ n. marks_from mask first n) e, marks_append mask first more others, ap (λ n. cond {A = ℕ} (slice_index_or mask n false) 1 0) at)

-- rows above a row, as places one after the other
pub above_in_shape : (width height : ℕ) (mask : List Bool) (row : ℕ) → cells_above (Shape width height mask) row ≡ marks_from mask 0 (row * width)
above_in_shape width height mask zero = let e : 0 * width ≡ 0 = omega arith in omega (arith, ap (λ n. marks_from mask 0 n) e)
above_in_shape width height mask (suc row) =
    let e : suc row * width ≡ row * width + width = omega arith in
    let start : 0 + row * width ≡ row * width = omega arith in
    omega (arith, above_in_shape width height mask row, ap (λ n. marks_from mask 0 n) e, marks_append mask 0 (row * width) width, ap (λ n. marks_from mask n width) start)

-- masks that agree have as many cells
pub marks_same : (mask other : List Bool) (places : ℕ) → ((n : ℕ) → n < places → slice_index_or mask n false ≡ slice_index_or other n false) → marks_from mask 0 places ≡ marks_from other 0 places
marks_same mask other zero same = refl
marks_same mask other (suc places) same =
    omega (arith, marks_same mask other places (λ n lt. same n (omega (arith, lt))), ap (λ b. cond {A = ℕ} b 1 0) (same (0 + places) (omega arith)))

-- a shape has the cells of its mask
pub cells_of_shape : (width height : ℕ) (marks : List Bool) → length marks ≡ height * width → cell_count (shape_of width height marks) ≡ marks_from marks 0 (length marks)
cells_of_shape width height marks long =
    let mask = mask_of marks in
    let same = marks_same mask marks (length marks) (λ n lt. get_or_append_left marks (replicate (MOST_PLACES - length marks) false) false n lt) in
    omega (arith, above_in_shape width height mask height, ap (λ n. marks_from mask 0 n) (sym long), same)

-- a shape with cells, and not too many of them and of places, is a board
pub shape_is_board : (width height : ℕ) (marks : List Bool) → length marks ≡ height * width → length marks ≤ MOST_PLACES → 1 ≤ marks_from marks 0 (length marks) → marks_from marks 0 (length marks) ≤ MOST_CELLS → IsBoard (shape_of width height marks)
shape_is_board width height marks long room some most =
    let same = cells_of_shape width height marks long in
    record {
      some = omega (arith, same, some);
      most = omega (arith, same, most);
      room = (omega (arith, long, room), omega (arith, same, most));
      marks = (marks, long, refl);
    }

-- a shape with cells is too large by its places or its cells
pub shape_has_room : (width height : ℕ) (marks : List Bool) → length marks ≡ height * width → HasRoom (shape_of width height marks) → (length marks ≤ MOST_PLACES) × (marks_from marks 0 (length marks) ≤ MOST_CELLS)
shape_has_room width height marks long room =
    let same = cells_of_shape width height marks long in
    (omega (arith, long, room.0), omega (arith, same, room.1))

-- a row's places are among those of the rectangle
pub row_room : (row height width : ℕ) → row < height → row * width + width ≤ height * width
row_room row height width lt = let le : suc row ≤ height = omega (arith, lt) in omega (arith, mul-le-mul_right {m = suc row} {n = height} width le)

-- one more mark than so many, when the place before the rest is set
pub kept_next : (mask : List Bool) (place room : ℕ) → place < length mask → length mask ≤ room → set (take place mask ++ replicate (room - place) false) place (get_or mask place false) ≡ take (place + 1) mask ++ replicate (room - (place + 1)) false
kept_next mask place room lt le =
    let mark = get_or mask place false in
    let rest = replicate (room - (place + 1)) false in
    let long : length (take place mask) ≡ place = omega (arith, length-take place mask, lt) in
    let more : room - place ≡ suc (room - (place + 1)) = omega (arith, lt, le) in
    let split : take place mask ++ replicate (room - place) false ≡ take place mask ++ false ∷ rest = ap (λ n. take place mask ++ replicate n false) more in
    let seam : set (take place mask ++ false ∷ rest) (length (take place mask)) mark ≡ take place mask ++ mark ∷ rest = set-append_seam (take place mask) false rest mark in
    let at : set (take place mask ++ false ∷ rest) place mark ≡ take place mask ++ mark ∷ rest = subst (λ n. set (take place mask ++ false ∷ rest) n mark ≡ take place mask ++ mark ∷ rest) long seam in
    let next : take (suc place) mask ≡ take place mask ++ mark ∷ [] = take-suc mask place false lt in
    let plus : place + 1 ≡ suc place = omega arith in
    let whole : take (place + 1) mask ++ rest ≡ (take place mask ++ mark ∷ []) ++ rest = ap (λ xs. xs ++ rest) (ap (λ n. take n mask) plus ∙ next) in
    ap (λ xs. set xs place mark) split ∙ at ∙ sym (whole ∙ append_assoc (take place mask) (mark ∷ []) rest)

-- what is true together is the same
same_truth : (a b : Bool) → (a ≡ true) ↔ (b ≡ true) → a ≡ b
same_truth true b same = sym (same.0 refl)
same_truth false true same = same.1 refl
same_truth false false same = refl

-- a mark of the mask that has it
kept_mark : (mask marks : List Bool) (n : ℕ) → mask ≡ mask_of marks → n < length marks → get_or mask n false ≡ get_or marks n false
kept_mark mask marks n e lt =
    ap (λ xs. get_or xs n false) e ∙ get_or_append_left marks (replicate (MOST_PLACES - length marks) false) false n lt

-- shapes with the same width, height and cells are the same
pub one_mask : (width height : ℕ) (mask other : List Bool) → MarksItsPlaces (Shape width height mask) → MarksItsPlaces (Shape width height other) → ((n : ℕ) → n < height * width → IsMarked mask n ↔ IsMarked other n) → mask ≡ other
one_mask width height mask other is is' same =
    is.2
    ∙ ap mask_of (ext_get_or false is.0 is'.0 (is.1 ∙ sym is'.1) (λ n lt. mark n (omega (arith, lt, is.1))))
    ∙ sym is'.2
  where
    mark : (n : ℕ) → n < height * width → get_or is.0 n false ≡ get_or is'.0 n false
    mark n lt =
        sym (kept_mark mask is.0 n is.2 (omega (arith, lt, is.1)))
        ∙ same_truth (get_or mask n false) (get_or other n false) (same n lt)
        ∙ kept_mark other is'.0 n is'.2 (omega (arith, lt, is'.1))
