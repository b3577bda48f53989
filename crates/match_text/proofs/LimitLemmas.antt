-- Each puzzle is within the limits of its text.
use Rattle.std.proofs.Common.{Bool, ◌≡◌, ◌≢◌, ◌⊎◌, ◌<◌, ◌≤◌, ◌+◌, ◌*◌, ℕ, zero, suc, List, [], ◌∷◌, All, length, get_or, Option, Some, None, arith, refl, sym, subst, inl, inr, ⊎_elim}
use Rattle.match_limits.specs.declared.TheConstants.{MOST_PLAIN_CELLS, MOST_PLACES, MOST_LENGTH, MOST_COLOURS}
use Rattle.match_limits.specs.declared.ranges.Ranges.{Ranges}
use Rattle.match_limits.specs.declared.ranges.TheConstants.{SECOND}
use Rattle.match_limits.specs.Ranges.{ranges_of, AreRanges}
use Rattle.match_limits.proofs.RangesLemmas.{are_ranges}
use Rattle.match_limits.proofs.ListLemmas.{contains_at}
use Rattle.std.proofs.lemmas.Bool.{ne_eqb}
use Rattle.match_board.specs.Mates.{Mating, IsOfVersion}
use Rattle.match_board.specs.Clues.{Clue}
use Rattle.text_words.specs.Within.{IsRuleWithin, IsWordWithin, IsClueWithin}
use Rattle.std.specs.Prelude.{slice_get, slice_index_or}
use Rattle.std.specs.List.{AllByRecursion}
use Rattle.std.proofs.lemmas.List.{get_or_default}
use Rattle.std.proofs.lemmas.List.Elements.{All-contains_itself}
use Rattle.match_board.specs.Board.{cell_count, side_count, row_length, HasRoom, IsPlain, IsShape, IsBoard, IsBorderPair, IsBorderOrder, StandsAt, Meets, SquaresLieBefore, LiesAgainst}
use Rattle.match_board.proofs.MaskLemmas.{above_in_shape, marks_few}
use Rattle.match_board.specs.declared.figures.Figure.{Figure}
use Rattle.match_board.specs.declared.figures.Figure.TheVariants.{Rectangle, Triangle, Hexagon, Shape}
use Rattle.match_board.proofs.Places.{above_in_rectangle, above_in_triangle, cells_in_hexagon, whole_row, left_of_later, met_place}
use Rattle.match_puzzle.specs.Puzzle.{Task, IsPuzzle, AreClues}
use Rattle.match_board.specs.Borders.{BorderRule, free, one, each, IsAsLongAsBorder, StandsInRule}
use Rattle.match_text.specs.PuzzleSpelling.{IsFigureWithin, IsBorderWithin, AreRulesWithin, AreCluesWithin, IsTaskWithin}

-- ---- boards

factors_within : (a b : ℕ) → 1 ≤ a * b → a * b ≤ MOST_PLAIN_CELLS → (a ≤ MOST_LENGTH) × (b ≤ MOST_LENGTH)
factors_within zero b low high = absurd (omega (arith, low))
factors_within (suc a) zero low high = absurd (omega (arith, low))
factors_within (suc a) (suc b) low high = (omega (arith, high), omega (arith, high))

-- a shape has a row and a column at least
some_places : (height width : ℕ) (mask : List Bool) → 1 ≤ cell_count (Shape width height mask) → 1 ≤ height * width
some_places height width mask some = omega (arith, some, above_in_shape width height mask height, marks_few mask 0 (height * width))

-- each is at most as many as the places
sides_within : (height width most : ℕ) → 1 ≤ height * width → height * width ≤ most → ((1 ≤ width) × (width ≤ most)) × ((1 ≤ height) × (height ≤ most))
sides_within zero width most low high = absurd (omega (arith, low))
sides_within (suc height) zero most low high = absurd (omega (arith, low))
sides_within (suc height) (suc width) most low high = ((omega arith, omega (arith, high)), (omega arith, omega (arith, high)))

figure_within : (version : ℕ) (s : Figure) → IsBoard s → (IsShape s → 2 ≤ version) → IsFigureWithin version s
figure_within version (Rectangle width height) is shapes =
    let cells = above_in_rectangle width height height in
    let both = factors_within height width (omega (arith, cells, is.some)) (omega (arith, cells, is.room)) in
    (both.1, both.0)
figure_within version (Triangle size) is shapes =
    let cells = above_in_triangle size size in
    (factors_within size size (omega (arith, cells, is.some)) (omega (arith, cells, is.room))).0
figure_within version (Hexagon size) is shapes =
    let cells = cells_in_hexagon size in
    (factors_within (6 * size) size (omega (arith, cells, is.some)) (omega (arith, cells, is.room))).1
figure_within version (Shape width height mask) is shapes =
    let both = sides_within height width MOST_PLACES (some_places height width mask is.some) is.room.0 in
    (shapes (λ plain. plain), both.0, both.1, is.marks)

three_or_four : (s : Figure) → (side_count s ≡ 3) ⊎ (side_count s ≡ 4)
three_or_four (Rectangle width height) = inr refl
three_or_four (Triangle size) = inl refl
three_or_four (Hexagon size) = inl refl
three_or_four (Shape width height mask) = inr refl

-- ---- the first cell is at the border

-- the number of a side of the first cell that meets nothing
abbrev outer_side : Figure → ℕ
outer_side (Rectangle width height) = 0
outer_side (Triangle size) = 0
outer_side (Hexagon size) = 2
outer_side (Shape width height mask) = 0

outer_in : (s : Figure) → outer_side s < side_count s
outer_in (Rectangle width height) = omega arith
outer_in (Triangle size) = omega arith
outer_in (Hexagon size) = omega arith
outer_in (Shape width height mask) = omega arith

first_place : (s : Figure) → IsPlain s → 1 ≤ cell_count s → StandsAt s 0 0 0
first_place (Rectangle width zero) plain some = absurd (omega (arith, some))
first_place (Rectangle zero (suc height)) plain some = absurd (omega (arith, above_in_rectangle 0 (suc height) (suc height), some))
first_place (Rectangle (suc width) (suc height)) plain some = record { row_in = omega arith; place_in = omega arith; filled = tt; number = refl }
first_place (Triangle zero) plain some = absurd (omega (arith, some))
first_place (Triangle (suc size)) plain some = record { row_in = omega arith; place_in = omega arith; filled = tt; number = refl }
first_place (Hexagon zero) plain some = absurd (omega (arith, some))
first_place (Hexagon (suc size)) plain some = record { row_in = omega arith; place_in = omega arith; filled = tt; number = refl }
first_place (Shape width height mask) plain some = absurd plain

outer_against : (s : Figure) → IsPlain s → (row' place' side' : ℕ) → 1 ≤ cell_count s → place' < row_length s row' → LiesAgainst s 0 0 (outer_side s) row' place' side' → ⊥
outer_against (Rectangle width height) plain row' place' side' some lt h = grind arith
outer_against (Triangle size) plain row' place' side' some lt h = grind arith
outer_against (Hexagon zero) plain row' place' side' some lt h = omega (arith, some)
outer_against (Hexagon (suc size)) plain row' place' side' some lt h = grind arith
outer_against (Shape width height mask) plain row' place' side' some lt h = absurd plain

abbrev MeetsNothing : Figure → Type 0
MeetsNothing s = (c k : ℕ) → Meets s 0 (outer_side s) c k → ⊥

plain_outer : (s : Figure) → IsPlain s → 1 ≤ cell_count s → MeetsNothing s
plain_outer s plain some c k m = let other = met_place m (first_place s plain some) in outer_against s plain other.0 other.1 k some other.2.place_in other.3

-- what lies against the north side of a square stands in the row above
north_against : (row place row' place' side' : ℕ) → SquaresLieBefore row place 0 row' place' side' ⊎ SquaresLieBefore row' place' side' row place 0 → row' < row
north_against row place row' place' side' h = grind arith

-- no cell has a lesser number than the first
none_above : (s : Figure) (cell row place row' place' : ℕ) → StandsAt s 0 row place → StandsAt s cell row' place' → row' < row → ⊥
none_above s cell row place row' place' here there lt =
    omega (arith, whole_row s row' row lt, left_of_later s row' place' (row_length s row') there.filled there.place_in, here.number)

shape_outer : (width height : ℕ) (mask : List Bool) → MeetsNothing (Shape width height mask)
shape_outer width height mask c k m =
    none_above (Shape width height mask) c m.row m.place m.row' m.place' m.here m.there (north_against m.row m.place m.row' m.place' k m.against)

outer_meets : (s : Figure) → 1 ≤ cell_count s → MeetsNothing s
outer_meets (Rectangle width height) some c k m = plain_outer (Rectangle width height) tt some c k m
outer_meets (Triangle size) some c k m = plain_outer (Triangle size) tt some c k m
outer_meets (Hexagon size) some c k m = plain_outer (Hexagon size) tt some c k m
outer_meets (Shape width height mask) some c k m = shape_outer width height mask c k m

outer_pair : (s : Figure) → 1 ≤ cell_count s → IsBorderPair s 0 (outer_side s)
outer_pair s some = record { cell_in = omega (arith, some); side_in = outer_in s; meets_nothing = outer_meets s some }

-- ---- as many border pairs as a line has rules

rises : (s : Figure) (pairs : List (ℕ × ℕ)) → IsBorderOrder s pairs → (i : ℕ) → i < length pairs → i ≤ 4 * (get_or pairs i (0, 0)).0 + (get_or pairs i (0, 0)).1
rises s pairs order zero lt = omega arith
rises s pairs order (suc i) lt =
    let before : i < length pairs = omega (arith, lt) in
    let so_far = rises s pairs order i before in
    let pair = order.only (get_or pairs i (0, 0)) (All-contains_itself pairs i (0, 0) before) in
    let few : side_count s ≤ 4 = ⊎_elim (λ e. omega (arith, e)) (λ e. omega (arith, e)) (three_or_four s) in
    ⊎_elim (λ less. omega (arith, so_far, pair.side_in, few, less)) (λ same. omega (arith, so_far, same.0, same.1)) (order.rising i (suc i) (0, 0) (omega arith) lt)

few_pairs : (s : Figure) (cells : ℕ) → cell_count s ≤ cells → (pairs : List (ℕ × ℕ)) → IsBorderOrder s pairs → (n : ℕ) → length pairs ≡ n → n ≤ 4 * cells
few_pairs s cells most pairs order zero e = omega arith
few_pairs s cells most pairs order (suc n) e =
    let last : n < length pairs = omega (arith, e) in
    let so_far = rises s pairs order n last in
    let pair = order.only (get_or pairs n (0, 0)) (All-contains_itself pairs n (0, 0) last) in
    let few : side_count s ≤ 4 = ⊎_elim (λ e. omega (arith, e)) (λ e. omega (arith, e)) (three_or_four s) in
    omega (arith, so_far, pair.side_in, pair.cell_in, few, most)

some_pair : (s : Figure) → 1 ≤ cell_count s → (pairs : List (ℕ × ℕ)) → IsBorderOrder s pairs → 0 < length pairs
some_pair s some pairs order = let at = order.all (0, outer_side s) (outer_pair s some) in omega (arith, at.1)

-- ---- rules and words

pub rules_of_border : (ranges : Ranges) (border : BorderRule) → IsBorderWithin ranges border → AreRulesWithin border
rules_of_border ranges free within = tt
rules_of_border ranges (one c) within = within
rules_of_border ranges (each rules) within = within.2

rules_within : (rules : List (Option ℕ)) → ((place colour : ℕ) → slice_get rules place ≡ Some (Some colour) → colour < MOST_COLOURS) → AllByRecursion IsRuleWithin rules
rules_within [] h = tt
rules_within (None ∷ rules) h = (tt, rules_within rules (λ place colour e. h (suc place) colour e))
rules_within (Some c ∷ rules) h = (h 0 c refl, rules_within rules (λ place colour e. h (suc place) colour e))

border_within : (ranges : Ranges) → AreRanges ranges → (s : Figure) → 1 ≤ cell_count s → cell_count s ≤ ranges.most_cells → (border : BorderRule) → IsAsLongAsBorder s border → ((place colour : ℕ) → StandsInRule border place colour → colour < MOST_COLOURS)
    → IsBorderWithin ranges border
border_within ranges are s some most free long colours = tt
border_within ranges are s some most (one c) long colours = colours 0 c (refl, refl)
border_within ranges are s some most (each rules) long colours =
    let some_rules = some_pair s some long.0 long.1 in
    let few = few_pairs s ranges.most_cells most long.0 long.1 (length long.0) refl in
    (omega (arith, some_rules, long.2), omega (arith, few, long.2, are.rules), rules_within rules colours)

colours_within : (word : List ℕ) → All (λ c. c < MOST_COLOURS) word → AllByRecursion (λ c. c < MOST_COLOURS) word
colours_within [] h = tt
colours_within (c ∷ word) h = (h 0 0 (omega arith), colours_within word (λ k d lt. h (suc k) d (omega (arith, lt))))

words_within : (sides : ℕ) → (sides ≡ 3) ⊎ (sides ≡ 4) → (words : List (List ℕ)) → ((tile : ℕ) → tile < length words → length (slice_index_or words tile []) ≡ sides)
    → ((tile : ℕ) → tile < length words → All (λ c. c < MOST_COLOURS) (slice_index_or words tile [])) → AllByRecursion IsWordWithin words
words_within sides few [] long colours = tt
words_within sides few (word ∷ words) long colours = (
  (subst (λ n. (n ≡ 3) ⊎ (n ≡ 4)) (sym (long 0 (omega arith))) few, colours_within word (colours 0 (omega arith))),
  words_within sides few words (λ tile lt. long (suc tile) (omega (arith, lt))) (λ tile lt. colours (suc tile) (omega (arith, lt))),
)

listed_within : (mates : List ℕ) → ((k : ℕ) → k < length mates → slice_index_or mates k k < MOST_COLOURS) → AllByRecursion (λ c. c < MOST_COLOURS) mates
listed_within mates h = colours_within mates (λ k d lt. subst (λ n. n < MOST_COLOURS) (get_or_default mates k k d lt) (h k lt))

mates_below : (p : Task) → IsPuzzle p → (k : ℕ) → k < length p.mating.mates → slice_index_or p.mating.mates k k < MOST_COLOURS
mates_below p is k lt = let few = is.mating.mates.few in let mate = (is.mating.mates.each k lt).0 in omega (arith, few, mate)

-- ---- cells

plain_room : (s : Figure) → IsPlain s → HasRoom s → cell_count s ≤ MOST_PLAIN_CELLS
plain_room (Rectangle width height) plain room = room
plain_room (Triangle size) plain room = room
plain_room (Hexagon size) plain room = room
plain_room (Shape width height mask) plain room = absurd plain

-- a board of version 1 is plain
first_plain : (s : Figure) → (IsShape s → ⊥) → IsPlain s
first_plain (Rectangle width height) not = tt
first_plain (Triangle size) not = tt
first_plain (Hexagon size) not = tt
first_plain (Shape width height mask) not = not (λ plain. plain)

later_ranges : (version : ℕ) → 2 ≤ version → ranges_of version ≡ SECOND
unfolding ranges_of
later_ranges version later = rw (ne_eqb version 1 (λ one. omega (arith, one, later))) refl

-- a board has as many cells as a text of its puzzle's version may name
cells_in_version : (s : Figure) (version : ℕ) → IsBoard s → (IsShape s → 2 ≤ version) → (version ≡ 1) ⊎ (2 ≤ version) → cell_count s ≤ (ranges_of version).most_cells
cells_in_version s version is shapes versions =
    ⊎_elim
    (λ one.
    let are = are_ranges version in
    omega (arith, are.plain, plain_room s (first_plain s (λ shape. omega (arith, one, shapes shape))) is.room))
    (λ later. subst (λ (r : Ranges). cell_count s ≤ r.most_cells) (sym (later_ranges version later)) is.most)
    versions

first_or_later : (m : Mating) → IsOfVersion m → (m.version ≡ 1) ⊎ (2 ≤ m.version)
first_or_later m is = ⊎_elim (λ w. inl w.0) (λ later. inr (⊎_elim (λ two. omega (arith, two)) (λ three. omega (arith, three)) later)) is

cells_within : (p : Task) → IsPuzzle p → cell_count p.board ≤ (ranges_of p.mating.version).most_cells
cells_within p is = cells_in_version p.board p.mating.version is.board is.shapes (first_or_later p.mating is.mating.version)

-- ---- clues

before_third : (m : Mating) → IsOfVersion m → m.version ≢ 3 → m.version < 3
before_third m is other = ⊎_elim (λ w. let one = w.0 in omega (arith, one)) (λ later. ⊎_elim (λ two. omega (arith, two)) (λ three. absurd (other three)) later) is

-- what stands at a place of a list
got : (clues : List Clue) (n : ℕ) → n < length clues → (c : Clue) × (slice_get clues n ≡ Some c)
got [] n lt = absurd (omega (arith, lt))
got (c ∷ clues) zero lt = (c, refl)
got (c ∷ clues) (suc n) lt = got clues n (omega (arith, lt))

clue_rises : (clues : List Clue) → ((n m : ℕ) (c d : Clue) → slice_get clues n ≡ Some c → slice_get clues m ≡ Some d → n < m → c.cell < d.cell) → (n : ℕ) (c : Clue) → slice_get clues n ≡ Some c → n < length clues → n ≤ c.cell
clue_rises clues rising zero c at lt = omega arith
clue_rises clues rising (suc n) c at lt =
    let before = got clues n (omega (arith, lt)) in
    let so_far = clue_rises clues rising n before.0 before.1 (omega (arith, lt)) in
    let less = rising n (suc n) before.0 c before.1 at (omega arith) in
    omega (arith, so_far, less)

few_clues : (p : Task) → AreClues p → (n : ℕ) → length p.clues ≡ n → n ≤ cell_count p.board
few_clues p are zero e = omega arith
few_clues p are (suc n) e =
    let last = got p.clues n (omega (arith, e)) in
    let low = clue_rises p.clues are.rising n last.0 last.1 (omega (arith, e)) in
    let high = are.cells n last.0 last.1 in
    omega (arith, low, high)

clues_fit : (clues : List Clue) → ((n : ℕ) (c : Clue) → slice_get clues n ≡ Some c → IsClueWithin c) → AllByRecursion IsClueWithin clues
clues_fit [] h = tt
clues_fit (c ∷ clues) h = (h 0 c refl, clues_fit clues (λ n d at. h (suc n) d at))

clue_fits : (p : Task) → IsPuzzle p → (n : ℕ) (c : Clue) → slice_get p.clues n ≡ Some c → IsClueWithin c
clue_fits p is n c at =
    let cell = is.clues.cells n c at in
    let most = is.board.most in
    let sides = subst (λ k. (k ≡ 3) ⊎ (k ≡ 4)) (sym (is.clues.sides n c at)) (three_or_four p.board) in
    (omega (arith, cell, most), (sides, rules_within c.asks (λ side colour e. is.clues.colours c.cell side colour (c, contains_at p.clues n c at, refl, e))))

clues_within : (p : Task) → IsPuzzle p → AreCluesWithin p.mating.version p.clues
clues_within p is =
    let few = few_clues p is.clues (length p.clues) refl in
    let most = is.board.most in
    ((λ other. is.without (before_third p.mating is.mating.version other)), omega (arith, few, most), clues_fit p.clues (clue_fits p is))

tiles_within : (p : Task) → IsPuzzle p → length p.words ≤ (ranges_of p.mating.version).most_cells
unfolding ranges_of
tiles_within p is =
    let as_many : p.mating.version < 3 → length p.words ≤ (ranges_of p.mating.version).most_cells = λ before. let same = is.tiles.as_many before in omega (arith, same, cells_within p is) in
    ⊎_elim
    (λ one. as_many (let e = one.0 in omega (arith, e)))
    (λ later.
    ⊎_elim
    (λ e. as_many (omega (arith, e)))
    (λ e. subst (λ v. length p.words ≤ (ranges_of v).most_cells) (sym e) is.tiles.few)
    later)
    is.mating.version

pub puzzle_within : (p : Task) → IsPuzzle p → IsTaskWithin p
puzzle_within p is = record {
  board = figure_within p.mating.version p.board is.board is.shapes;
  border = border_within (ranges_of p.mating.version) (are_ranges p.mating.version) p.board is.board.some (cells_within p is) p.border is.border is.border_colours;
  some_tiles = let enough = is.tiles.enough in omega (arith, enough, is.board.some);
  few_tiles = tiles_within p is;
  mating = (is.mating.version, is.mating.mates.few, listed_within p.mating.mates (λ k lt. mates_below p is k lt));
  clues = clues_within p is;
  words = words_within (side_count p.board) (three_or_four p.board) p.words is.sides is.tile_colours;
}
