-- Drawings that are the same text show the same.
use Rattle.std.proofs.Common.{◌≡◌, ◌≢◌, ◌⊎◌, ◌<◌, ◌≤◌, ◌+◌, ◌-◌, ◌*◌, ◌^◌, ◌++◌, ◌==◌, ℕ, zero, suc, List, [], ◌∷◌, Option, Some, None, Bool, true, false, not, is_some, if◌then◌else◌, map, option_map, length, replicate, decimal, slice_get, slice_index, nat_lt, refl, ap, sym, subst, ◌∙◌, arith, ⊎_elim, eqb-true}
use Rattle.std.specs.List.{range_with_len}
use Rattle.std.proofs.lemmas.Bool.Decides.{leb_tells, eqb_tells}
use Rattle.std.proofs.lemmas.Fmt.{decimal_injective, decimal_by_steps, length-decimal-le}
use Rattle.std.proofs.lemmas.List.{append_cancel_left}
use Rattle.match_board.specs.Board.{side_count}
use Rattle.match_puzzle.proofs.Prefixes.{inside}
use Rattle.match_puzzle.specs.Prefix.{Layout}
use Rattle.text_words.specs.Spelling.{colour_character}
use Rattle.show_text.specs.declared.faces.Face.{Face}
use Rattle.show_text.specs.declared.squares.Part.{Part}
use Rattle.show_text.specs.declared.squares.Part.TheVariants.{Top, Middle, Bottom}
use Rattle.show_text.specs.declared.triangles.Level.{Level}
use Rattle.show_text.specs.declared.triangles.Level.TheVariants.{Tip, Blank, Number, Tile, Base}
use Rattle.show_text.specs.Face.{IsFace, ShowsTile, ShowsRules}
use Rattle.show_text.specs.Pieces.{spaces, padded, star}
use Rattle.show_text.specs.Squares.{square_part, inside_width, post_after, posted, fenced, dashes, edge_piece, edge_line, part_line, square_lines}
use Rattle.show_text.specs.Triangles.{triangle_part, own_level, above_base, rows_in, level_stroke, sign_on, slant, crossed, level_line, roofs, roof_line, triangle_lines}
use Rattle.show_text.specs.Laws.{ShowAlike}
use Rattle.show_text.proofs.PlaceLemmas.{FitsIn, length-padded}
use Rattle.show_text.proofs.CleanLemmas.{IsClean, AreClean, AreCleanLines, clean_above, clean_space, clean_append, clean_replicate, clean_decimal}

none_some : {X : Type 0} {x : X} → None ≡ Some x → ⊥
none_some e = cc

-- ---- signs

-- a clean byte that is no line
abbrev pub IsSign : ℕ → Type 0
IsSign byte = IsClean byte × (byte ≢ 95)

sign_of_colour : (colour : ℕ) → IsSign (colour_character colour)
sign_of_colour colour =
    ⊎_elim
    (λ low. subst IsSign (sym (digit low.0)) (clean_above (colour + 48) (omega arith), λ e. omega (arith, e, low.1)))
    (λ high. subst IsSign (sym (letter high.0)) (clean_above (colour + 87) (omega arith), λ e. omega (arith, e, high.1)))
    (leb_tells (suc colour) 10)
  where
    digit : nat_lt colour 10 ≡ true → colour_character colour ≡ colour + 48
    digit e = rw e refl

    letter : nat_lt colour 10 ≡ false → colour_character colour ≡ colour + 87
    letter e = rw e refl

sign_of_space : IsSign 32
sign_of_space = (clean_space, λ e. omega (arith, e))

-- the signs of a face
pub face_signs : (q : Layout) (mark : Option ℕ) (face : Face) → IsFace q mark face → (side : ℕ) → side < side_count q.puzzle.board → IsSign (slice_index face.signs side)
face_signs q mark face is side lt =
    ⊎_elim
    (λ (shows : ShowsTile q face). subst IsSign (sym (shows.signs side lt)) (sign_of_colour _))
    (λ (shows : ShowsRules q face).
    ⊎_elim
    (λ asked. subst IsSign (sym asked.2) (sign_of_colour asked.0))
    (λ none. subst IsSign (sym none.1) sign_of_space)
    (shows.signs side lt))
    is.shows

-- ---- what is clean

-- A face with numbers of a puzzle, and signs.
pub record IsSound (sides : ℕ) (face : Face) : Type 0 where
  pub cell : face.cell < 1000
  pub tile : (tile : ℕ) → face.tile ≡ Some tile → tile < 1000
  pub signs : (side : ℕ) → side < sides → IsSign (slice_index face.signs side)

clean_padded : (digits : ℕ) (number : Option ℕ) → ((n : ℕ) → number ≡ Some n → n < 1000) → AreClean (padded digits number)
clean_padded digits None few = clean_replicate digits 32 clean_space
clean_padded digits (Some n) few =
    let lt = few n refl in
    clean_append (spaces (digits - length (decimal n))) (decimal n) (clean_replicate (digits - length (decimal n)) 32 clean_space) (clean_decimal n (omega (arith, lt)))

clean_cell : (digits : ℕ) (face : Face) → face.cell < 1000 → AreClean (padded digits (Some face.cell))
clean_cell digits face lt = clean_padded digits (Some face.cell) (λ n is. subst (λ m. m < 1000) (inside is) lt)

clean_star : (marked : Bool) → IsClean (star marked)
clean_star true = clean_above 42 (omega arith)
clean_star false = clean_space

clean_square_part : (digits : ℕ) (part : Part) (face : Face) → IsSound 4 face → AreClean (square_part digits part face)
clean_square_part digits Top face sound =
    clean_append (padded digits (Some face.cell)) (star face.marked ∷ 32 ∷ slice_index face.signs 0 ∷ spaces 3) (clean_cell digits face sound.cell)
    (clean_star face.marked, (clean_space, ((sound.signs 0 (omega arith)).0, clean_replicate 3 32 clean_space)))
clean_square_part digits Middle face sound = (
  clean_space,
  (
    (sound.signs 3 (omega arith)).0,
    (
      clean_space,
      clean_append (padded digits face.tile) (32 ∷ slice_index face.signs 1 ∷ 32 ∷ []) (clean_padded digits face.tile sound.tile)
          (clean_space, ((sound.signs 1 (omega arith)).0, (clean_space, tt))),
    ),
  ),
)
clean_square_part digits Bottom face sound =
    clean_append (spaces (digits + 2)) (slice_index face.signs 2 ∷ spaces 3) (clean_replicate (digits + 2) 32 clean_space)
    ((sound.signs 2 (omega arith)).0, clean_replicate 3 32 clean_space)

clean_post : (sign : ℕ) (before : Bool) → IsClean sign → IsClean (post_after sign before)
clean_post sign true clean = clean
clean_post sign false clean = clean_space

clean_posted : (sign width : ℕ) (before : Bool) (piece : Option (List ℕ)) → IsClean sign → ((p : List ℕ) → piece ≡ Some p → AreClean p) → AreClean (posted sign width before piece)
clean_posted sign width before None clean pieces = (clean_post sign before clean, clean_replicate width 32 clean_space)
clean_posted sign width before (Some piece) clean pieces = (clean, pieces piece refl)

clean_fenced : (sign width : ℕ) (before : Bool) (pieces : List (Option (List ℕ))) → IsClean sign → ((k : ℕ) (p : List ℕ) → slice_get pieces k ≡ Some (Some p) → AreClean p) → AreClean (fenced sign width before pieces)
clean_fenced sign width before [] clean each = (clean_post sign before clean, tt)
clean_fenced sign width before (piece ∷ pieces) clean each =
    clean_append (posted sign width before piece) (fenced sign width (is_some piece) pieces)
    (clean_posted sign width before piece clean (λ p is. each 0 p (ap Some is)))
    (clean_fenced sign width (is_some piece) pieces clean (λ k p is. each (suc k) p is))

clean_mapped : {X : Type 0} (f : X → Option (List ℕ)) (xs : List X) → ((k : ℕ) (x : X) (p : List ℕ) → slice_get xs k ≡ Some x → f x ≡ Some p → AreClean p) → (k : ℕ) (p : List ℕ) → slice_get (map f xs) k ≡ Some (Some p) → AreClean p
clean_mapped f [] each k p at = absurd (none_some at)
clean_mapped f (x ∷ xs) each zero p at = each 0 x p refl (inside at)
clean_mapped f (x ∷ xs) each (suc k) p at = clean_mapped f xs (λ j y p is e. each (suc j) y p is e) k p at

clean_dashes : (digits : ℕ) (there : Bool) (p : List ℕ) → dashes digits there ≡ Some p → AreClean p
clean_dashes digits true p e = subst AreClean (inside e) (clean_replicate (inside_width digits) 45 (clean_above 45 (omega arith)))
clean_dashes digits false p e = absurd (none_some e)

clean_edge_line : (digits columns : ℕ) (above below : List (Option Face)) → AreClean (edge_line digits columns above below)
clean_edge_line digits columns above below =
    clean_fenced 43 (inside_width digits) false (map (edge_piece digits above below) (range_with_len 0 columns)) (clean_above 43 (omega arith))
    (clean_mapped (edge_piece digits above below) (range_with_len 0 columns) (λ k column p at e. clean_dashes digits _ p e))

-- Each face of the row is sound.
abbrev pub AreSound : ℕ → List (Option Face) → Type 0
AreSound sides places = (k : ℕ) (face : Face) → slice_get places k ≡ Some (Some face) → IsSound sides face

clean_option_part : (digits : ℕ) (part : Part) (place : Option Face) (p : List ℕ) → ((face : Face) → place ≡ Some face → IsSound 4 face) → option_map (square_part digits part) place ≡ Some p → AreClean p
clean_option_part digits part None p sound e = absurd (none_some e)
clean_option_part digits part (Some face) p sound e = subst AreClean (inside e) (clean_square_part digits part face (sound face refl))

clean_part_line : (digits : ℕ) (part : Part) (places : List (Option Face)) → AreSound 4 places → AreClean (part_line digits part places)
clean_part_line digits part places sound =
    clean_fenced 124 (inside_width digits) false (map (option_map (square_part digits part)) places) (clean_above 124 (omega arith))
    (clean_mapped (option_map (square_part digits part)) places (λ k place p at e. clean_option_part digits part place p (λ face is. sound k face (at ∙ ap Some is)) e))

-- Each row is sound.
abbrev pub AreSoundRows : ℕ → List (List (Option Face)) → Type 0
AreSoundRows sides rows = (row : ℕ) (places : List (Option Face)) → slice_get rows row ≡ Some places → AreSound sides places

pub clean_square_lines : (digits columns : ℕ) (above : List (Option Face)) (rows : List (List (Option Face))) → AreSoundRows 4 rows → AreCleanLines (square_lines digits columns above rows)
clean_square_lines digits columns above [] sound = (clean_edge_line digits columns above [], tt)
clean_square_lines digits columns above (places ∷ rows) sound = (
  clean_edge_line digits columns above places,
  (
    clean_part_line digits Top places (sound 0 places refl),
    (
      clean_part_line digits Middle places (sound 0 places refl),
      (
        clean_part_line digits Bottom places (sound 0 places refl),
        clean_square_lines digits columns places rows (λ row at is. sound (suc row) at is),
      ),
    ),
  ),
)

clean_level_stroke : (up : Bool) → IsClean (level_stroke up)
clean_level_stroke true = clean_above 95 (omega arith)
clean_level_stroke false = clean_space

clean_slant : (up : Bool) → IsClean (slant up)
clean_slant true = clean_above 47 (omega arith)
clean_slant false = clean_above 92 (omega arith)

clean_choice : (b : Bool) (m n : ℕ) → IsClean m → IsClean n → IsClean (if b then m else n)
clean_choice true m n c d = c
clean_choice false m n c d = d

clean_triangle_part : (up : Bool) (level : Level) (face : Face) → IsSound 3 face → AreClean (triangle_part up level face)
clean_triangle_part up Tip face sound = tt
clean_triangle_part up Blank face sound = clean_replicate 2 32 clean_space
clean_triangle_part up Number face sound =
    (clean_space, clean_append (padded 2 (Some face.cell)) (star face.marked ∷ []) (clean_cell 2 face sound.cell) (clean_star face.marked, tt))
clean_triangle_part true Tile face sound =
    ((sound.signs 2 (omega arith)).0, clean_append (padded 3 face.tile) (32 ∷ slice_index face.signs 0 ∷ []) (clean_padded 3 face.tile sound.tile) (clean_space, ((sound.signs 0 (omega arith)).0, tt)))
clean_triangle_part false Tile face sound =
    ((sound.signs 0 (omega arith)).0, clean_append (padded 3 face.tile) (32 ∷ slice_index face.signs 2 ∷ []) (clean_padded 3 face.tile sound.tile) (clean_space, ((sound.signs 2 (omega arith)).0, tt)))
clean_triangle_part up Base face sound =
    clean_append (replicate 4 (level_stroke up)) (sign_on (level_stroke up) (slice_index face.signs 1) ∷ replicate 3 (level_stroke up)) (clean_replicate 4 (level_stroke up) (clean_level_stroke up))
    (clean_choice (slice_index face.signs 1 == 32) (level_stroke up) (slice_index face.signs 1) (clean_level_stroke up) (sound.signs 1 (omega arith)).0, clean_replicate 3 (level_stroke up) (clean_level_stroke up))

clean_crossed : (level : Level) (up : Bool) (places : List (Option Face)) → AreSound 3 places → AreClean (crossed level up places)
clean_crossed level up [] sound = (clean_slant up, tt)
clean_crossed level up (None ∷ places) sound = (clean_slant up, clean_crossed level (not up) places (λ k face is. sound (suc k) face is))
clean_crossed level up (Some face ∷ places) sound = (
  clean_slant up,
  clean_append (triangle_part up (own_level up level) face) (crossed level (not up) places)
      (clean_triangle_part up (own_level up level) face (sound 0 face refl))
      (clean_crossed level (not up) places (λ k face is. sound (suc k) face is)),
)

clean_level_line : (size row : ℕ) (level : Level) (places : List (Option Face)) → AreSound 3 places → AreClean (level_line size row level places)
clean_level_line size row level places sound =
    clean_append (spaces (5 * rows_in size row + above_base (own_level (nat_lt row size) level))) (crossed level (nat_lt row size) places)
    (clean_replicate _ 32 clean_space) (clean_crossed level (nat_lt row size) places sound)

pub clean_triangle_lines : (size row : ℕ) (rows : List (List (Option Face))) → AreSoundRows 3 rows → AreCleanLines (triangle_lines size row rows)
clean_triangle_lines size row [] sound = tt
clean_triangle_lines size row (places ∷ rows) sound =
    let here = sound 0 places refl in (
      clean_level_line size row Tip places here,
      (
        clean_level_line size row Blank places here,
        (
          clean_level_line size row Number places here,
          (
            clean_level_line size row Tile places here,
            (
              clean_level_line size row Base places here,
              clean_triangle_lines size (row + 1) rows (λ at places is. sound (suc at) places is),
            ),
          ),
        ),
      ),
    )

clean_roofs : (count : ℕ) → AreClean (roofs count)
clean_roofs zero = tt
clean_roofs (suc count) =
    clean_append (spaces 2 ++ replicate 8 95) (roofs count)
    (clean_append (spaces 2) (replicate 8 95) (clean_replicate 2 32 clean_space) (clean_replicate 8 95 (clean_above 95 (omega arith))))
    (clean_roofs count)

pub clean_roof : (size : ℕ) → AreClean (roof_line size)
clean_roof size = clean_append (spaces (5 * rows_in size 0 + 4)) (roofs size) (clean_replicate (5 * rows_in size 0 + 4) 32 clean_space) (clean_roofs size)

-- ---- what a part tells

-- lists of the same length, and what is behind them
cut_at : (xs ys rest rest' : List ℕ) → length xs ≡ length ys → xs ++ rest ≡ ys ++ rest' → (xs ≡ ys) × (rest ≡ rest')
cut_at [] [] rest rest' long e = (refl, e)
cut_at [] (y ∷ ys) rest rest' long e = absurd (omega (arith, long))
cut_at (x ∷ xs) [] rest rest' long e = absurd (omega (arith, long))
cut_at (x ∷ xs) (y ∷ ys) rest rest' long e =
    let same : x ≡ y = cc in
    let tail : xs ++ rest ≡ ys ++ rest' = cc in
    let found = cut_at xs ys rest rest' (omega (arith, long)) tail in
    (cc (same, found.0), found.1)

-- a list without the spaces that it begins with
abbrev skipped : List ℕ → List ℕ
skipped [] = []
skipped (x ∷ xs) = if x == 32 then skipped xs else x ∷ xs

skip_spaces : (count : ℕ) (xs : List ℕ) → skipped (spaces count ++ xs) ≡ skipped xs
skip_spaces zero xs = refl
skip_spaces (suc count) xs = skip_spaces count xs

-- digits that begin with no space
abbrev BeginsWithDigit : List ℕ → Type 0
BeginsWithDigit [] = ⊥
BeginsWithDigit (x ∷ xs) = 32 < x

skip_none : (xs : List ℕ) → BeginsWithDigit xs → skipped xs ≡ xs
skip_none [] digit = refl
skip_none (x ∷ xs) digit = by_test (x == 32) refl
  where
    by_test : (b : Bool) → (x == 32) ≡ b → (if b then skipped xs else x ∷ xs) ≡ x ∷ xs
    by_test true e = absurd (omega (arith, digit, eqb-true x 32 e))
    by_test false e = refl

begins_append : (xs ys : List ℕ) → BeginsWithDigit xs → BeginsWithDigit (xs ++ ys)
begins_append [] ys digit = absurd digit
begins_append (x ∷ xs) ys digit = digit

decimal_begins : (n : ℕ) → n < 2 ^ 64 → BeginsWithDigit (decimal n)
decimal_begins n lt =
    decimal_by_steps (λ m ds. BeginsWithDigit ds) (λ m few. omega arith) (λ m ds many begins. begins_append ds _ begins) n lt

not_nothing : (xs : List ℕ) → BeginsWithDigit xs → xs ≡ [] → ⊥
not_nothing [] begins e = begins
not_nothing (x ∷ xs) begins e = cc

skip_padded : (digits n : ℕ) → n < 1000 → skipped (padded digits (Some n)) ≡ decimal n
skip_padded digits n lt =
    skip_spaces (digits - length (decimal n)) (decimal n) ∙ skip_none (decimal n) (decimal_begins n (omega (arith, lt)))

skip_blank : (digits : ℕ) → skipped (spaces digits) ≡ []
skip_blank zero = refl
skip_blank (suc digits) = skip_blank digits

-- the number is known by its columns
padded_tells : (digits : ℕ) (number other : Option ℕ) → ((n : ℕ) → number ≡ Some n → n < 1000) → ((n : ℕ) → other ≡ Some n → n < 1000) → padded digits number ≡ padded digits other → number ≡ other
padded_tells digits None None few few' e = refl
padded_tells digits None (Some m) few few' e =
    let lt = few' m refl in
    absurd (not_nothing (decimal m) (decimal_begins m (omega (arith, lt))) (sym (skip_padded digits m lt) ∙ sym (ap skipped e) ∙ skip_blank digits))
padded_tells digits (Some n) None few few' e =
    let lt = few n refl in
    absurd (not_nothing (decimal n) (decimal_begins n (omega (arith, lt))) (sym (skip_padded digits n lt) ∙ ap skipped e ∙ skip_blank digits))
padded_tells digits (Some n) (Some m) few few' e =
    let lt = few n refl in
    let lt' = few' m refl in
    ap Some (decimal_injective n m (omega (arith, lt)) (omega (arith, lt')) (sym (skip_padded digits n lt) ∙ ap skipped e ∙ skip_padded digits m lt'))

star_tells : (marked other : Bool) → star marked ≡ star other → marked ≡ other
star_tells true true e = refl
star_tells true false e = absurd (omega (arith, e))
star_tells false true e = absurd (omega (arith, e))
star_tells false false e = refl

-- a sign is known by what is drawn of it on a line
sign_on_tells : (up : Bool) (sign other : ℕ) → IsSign sign → IsSign other → sign_on (level_stroke up) sign ≡ sign_on (level_stroke up) other → sign ≡ other
sign_on_tells up sign other is is' e = by_tests (eqb_tells sign 32) (eqb_tells other 32)
  where
    drawn : (s : ℕ) → ((s == 32) ≡ false) → sign_on (level_stroke up) s ≡ s
    drawn s t = rw t refl

    blank : (s : ℕ) → ((s == 32) ≡ true) → sign_on (level_stroke up) s ≡ level_stroke up
    blank s t = rw t refl

    no_stroke : (u : Bool) (s : ℕ) → IsSign s → s ≢ 32 → s ≡ level_stroke u → ⊥
    no_stroke true s sign unlike g = sign.1 g
    no_stroke false s sign unlike g = unlike g

    by_tests : (((sign == 32) ≡ true) × (sign ≡ 32)) ⊎ (((sign == 32) ≡ false) × (sign ≢ 32)) → (((other == 32) ≡ true) × (other ≡ 32)) ⊎ (((other == 32) ≡ false) × (other ≢ 32)) → sign ≡ other
    by_tests t u =
        ⊎_elim
        (λ b. ⊎_elim (λ b'. b.1 ∙ sym b'.1) (λ d'. absurd (no_stroke up other is' d'.1 (sym (drawn other d'.0) ∙ sym e ∙ blank sign b.0))) u)
        (λ d. ⊎_elim (λ b'. absurd (no_stroke up sign is d.1 (sym (drawn sign d.0) ∙ e ∙ blank other b'.0))) (λ d'. sym (drawn sign d.0) ∙ e ∙ drawn other d'.0) u)
        t

-- ---- what a cell tells

fits : (number : Option ℕ) (digits : ℕ) → 0 < digits → 1000 ≤ 10 ^ digits → ((n : ℕ) → number ≡ Some n → n < 1000) → FitsIn digits number
fits None digits some room few = tt
fits (Some n) digits some room few = let lt = few n refl in length-decimal-le digits n some (omega (arith, lt, room)) (omega (arith, lt))

-- the signs by side
four_signs : (signs other : List ℕ) → slice_index signs 0 ≡ slice_index other 0 → slice_index signs 1 ≡ slice_index other 1 → slice_index signs 2 ≡ slice_index other 2 → slice_index signs 3 ≡ slice_index other 3 → (side : ℕ) → side < 4 → slice_index signs side ≡ slice_index other side
four_signs signs other a b c d zero lt = a
four_signs signs other a b c d (suc zero) lt = b
four_signs signs other a b c d (suc (suc zero)) lt = c
four_signs signs other a b c d (suc (suc (suc zero))) lt = d
four_signs signs other a b c d (suc (suc (suc (suc side)))) lt = absurd (omega (arith, lt))

three_signs : (signs other : List ℕ) → slice_index signs 0 ≡ slice_index other 0 → slice_index signs 1 ≡ slice_index other 1 → slice_index signs 2 ≡ slice_index other 2 → (side : ℕ) → side < 3 → slice_index signs side ≡ slice_index other side
three_signs signs other a b c zero lt = a
three_signs signs other a b c (suc zero) lt = b
three_signs signs other a b c (suc (suc zero)) lt = c
three_signs signs other a b c (suc (suc (suc side))) lt = absurd (omega (arith, lt))

-- what is behind the number of a cell
behind_number : (digits : ℕ) (face other : Face) → face.cell ≡ other.cell → (xs ys : List ℕ) → padded digits (Some face.cell) ++ xs ≡ padded digits (Some other.cell) ++ ys → xs ≡ ys
behind_number digits face other cell xs ys e =
    append_cancel_left (padded digits (Some face.cell)) xs ys (e ∙ ap (λ n. padded digits (Some n) ++ ys) (sym cell))

module _ (digits : ℕ) (face other : Face) (cell : face.cell ≡ other.cell)
    (fit : FitsIn digits face.tile) (fit' : FitsIn digits other.tile)
    (few : (n : ℕ) → face.tile ≡ Some n → n < 1000) (few' : (n : ℕ) → other.tile ≡ Some n → n < 1000) where
  -- the tile, and what is behind it
  behind_tile : (xs ys : List ℕ) → padded digits face.tile ++ xs ≡ padded digits other.tile ++ ys → (face.tile ≡ other.tile) × (xs ≡ ys)
  behind_tile xs ys e =
      let found = cut_at (padded digits face.tile) (padded digits other.tile) xs ys (length-padded digits face.tile fit ∙ sym (length-padded digits other.tile fit')) e in
      (padded_tells digits face.tile other.tile few few' found.0, found.1)

  pub square_tells : square_part digits Top face ≡ square_part digits Top other → square_part digits Middle face ≡ square_part digits Middle other → square_part digits Bottom face ≡ square_part digits Bottom other → ShowAlike 4 face other
  square_tells top middle bottom =
      let first = behind_number digits face other cell (star face.marked ∷ 32 ∷ slice_index face.signs 0 ∷ spaces 3) (star other.marked ∷ 32 ∷ slice_index other.signs 0 ∷ spaces 3) top in
      let starred : star face.marked ≡ star other.marked = cc first in
      let north : slice_index face.signs 0 ≡ slice_index other.signs 0 = cc first in
      let west : slice_index face.signs 3 ≡ slice_index other.signs 3 = cc middle in
      let rest : padded digits face.tile ++ (32 ∷ slice_index face.signs 1 ∷ 32 ∷ []) ≡ padded digits other.tile ++ (32 ∷ slice_index other.signs 1 ∷ 32 ∷ []) = cc middle in
      let second = behind_tile (32 ∷ slice_index face.signs 1 ∷ 32 ∷ []) (32 ∷ slice_index other.signs 1 ∷ 32 ∷ []) rest in
      let behind = second.1 in
      let east : slice_index face.signs 1 ≡ slice_index other.signs 1 = cc behind in
      let third = append_cancel_left (spaces (digits + 2)) (slice_index face.signs 2 ∷ spaces 3) (slice_index other.signs 2 ∷ spaces 3) bottom in
      let south : slice_index face.signs 2 ≡ slice_index other.signs 2 = cc third in
      record {
        cell = cell;
        marked = star_tells face.marked other.marked starred;
        tile = second.0;
        signs = four_signs face.signs other.signs north east south west;
      }

module _ (face other : Face) (cell : face.cell ≡ other.cell) (sound : IsSound 3 face) (sound' : IsSound 3 other)
    (fit : FitsIn 3 face.tile) (fit' : FitsIn 3 other.tile) where
  -- by the triangle's own levels
  own_levels : (up : Bool) → ((level : Level) → triangle_part up (own_level up level) face ≡ triangle_part up (own_level up level) other) → (level : Level) → triangle_part up level face ≡ triangle_part up level other
  own_levels true same level = same level
  own_levels false same Tip = same Base
  own_levels false same Blank = same Tile
  own_levels false same Number = same Number
  own_levels false same Tile = same Blank
  own_levels false same Base = same Tip

  tile_tells : (up : Bool) → triangle_part up Tile face ≡ triangle_part up Tile other → (face.tile ≡ other.tile) × (slice_index face.signs 0 ≡ slice_index other.signs 0) × (slice_index face.signs 2 ≡ slice_index other.signs 2)
  tile_tells true e =
      let west : slice_index face.signs 2 ≡ slice_index other.signs 2 = cc e in
      let rest : padded 3 face.tile ++ (32 ∷ slice_index face.signs 0 ∷ []) ≡ padded 3 other.tile ++ (32 ∷ slice_index other.signs 0 ∷ []) = cc e in
      let found = behind_tile 3 face other cell fit fit' sound.tile sound'.tile (32 ∷ slice_index face.signs 0 ∷ []) (32 ∷ slice_index other.signs 0 ∷ []) rest in
      let behind = found.1 in
      let east : slice_index face.signs 0 ≡ slice_index other.signs 0 = cc behind in
      (found.0, east, west)
  tile_tells false e =
      let west : slice_index face.signs 0 ≡ slice_index other.signs 0 = cc e in
      let rest : padded 3 face.tile ++ (32 ∷ slice_index face.signs 2 ∷ []) ≡ padded 3 other.tile ++ (32 ∷ slice_index other.signs 2 ∷ []) = cc e in
      let found = behind_tile 3 face other cell fit fit' sound.tile sound'.tile (32 ∷ slice_index face.signs 2 ∷ []) (32 ∷ slice_index other.signs 2 ∷ []) rest in
      let behind = found.1 in
      let east : slice_index face.signs 2 ≡ slice_index other.signs 2 = cc behind in
      (found.0, west, east)

  pub triangle_tells : (up : Bool) → ((level : Level) → triangle_part up (own_level up level) face ≡ triangle_part up (own_level up level) other) → ShowAlike 3 face other
  triangle_tells up same =
      let parts = own_levels up same in
      let number : padded 2 (Some face.cell) ++ (star face.marked ∷ []) ≡ padded 2 (Some other.cell) ++ (star other.marked ∷ []) = let e = parts Number in cc e in
      let marks = behind_number 2 face other cell (star face.marked ∷ []) (star other.marked ∷ []) number in
      let starred : star face.marked ≡ star other.marked = cc marks in
      let tile = tile_tells up (parts Tile) in
      let base = append_cancel_left (replicate 4 (level_stroke up)) (sign_on (level_stroke up) (slice_index face.signs 1) ∷ replicate 3 (level_stroke up)) (sign_on (level_stroke up) (slice_index other.signs 1) ∷ replicate 3 (level_stroke up)) (parts Base) in
      let drawn : sign_on (level_stroke up) (slice_index face.signs 1) ≡ sign_on (level_stroke up) (slice_index other.signs 1) = cc base in
      let level = sign_on_tells up (slice_index face.signs 1) (slice_index other.signs 1) (sound.signs 1 (omega arith)) (sound'.signs 1 (omega arith)) drawn in
      record {
        cell = cell;
        marked = star_tells face.marked other.marked starred;
        tile = tile.0;
        signs = three_signs face.signs other.signs tile.1 level tile.2;
      }
