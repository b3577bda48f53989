-- What is looked up.
use Rattle.std.proofs.Common.{◌≡◌, ◌≢◌, ◌⊎◌, ◌<◌, ◌≤◌, ◌+◌, ◌++◌, ◌∷◌, [], ◌↔◌, ℕ, zero, suc, List, Option, Some, None, MatchBool, IfSome, Contains, All, length, map, get_or, set, slice_get, arith, refl, ap, sym, ◌∙◌, subst, inl, inr, ⊎_elim}
use Rattle.match_limits.proofs.OptionLemmas.{none_some}
use Rattle.match_limits.specs.declared.TheConstants.{MOST_COLOURS}
use Rattle.std.proofs.lemmas.List.{length-map}
use Rattle.match_board.specs.Board.{cell_count, side_count, Meets, IsBorderPair, IsBorderBefore}
use Rattle.match_board.specs.declared.figures.Figure.{Figure}
use Rattle.match_board.specs.declared.tiles.Tile.{Tile}
use Rattle.match_board.specs.Clues.{Clue, clue_of, AsksByClue}
use Rattle.match_limits.proofs.ListLemmas.{place_of}
use Rattle.match_board.specs.Tile.{word}
use Rattle.match_board.specs.Turns.{IsPeriod}
use Rattle.match_puzzle.specs.Puzzle.{Task, task_by, AreClues, HasRule, IsPuzzle}
use Rattle.match_puzzle.specs.declared.rules.Rules.{Rules}
use Rattle.match_board.specs.Borders.{BorderRule, free, one, each, rule_of, Asks, AsksAt, StandsInRule, IsAsLongAsBorder}
use Rattle.match_puzzle.specs.Colours.{HasColour, IsColourCount}
use Rattle.match_puzzle.specs.Tables.{IsSide, IsAskedAt, AreSides, IsTurnCount, IsNextNumber, rule_on}
use Rattle.match_puzzle.specs.declared.tables.CellSides.{CellSides}
use Rattle.match_puzzle.proofs.Words.{few_sides, tile_of_word, word_at}
use Rattle.match_puzzle.specs.declared.tables.Side.{Side}
use Rattle.match_puzzle.specs.declared.tables.Side.TheVariants.{Border as TableBorder, Edge as TableEdge}
use Rattle.std.proofs.lemmas.Option.{slice_get_within, get_or_from_slice_get}
use Rattle.match_limits.specs.Listing.{IsListing, ComesBefore, HoldsBefore}
use Rattle.match_limits.proofs.Listings.{After, in_front, first_before, listing_rest, same_listing, contains_none, comes_before_asymmetric, comes_before_trans, lt_or_le}
use Rattle.match_board.proofs.BorderLemmas.{border_next, inner_next, border_row, border_none}
use Rattle.match_puzzle.proofs.Prefixes.{inside}

same_pair : {a b c d : ℕ} → ◌≡◌ {A = Option (ℕ × ℕ)} (Some (a, b)) (Some (c, d)) → (a ≡ c) × (b ≡ d)
same_pair e = (ap (λ (n : ℕ × ℕ). n.0) (inside e), ap (λ (n : ℕ × ℕ). n.1) (inside e))

-- what is met, by the one answer of a look-up
pub met_is : {s : Figure} {cell side c k : ℕ} → ((c' k' : ℕ) → Meets s cell side c' k' → ◌≡◌ {A = Option (ℕ × ℕ)} (Some (c, k)) (Some (c', k'))) → (c' k' : ℕ) → Meets s cell side c' k' → (c' ≡ c) × (k' ≡ k)
met_is only c' k' m = let e = same_pair (only c' k' m) in (sym e.0, sym e.1)

-- a side that no answer meets
pub border_is : (s : Figure) (cell side : ℕ) → cell < cell_count s → side < side_count s → ((c k : ℕ) → Meets s cell side c k → ◌≡◌ {A = Option (ℕ × ℕ)} None (Some (c, k))) → IsBorderPair s cell side
border_is s cell side cell_in side_in only = record { cell_in = cell_in; side_in = side_in; meets_nothing = λ c k m. none_some (only c k m) }

-- a side of the table is that of the cell
pub side_there : (p : Task) (table : List CellSides) → AreSides p table → (cell side : ℕ) (sides : CellSides) → slice_get table cell ≡ Some sides → side < side_count p.board → IsSide p cell side (get_or sides.sides side (TableBorder None))
side_there p table is cell side sides there lt =
    let at = is.asked cell sides there side (omega (arith, lt, few_sides p.board)) in
    subst (IsSide p cell side) (sym (get_or_from_slice_get sides.sides side at.0 (TableBorder None) at.1)) (is.is cell side sides at.0 there lt at.1)

-- a place of the table is that of the side
pub side_asked_at : (p : Task) (table : List CellSides) → AreSides p table → (cell side : ℕ) (sides : CellSides) → slice_get table cell ≡ Some sides → side < 4 → IsAskedAt p cell side (get_or sides.asked_at side 0)
side_asked_at p table is cell side sides there lt =
    let at = is.asked cell sides there side lt in (
      at.0,
      at.2,
      ⊎_elim
          (λ side_in. inr (side_in, is.is cell side sides at.0 there side_in at.1))
          (λ past. inl (past, inside (sym at.1 ∙ is.outside cell side sides there past lt)))
          (lt_or_le side (side_count p.board)),
    )

-- ---- the number of a border pair

-- The first of what comes before a key is the first of all that holds.
head_is : (P : ℕ × ℕ → Type 0) (n x : ℕ × ℕ) (xs : List (ℕ × ℕ)) → IsListing ComesBefore P (x ∷ xs) → P n → IsListing ComesBefore (HoldsBefore (λ pair. pair) P n) [] → x ≡ n
head_is P n x xs all holds before =
    ⊎_elim
    (λ e. e)
    (λ c. absurd (contains_none x (before.all x (all.only x (0, omega arith, refl), first_before ComesBefore comes_before_asymmetric P x xs n all c))))
    (in_front ComesBefore comes_before_asymmetric x xs n (all.all n holds))

before_rest : (P : ℕ × ℕ → Type 0) (n x y : ℕ × ℕ) (ys : List (ℕ × ℕ)) → x ≡ y → IsListing ComesBefore (HoldsBefore (λ pair. pair) P n) (y ∷ ys) → IsListing ComesBefore (HoldsBefore (λ pair. pair) (After ComesBefore comes_before_asymmetric P x) n) ys
before_rest P n x y ys e before =
    let rest = listing_rest ComesBefore comes_before_asymmetric (HoldsBefore (λ pair. pair) P n) y ys before in
    subst (λ z. IsListing ComesBefore (HoldsBefore (λ pair. pair) (After ComesBefore comes_before_asymmetric P z) n) ys) (sym e) (record {
      only = λ z c. let w = rest.only z c in ((w.0.0, w.1), w.0.1);
      all = λ z w. rest.all z ((w.0.0, w.1), w.0.1);
      rising = rest.rising;
    })

-- In the list of all pairs a pair stands where as many stand before it as come before it.
pub place_in_order : (P : ℕ × ℕ → Type 0) (n : ℕ × ℕ) (all before : List (ℕ × ℕ)) → IsListing ComesBefore P all → IsListing ComesBefore (HoldsBefore (λ pair. pair) P n) before → P n → slice_get all (length before) ≡ Some n
place_in_order P n [] before all is holds = absurd (contains_none n (all.all n holds))
place_in_order P n (x ∷ xs) [] all is holds = ap Some (head_is P n x xs all holds is)
place_in_order P n (x ∷ xs) (y ∷ ys) all is holds =
    let y_is = is.only y (0, omega arith, refl) in
    let e : x ≡ y = ⊎_elim
    (λ e. e)
    (λ c.
    let x_before_y = first_before ComesBefore comes_before_asymmetric P x xs y all c in
    let x_holds = all.only x (0, omega arith, refl) in
    ⊎_elim (λ e. sym e) (λ d. absurd (comes_before_asymmetric x y x_before_y (first_before ComesBefore comes_before_asymmetric (HoldsBefore (λ pair. pair) P n) y ys x is d)))
    (in_front ComesBefore comes_before_asymmetric y ys x (is.all x (x_holds, comes_before_trans x y n x_before_y y_is.1))))
    (in_front ComesBefore comes_before_asymmetric x xs y (all.all y y_is.0)) in
    let after : ComesBefore x n = subst (λ z. ComesBefore z n) (sym e) y_is.1 in
    place_in_order (After ComesBefore comes_before_asymmetric P x) n xs ys (listing_rest ComesBefore comes_before_asymmetric P x xs all) (before_rest P n x y ys e is) (holds, after)

-- A pair stands at one place of the list of all.
pub one_place_in_order : (P : ℕ × ℕ → Type 0) (all : List (ℕ × ℕ)) (i j : ℕ) (n : ℕ × ℕ) → IsListing ComesBefore P all → slice_get all i ≡ Some n → slice_get all j ≡ Some n → i ≡ j
one_place_in_order P all i j n is at_i at_j =
    ⊎_elim (λ lt. absurd (no_before i j lt at_i at_j)) (λ ge. ⊎_elim (λ lt. absurd (no_before j i lt at_j at_i)) (λ le. omega (arith, ge, le)) (lt_or_le j i)) (lt_or_le i j)
  where
    no_before : (k l : ℕ) → k < l → slice_get all k ≡ Some n → slice_get all l ≡ Some n → ⊥
    no_before k l lt at_k at_l =
        let before = is.rising k l n lt (slice_get_within all l n at_l) in
        let here : ComesBefore n n = subst (λ a. ComesBefore a n) (get_or_from_slice_get all k n n at_k) (subst (ComesBefore (get_or all k n)) (get_or_from_slice_get all l n n at_l) before) in
        comes_before_asymmetric n n here here

-- ---- what the border asks of a border pair

-- what is asked of the border pair with this number
pub asks_numbered : (s : Figure) (rule : BorderRule) (cell side number colour : ℕ) → IsAsLongAsBorder s rule → IsBorderPair s cell side → IsNextNumber s (cell, side) number → Asks s rule cell side colour ↔ AsksAt rule number colour
asks_numbered s free cell side number colour long pair next = (λ h. h, λ h. h)
asks_numbered s (one c) cell side number colour long pair next = (λ h. h, λ h. h)
asks_numbered s (each rules) cell side number colour long pair next =
    let P : ℕ × ℕ → Type 0 = λ n. IsBorderPair s n.0 n.1 in
    let at : slice_get long.0 number ≡ Some (cell, side) = subst (λ k. slice_get long.0 k ≡ Some (cell, side)) next.count (place_in_order P (cell, side) long.0 next.pairs long.1 next.before pair) in (
      λ asked.
          let same : asked.0 ≡ long.0 = same_listing ComesBefore comes_before_asymmetric P asked.0 long.0 asked.1 long.1 in
          let place : asked.2 ≡ number = one_place_in_order P long.0 asked.2 number (cell, side) long.1 (subst (λ ps. slice_get ps asked.2 ≡ Some (cell, side)) same asked.3) at in
          subst (λ k. slice_get rules k ≡ Some (Some colour)) place asked.4,
      λ asked. (long.0, long.1, number, at, asked),
    )

-- ---- what a rule asks of a side

-- a side that meets another has the rule that a clue gives it
pub inner_rule : (p : Task) (cell side c k : ℕ) (rule : Option ℕ) → cell < cell_count p.board → side < side_count p.board → Meets p.board cell side c k → ((colour : ℕ) → (rule ≡ Some colour) ↔ AsksByClue p.clues cell side colour) →
    (colour : ℕ) → (rule ≡ Some colour) ↔ HasRule p cell side colour
inner_rule p cell side c k rule cell_in side_in meets is colour = (
  λ e. record { cell_in = cell_in; side_in = side_in; asked = inr ((is colour).0 e) },
  λ has. (is colour).1 (⊎_elim (λ w. absurd (w.0.meets_nothing c k meets)) (λ w. w) has.asked),
)

-- a border pair has the rule that the border gives it, or else a clue
pub border_rule : (p : Task) (cell side number : ℕ) (by_border by_clue rule : Option ℕ) → IsAsLongAsBorder p.board p.border → AreClues p → IsBorderPair p.board cell side → IsNextNumber p.board (cell, side) number →
    ((colour : ℕ) → (by_border ≡ Some colour) ↔ AsksAt p.border number colour) → ((colour : ℕ) → (by_clue ≡ Some colour) ↔ AsksByClue p.clues cell side colour) →
    ((colour : ℕ) → by_border ≡ Some colour → rule ≡ Some colour) → (by_border ≡ None → rule ≡ by_clue) → (colour : ℕ) → (rule ≡ Some colour) ↔ HasRule p cell side colour
border_rule p cell side number None by_clue rule long clues pair next border clue first second colour = (
  λ e. record { cell_in = pair.cell_in; side_in = pair.side_in; asked = inr ((clue colour).0 (sym (second refl) ∙ e)) },
  λ has.
      ⊎_elim
      (λ w. absurd (none_some ((border colour).1 ((asks_numbered p.board p.border cell side number colour long pair next).0 w.1))))
      (λ w. second refl ∙ (clue colour).1 w)
      has.asked,
)
border_rule p cell side number (Some own) by_clue rule long clues pair next border clue first second colour =
    let has : HasRule p cell side own = record { cell_in = pair.cell_in; side_in = pair.side_in; asked = inl (pair, (asks_numbered p.board p.border cell side number own long pair next).1 ((border own).0 refl)) } in
    let is : rule ≡ Some own = first own refl in
    (λ e. subst (HasRule p cell side) (inside (sym is ∙ e)) has, λ other. is ∙ ap Some (clues.agree cell side own colour has other))

-- the rule of a side of the table
pub rule_of_side : (p : Task) (cell side : ℕ) (x : Side) → IsSide p cell side x → (colour : ℕ) → (rule_on x ≡ Some colour) ↔ HasRule p cell side colour
rule_of_side p cell side (TableBorder rule) is = is.1
rule_of_side p cell side (TableEdge c k rule) is = is.2

-- ---- clues

-- A cell has one clue.
pub one_clue : (p : Task) → AreClues p → (c d : Clue) → Contains p.clues c → Contains p.clues d → c.cell ≡ d.cell → c ≡ d
one_clue p are c d has_c has_d same =
    let i = place_of p.clues c has_c in
    let j = place_of p.clues d has_d in
    ⊎_elim
    (λ lt. let before = are.rising i.0 j.0 c d i.1 j.1 lt in absurd (omega (arith, before, same)))
    (λ le.
    ⊎_elim
    (λ lt. let before = are.rising j.0 i.0 d c j.1 i.1 lt in absurd (omega (arith, before, same)))
    (λ ge. let e : i.0 ≡ j.0 = omega (arith, le, ge) in inside (sym i.1 ∙ subst (λ n. slice_get p.clues n ≡ Some d) (sym e) j.1))
    (lt_or_le j.0 i.0))
    (lt_or_le i.0 j.0)

pub clue_sides : (p : Task) → AreClues p → (c : Clue) (side : ℕ) → Contains p.clues c → side < side_count p.board → side < length c.asks
clue_sides p are c side has lt = let i = place_of p.clues c has in let long = are.sides i.0 c i.1 in omega (arith, long, lt)

-- what a clue asks for is a colour
pub clue_below : (p : Task) (cell side : ℕ) (asked : Option ℕ) → AreClues p → ((colour : ℕ) → asked ≡ Some colour → AsksByClue p.clues cell side colour) → IfSome asked (λ colour. colour < MOST_COLOURS)
clue_below p cell side None are is = tt
clue_below p cell side (Some colour) are is = are.colours cell side colour (is colour refl)

-- The clues of a puzzle are those of each version and for all tiles.
pub clues_alike : (board : Figure) (rules : Rules) (v w : ℕ) (ts us : List Tile) → AreClues (task_by board rules v ts) → AreClues (task_by board rules w us)
clues_alike board rules v w ts us are = record {
  cells = are.cells;
  rising = are.rising;
  sides = are.sides;
  colours = are.colours;
  agree = λ cell side colour other one two. are.agree cell side colour other (back cell side colour one) (back cell side other two);
}
  where
    back : (cell side colour : ℕ) → HasRule (task_by board rules w us) cell side colour → HasRule (task_by board rules v ts) cell side colour
    back cell side colour rule = record { cell_in = rule.cell_in; side_in = rule.side_in; asked = rule.asked }

-- The colours that the border asks for are colours.
stands_in_rule : (s : Figure) (rule : BorderRule) (cell side colour : ℕ) → Asks s rule cell side colour → (place : ℕ) × StandsInRule rule place colour
stands_in_rule s free cell side colour asked = absurd asked
stands_in_rule s (one c) cell side colour asked = (0, (refl, asked))
stands_in_rule s (each rules) cell side colour asked = (asked.2, asked.4)

pub rule_below : (p : Task) (cell side : ℕ) (rule : Option ℕ) → IsPuzzle p → ((colour : ℕ) → rule ≡ Some colour → HasRule p cell side colour) → IfSome rule (λ colour. colour < MOST_COLOURS)
rule_below p cell side None puzzle is = tt
rule_below p cell side (Some colour) puzzle is =
    ⊎_elim
    (λ w. let at = stands_in_rule p.board p.border cell side colour w.1 in puzzle.border_colours at.0 colour at.1)
    (λ w. puzzle.clues.colours cell side colour w)
    (is colour refl).asked

-- one border pair more
pub number_after_border : (s : Figure) (cell side number : ℕ) → IsBorderPair s cell side → IsNextNumber s (cell, side) number → IsNextNumber s (cell, side + 1) (number + 1)
number_after_border s cell side number pair next =
    let more = border_next s cell side next.pairs pair next.before in
    record { pairs = more.0; before = more.1; count = omega (arith, more.2, next.count); small = omega (arith, next.small) }

-- no border pair more
pub number_after_edge : (s : Figure) (cell side number : ℕ) → (IsBorderPair s cell side → ⊥) → IsNextNumber s (cell, side) number → IsNextNumber s (cell, side + 1) number
number_after_edge s cell side number inner next = record { pairs = next.pairs; before = inner_next s cell side next.pairs inner next.before; count = next.count; small = omega (arith, next.small) }

pub number_after_cell : (s : Figure) (cell number : ℕ) → side_count s ≤ 4 → IsNextNumber s (cell, side_count s) number → IsNextNumber s (cell + 1, 0) number
number_after_cell s cell number few next = record { pairs = next.pairs; before = border_row s cell next.pairs next.before; count = next.count; small = omega (arith, next.small, few) }

-- the border pairs of a cell more
pub number_after_sides : (s : Figure) (cell number more : ℕ) → more ≤ 4 →
    ((before : List (ℕ × ℕ)) → IsBorderBefore s (cell, 0) before → (pairs : List (ℕ × ℕ)) × IsBorderBefore s (cell + 1, 0) pairs × (length pairs ≡ length before + more)) → IsNextNumber s (cell, 0) number → IsNextNumber s (cell + 1, 0) (number + more)
number_after_sides s cell number more few counts next =
    let w = counts next.pairs next.before in
    record { pairs = w.0; before = w.1; count = omega (arith, w.2, next.count); small = omega (arith, next.small, few) }

pub number_at_first : (s : Figure) → IsNextNumber s (0, 0) 0
number_at_first s = record { pairs = []; before = border_none s; count = refl; small = omega arith }

-- what a list has after a push
pub pushed_is : {X : Type 0} (xs : List X) (x : X) (i : ℕ) (y : X) → slice_get (xs ++ x ∷ []) i ≡ Some y → ((i < length xs) × (slice_get xs i ≡ Some y)) ⊎ ((i ≡ length xs) × (y ≡ x))
pushed_is [] x zero y e = inr (refl, sym (inside e))
pushed_is [] x (suc i) y e = absurd (none_some e)
pushed_is (z ∷ xs) x zero y e = inl (omega arith, e)
pushed_is (z ∷ xs) x (suc i) y e = ⊎_elim (λ w. inl (omega (arith, w.0), w.1)) (λ w. inr (omega (arith, w.0), w.1)) (pushed_is xs x i y e)

-- what a list has after a write
pub written_is : {X : Type 0} (xs : List X) (i j : ℕ) (x y : X) → slice_get (set xs i x) j ≡ Some y → ((j ≡ i) × (y ≡ x)) ⊎ ((j ≢ i) × (slice_get xs j ≡ Some y))
written_is [] i j x y e = absurd (none_some e)
written_is (z ∷ xs) zero zero x y e = inl (refl, sym (inside e))
written_is (z ∷ xs) zero (suc j) x y e = inr ((λ w. omega (arith, w)), e)
written_is (z ∷ xs) (suc i) zero x y e = inr ((λ w. omega (arith, w)), e)
written_is (z ∷ xs) (suc i) (suc j) x y e = ⊎_elim (λ w. inl (omega (arith, w.0), w.1)) (λ w. inr ((λ v. w.0 (omega (arith, v))), w.1)) (written_is xs i j x y e)

-- the word of a tile that stands there
word_there : (tiles : List Tile) (k : ℕ) → k < length (map word tiles) → (t : Tile) × (slice_get tiles k ≡ Some t) × (get_or (map word tiles) k [] ≡ word t)
word_there tiles k lt = tile_of_word tiles k (omega (arith, length-map tiles word, lt))

-- the number that is above all colours and the least such
pub colour_count_is : (board : Figure) (rules : Rules) (version : ℕ) (tiles : List Tile) (count : ℕ) →
    ((place colour : ℕ) → StandsInRule (rule_of rules.border.now) place colour → colour < count) →
    ((k colour : ℕ) → k < length tiles → Contains (get_or (map word tiles) k []) colour → colour < count) →
    length rules.mates.now ≤ count →
    ((cell side colour : ℕ) → AsksByClue (map clue_of rules.clues.now) cell side colour → colour < count) →
    ((other : ℕ) → ((colour : ℕ) → HasColour (task_by board rules version tiles) colour → colour < other) → count ≤ other) →
    IsColourCount (task_by board rules version tiles) count
colour_count_is board rules version tiles count of_border of_tiles of_mates of_clues least = record {
  above = λ colour has.
      ⊎_elim
      (λ t. of_tiles t.0 colour (omega (arith, t.1, length-map tiles word)) t.2)
      (λ other. ⊎_elim (λ b. of_border b.0 colour b.1) (λ last. ⊎_elim (λ lt. omega (arith, lt, of_mates)) (λ w. of_clues w.0 w.1 colour w.2) last) other)
      has;
  least = least;
}

-- What a push adds to the numbers of legal turns.
pub turn_counts_more : (p : Task) (table : List ℕ) (n : ℕ) → ((tile count : ℕ) → slice_get table tile ≡ Some count → IsTurnCount p tile count) → IsTurnCount p (length table) n →
    (tile count : ℕ) → slice_get (table ++ n ∷ []) tile ≡ Some count → IsTurnCount p tile count
turn_counts_more p table n so_far here tile count get =
    ⊎_elim (λ w. so_far tile count w.1) (λ w. subst (λ t. IsTurnCount p t count) (sym w.0) (subst (λ k. IsTurnCount p (length table) k) (sym w.1) here)) (pushed_is table n tile count get)

-- how many turns of a tile that was read are legal
pub turn_count_is : (board : Figure) (rules : Rules) (version : ℕ) (tiles : List Tile) (i : ℕ) (t : Tile) (n : ℕ) → i < length tiles → t ≡ get_or tiles i t → MatchBool rules.turns (IsPeriod (word t) n) (n ≡ 1) → IsTurnCount (task_by board rules version tiles) i n
turn_count_is board rules version tiles i t n lt at is = subst (λ w. MatchBool rules.turns (IsPeriod w n) (n ≡ 1)) (sym (word_at tiles i t lt at)) is

-- The words of tiles have colours below 36.
pub words_coloured : (tiles : List Tile) (i : ℕ) → i < length (map word tiles) → All (λ colour. colour < MOST_COLOURS) (get_or (map word tiles) i [])
unfolding word
words_coloured tiles i lt = let at = word_there tiles i lt in subst (λ w. All (λ colour. colour < MOST_COLOURS) w) (sym at.2) at.0.in_range

-- Nothing stands in an empty table.
pub in_empty_table : {X : Type 0} (i : ℕ) (x : X) → slice_get [] i ≡ Some x → ⊥
in_empty_table i x e = none_some e
