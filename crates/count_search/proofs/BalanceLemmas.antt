-- That a balance of sides rules out only what has no arrangement.
use Rattle.std.proofs.Common.{◌≡◌, ◌<◌, ◌≤◌, ◌+◌, ◌-◌, ◌%◌, ◌==◌, ◌&&◌, All, ltb, ℕ, zero, suc, Bool, true, false, List, [], ◌∷◌, ◌++◌, Vec, Some, MatchBool, cond, length, get_or, slice_get, count_by, sum_by, take, refl, sym, ap, subst, ◌∙◌, arith, ⊎_elim}
use Rattle.std.proofs.Math.Seq.{take-length}
use Rattle.std.proofs.lemmas.List.{get_or_past}
use Rattle.std.proofs.lemmas.List.Sums.{sum_by-append, sum_by-cons, count_by-le-length, count_by_more_no, count_by_more_yes}
use Rattle.std.proofs.lemmas.List.Elements.{All-get_or}
use Rattle.match_limits.proofs.Listings.{lt_or_le}
use Rattle.match_puzzle.proofs.TogetherLemmas.{small_mate}
use Rattle.match_puzzle.specs.Puzzle.{IsPuzzle, IsBelowPeriod}
use Rattle.std.proofs.lemmas.Option.{slice_get_within, slice_get-get_or, get_or_from_slice_get}
use Rattle.match_limits.specs.declared.TheConstants.{MOST_COLOURS}
use Rattle.match_board.specs.Board.{cell_count, side_count, LiesAgainst, Meets}
use Rattle.match_board.specs.Turns.{shown}
use Rattle.match_board.specs.declared.figures.Figure.{Figure}
use Rattle.match_board.specs.declared.figures.Figure.TheVariants.{Rectangle, Triangle, Hexagon, Shape}
use Rattle.match_board.proofs.MateLemmas.{mate_back}
use Rattle.match_board.proofs.Places.{met_place, one_number, Meets-turned, StandsAt-in_range}
use Rattle.match_puzzle.proofs.ArrangementLemmas.{read_stands, standing_is}
use Rattle.match_puzzle.proofs.Pigeonhole.{all_placed}
use Rattle.match_puzzle.specs.Arrangement.{Stands, IsArrangement}
use Rattle.match_puzzle.specs.Puzzle.{Task, IsLegal, colour_of, mate_of, word_of}
use Rattle.match_puzzle.specs.declared.placements.Placement.{Placement}
use Rattle.match_puzzle.specs.declared.placements.Pair.{Pair}
use Rattle.xcc_form.specs.Options.{Compiled, IsCompiled, cover_of}
use Rattle.xcc_form.specs.Correspondence.{IsPairOf}
use Rattle.xcc_form.specs.Clashes.{IsPartialSolution}
use Rattle.xcc_form.specs.Chosen.{Selection, IsSelection, with_option}
use Rattle.xcc_form.proofs.OptionLemmas.{contains_at, many_options, one_pair, option_pair}
use Rattle.xcc_dance.proofs.ItemLemmas.{share_cell}
use Rattle.count_search.specs.Balance.{AreUnturnedSquares, IsBalance, IsShort, TellOuter, given, gives, is_at_border, is_outer, no_choice, opposite, option_gives, outer_total, pair_at, place_of, side_total, surplus, word_gives}
use Rattle.count_search.specs.BalanceSteps.{AddsPair, GoesInto, MayAdd, MayTakeBack}
use Rattle.count_search.specs.OptionExtensions.{HasOptions}
use Rattle.std.specs.declared.alloc.Global.{Global}
use Rattle.count_search.specs.declared.balances.Balance.{Balance}
use Rattle.count_search.proofs.TotalSums.{carried, one_if, one_if_few, one_if_some, total, total_both, total_count, total_le, total_one, total_same, total_swap}

-- ---- squares

-- a side of a square meets the opposite side of another
against_opposite : (s : Figure) (row place side r q k : ℕ) → side_count s ≡ 4 → LiesAgainst s row place side r q k → k ≡ opposite side
against_opposite (Rectangle width height) row place side r q k four h = grind arith
against_opposite (Triangle size) row place side r q k four h = absurd (omega (arith, four))
against_opposite (Hexagon size) row place side r q k four h = absurd (omega (arith, four))
against_opposite (Shape width height mask) row place side r q k four h = grind arith

meets_opposite : {s : Figure} {cell side c k : ℕ} → side_count s ≡ 4 → Meets s cell side c k → k ≡ opposite side
meets_opposite {s} {cell} {side} {c} {k} four m = against_opposite s m.row m.place side m.row' m.place' k four m.against

-- What lies against a side is one place and side.
abbrev AreOne : (r q k r' q' k' : ℕ) → Type 0
AreOne r q k r' q' k' = (r ≡ r') × (q ≡ q') × (k ≡ k')

one_against : (s : Figure) (row place side r q k r' q' k' : ℕ) → side_count s ≡ 4 → LiesAgainst s row place side r q k → LiesAgainst s row place side r' q' k' → AreOne r q k r' q' k'
one_against (Rectangle width height) row place side r q k r' q' k' four h h' = (grind arith, grind arith, grind arith)
one_against (Triangle size) row place side r q k r' q' k' four h h' = absurd (omega (arith, four))
one_against (Hexagon size) row place side r q k r' q' k' four h h' = absurd (omega (arith, four))
one_against (Shape width height mask) row place side r q k r' q' k' four h h' = (grind arith, grind arith, grind arith)

-- two cells that meet a side are one
one_meets : {s : Figure} {c k c' k' d j : ℕ} → side_count s ≡ 4 → Meets s c k d j → Meets s c' k' d j → c ≡ c'
one_meets {s} {c} {k} {c'} {k'} {d} {j} four m m' =
    let here = Meets-turned m in
    let there = met_place (Meets-turned m') here.here in
    let same = one_against s here.row here.place j here.row' here.place' k there.0 there.1 k' four here.against there.3 in
    one_number here.there there.2 same.0 same.1

pub opposite_back : (side : ℕ) → side < 4 → opposite (opposite side) ≡ side
opposite_back side lt = omega (arith, lt)

pub opposite_below : (side : ℕ) → opposite side < 4
opposite_below side = omega arith

-- what a side meets
abbrev pub MeetsNone : Figure → (cell side : ℕ) → Type 0
MeetsNone s cell side = (c k : ℕ) → Meets s cell side c k → ⊥

abbrev pub MeetsSome : Figure → (cell side : ℕ) → Type 0
MeetsSome s cell side = (c : ℕ) × (k : ℕ) × Meets s cell side c k

-- ---- booleans

-- what is 0 for outer ones and what is 0 for others
inner_or_outer : (b c : Bool) → one_if c ≡ cond b 0 (one_if c) + one_if (b && c)
inner_or_outer true c = omega arith
inner_or_outer false c = omega arith

inner_some : (b c : Bool) → 0 < cond b 0 (one_if c) → (b ≡ false) × (c ≡ true)
inner_some true c some = absurd (omega (arith, some))
inner_some false c some = (refl, one_if_some c some)

both_few : (b c : Bool) → one_if (b && c) ≤ one_if b
both_few true c = one_if_few c
both_few false c = omega arith

inner_few : (b : Bool) (w : ℕ) → cond b 0 w ≤ w
inner_few true w = omega arith
inner_few false w = omega arith

total_outer : (b : Bool) (g count : ℕ) → g < count → total (λ m. one_if (b && (g == m))) count ≡ one_if b
total_outer true g count lt = total_one g count lt
total_outer false g count lt = none count
  where
    none : (m : ℕ) → total (λ m'. one_if (false && (g == m'))) m ≡ 0
    none zero = refl
    none (suc m) = omega (arith, none m)

-- the pair of an option that there is
pub pair_is : (x : Compiled) (option : ℕ) → option < length x.options → IsPairOf x option (pair_at x option)
pair_is x option lt = (get_or x.options option no_choice, slice_get-get_or x.options option no_choice lt, refl)

pub pair_at_is : (x : Compiled) → IsCompiled x → (option : ℕ) (y : Pair) → IsPairOf x option y → pair_at x option ≡ y
pair_at_is x is option y w = one_pair x is option (pair_at x option) y (pair_is x option (slice_get_within x.options option w.0 w.1)) w

-- colours that are shown
listed_few : (word : List ℕ) (i : ℕ) → All (λ colour. colour < MOST_COLOURS) word → get_or word i 0 < MOST_COLOURS
listed_few word i all =
    ⊎_elim
    (λ lt. All-get_or (λ colour. colour < MOST_COLOURS) word i 0 lt all)
    (λ le. let none = get_or_past word i 0 le in omega (arith, none))
    (lt_or_le i (length word))

word_few : (word : List ℕ) (turn side : ℕ) → All (λ colour. colour < MOST_COLOURS) word → shown word turn side < MOST_COLOURS
unfolding shown
word_few word turn side all = listed_few word ((side + turn) % length word) all

shown_few : (p : Task) (y : Placement) (side : ℕ) → IsPuzzle p → IsLegal p y → colour_of p y side < MOST_COLOURS
unfolding colour_of
shown_few p y side puzzle legal = word_few (word_of p y.tile) y.turn side (puzzle.tile_colours y.tile legal.tile)

-- what a side gives is a colour
given_few : (x : Compiled) → IsCompiled x → (y : Placement) (side : ℕ) → IsLegal x.puzzle y → given x.puzzle side (colour_of x.puzzle y side) < MOST_COLOURS
given_few x is y side legal =
    let few = shown_few x.puzzle y side is.puzzle legal in
    by_side (ltb side 2) few (small_mate x.puzzle is.puzzle (colour_of x.puzzle y side) few)
  where
    by_side : (b : Bool) → {c m : ℕ} → c < MOST_COLOURS → m < MOST_COLOURS → cond b c m < MOST_COLOURS
    by_side true few few' = few
    by_side false few few' = few'

module _ (x : Compiled) (is : IsCompiled x) (squares : AreUnturnedSquares x.puzzle) (outer : List (List Bool)) (tells : TellOuter x.puzzle.board outer) where
  -- ---- options at outer sides

  module _ (chosen : List ℕ) (partial : IsPartialSolution (cover_of x) chosen) where
    -- the pair at a place
    abbrev pub pair_of : (place : ℕ) → Pair
    pair_of place = pair_at x (get_or chosen place 0)

    read : (place : ℕ) → place < length chosen → slice_get chosen place ≡ Some (get_or chosen place 0)
    read place lt = slice_get-get_or chosen place 0 lt

    is_pair : (place : ℕ) → place < length chosen → IsPairOf x (get_or chosen place 0) (pair_of place)
    is_pair place lt =
        let real = partial.real (get_or chosen place 0) (contains_at chosen place (get_or chosen place 0) (read place lt)) in
        pair_is x (get_or chosen place 0) (let many = many_options x is in omega (arith, real, many))

    -- no two of the options put tiles at one cell
    one_cell : (place other : ℕ) → place < length chosen → other < length chosen → (pair_of place).cell ≡ (pair_of other).cell → place ≡ other
    one_cell place other lt lt' same =
        let w = is_pair place lt in
        let v = is_pair other lt' in
        let not_before : (place < other → ⊥) = λ less. partial.apart place other (get_or chosen place 0) (get_or chosen other 0) less (read place lt) (read other lt') (share_cell x is (get_or chosen place 0) (get_or chosen other 0) (pair_of place) (pair_of other) w v same) in
        let not_after : (other < place → ⊥) = λ less. partial.apart other place (get_or chosen other 0) (get_or chosen place 0) less (read other lt') (read place lt) (share_cell x is (get_or chosen other 0) (get_or chosen place 0) (pair_of other) (pair_of place) v w (sym same)) in
        omega (arith, not_before, not_after)

    -- 1 for a cell whose side is an outer one
    abbrev pub outer_at : (side cell : ℕ) → ℕ
    outer_at side cell = one_if (is_outer outer cell side)

    outer_counted : (side : ℕ) → total (outer_at side) (cell_count x.puzzle.board) ≡ outer_total outer side
    outer_counted side = ap (total (outer_at side)) (sym tells.long) ∙ total_count (λ row. get_or row side false) outer []

    -- As many outer sides in a direction have tiles as there are, at most.
    pub border_few : (side : ℕ) → count_by (is_at_border x outer side) chosen ≤ outer_total outer side
    border_few side =
        let few = carried (λ place. one_if (is_at_border x outer side (get_or chosen place 0))) (outer_at side) (length chosen) (cell_count x.puzzle.board) (λ place cell. (place < length chosen) × ((pair_of place).cell ≡ cell))
        (λ place lt some. ((pair_of place).cell, (option_pair x is (get_or chosen place 0) (pair_of place) (is_pair place lt)).cell, (lt, refl), omega arith))
        (λ place other cell r r'. one_cell place other r.0 r'.0 (r.1 ∙ sym r'.1)) in
        let counted = total_count (is_at_border x outer side) chosen 0 in
        let all = outer_counted side in
        omega (arith, few, counted, all)

    pub gives_few : (side colour : ℕ) → count_by (option_gives x outer side colour) chosen ≤ outer_total outer side
    gives_few side colour =
        let few = carried (λ place. one_if (option_gives x outer side colour (get_or chosen place 0))) (outer_at side) (length chosen) (cell_count x.puzzle.board) (λ place cell. (place < length chosen) × ((pair_of place).cell ≡ cell))
        (λ place lt some. ((pair_of place).cell, (option_pair x is (get_or chosen place 0) (pair_of place) (is_pair place lt)).cell, (lt, refl), both_few (is_outer outer (pair_of place).cell side) (gives x.puzzle side colour (pair_of place).placement)))
        (λ place other cell r r'. one_cell place other r.0 r'.0 (r.1 ∙ sym r'.1)) in
        let counted = total_count (option_gives x outer side colour) chosen 0 in
        let all = outer_counted side in
        omega (arith, few, counted, all)

    -- of all colours each tile at an outer side gives one there
    pub border_colours : (side : ℕ) → total (λ colour. count_by (option_gives x outer side colour) chosen) MOST_COLOURS ≡ count_by (is_at_border x outer side) chosen
    border_colours side =
        let by_place = total_same (λ colour. count_by (option_gives x outer side colour) chosen) (λ colour. total (λ place. one_if (option_gives x outer side colour (get_or chosen place 0))) (length chosen)) MOST_COLOURS
        (λ colour few. sym (total_count (option_gives x outer side colour) chosen 0)) in
        let swapped = total_swap (λ colour place. one_if (option_gives x outer side colour (get_or chosen place 0))) MOST_COLOURS (length chosen) in
        let once = total_same (λ place. total (λ colour. one_if (option_gives x outer side colour (get_or chosen place 0))) MOST_COLOURS) (λ place. one_if (is_at_border x outer side (get_or chosen place 0))) (length chosen)
        (λ place lt. total_outer (is_outer outer (pair_of place).cell side) (given x.puzzle side (colour_of x.puzzle (pair_of place).placement side)) MOST_COLOURS
        (given_few x is (pair_of place).placement side (option_pair x is (get_or chosen place 0) (pair_of place) (is_pair place lt)).legal)) in
        by_place ∙ swapped ∙ once ∙ total_count (is_at_border x outer side) chosen 0

  -- ---- the tiles that stand

  module _ (a : List Placement) (ar : IsArrangement x.puzzle a) where
    -- what stands at the cell
    abbrev pub at : (cell : ℕ) → Placement
    at cell = get_or a cell (record { tile = 0; turn = 0 })

    stands_at : (cell : ℕ) → cell < cell_count x.puzzle.board → Stands a cell (at cell)
    stands_at cell lt = read_stands a cell _ (let inside : cell < length a = omega (arith, ar.cells, lt) in inside)

    -- 1 for a cell that gives the colour on the side
    abbrev pub shows : (side colour cell : ℕ) → ℕ
    shows side colour cell = one_if (gives x.puzzle side colour (at cell))

    -- 1 for such a cell whose side is an inner one
    abbrev pub inner : (side colour cell : ℕ) → ℕ
    inner side colour cell = cond (is_outer outer cell side) 0 (shows side colour cell)

    -- 1 for such a cell whose side is an outer one
    abbrev pub outside : (side colour cell : ℕ) → ℕ
    outside side colour cell = one_if (is_outer outer cell side && gives x.puzzle side colour (at cell))

    -- 1 for a tile that gives the colour on the side
    abbrev pub of_tile : (side colour tile : ℕ) → ℕ
    of_tile side colour tile = one_if (word_gives x.puzzle side colour (get_or x.puzzle.words tile []))

    -- a tile stands as it is
    unturned_at : (cell : ℕ) → cell < cell_count x.puzzle.board → (at cell).turn ≡ 0
    unturned_at cell lt =
        let legal = ar.legal cell (at cell) (stands_at cell lt) in
        subst (λ b. MatchBool b (IsBelowPeriod (word_of x.puzzle (at cell).tile) (at cell).turn) ((at cell).turn ≡ 0)) squares.unturned legal.turn

    shows_tile : (side colour cell : ℕ) → cell < cell_count x.puzzle.board → shows side colour cell ≡ of_tile side colour (at cell).tile
    unfolding colour_of
    shows_tile side colour cell lt = ap (λ turn. one_if (given x.puzzle side (shown (word_of x.puzzle (at cell).tile) turn side) == colour)) (unturned_at cell lt)

    tiles_le : (side colour : ℕ) → total (shows side colour) (cell_count x.puzzle.board) ≤ total (of_tile side colour) (length x.puzzle.words)
    tiles_le side colour =
        carried (shows side colour) (of_tile side colour) (cell_count x.puzzle.board) (length x.puzzle.words) (λ cell tile. (cell < cell_count x.puzzle.board) × ((at cell).tile ≡ tile))
        (λ cell lt some. ((at cell).tile, (ar.legal cell (at cell) (stands_at cell lt)).tile, (lt, refl), let same = shows_tile side colour cell lt in omega (arith, same)))
        (λ cell cell' tile r r'. ar.once cell cell' (at cell) (at cell') (stands_at cell r.0) (stands_at cell' r'.0) (r.1 ∙ sym r'.1))

    tiles_ge : (side colour : ℕ) → total (of_tile side colour) (length x.puzzle.words) ≤ total (shows side colour) (cell_count x.puzzle.board)
    tiles_ge side colour =
        carried (of_tile side colour) (shows side colour) (length x.puzzle.words) (cell_count x.puzzle.board) (λ tile cell. (at cell).tile ≡ tile)
        (λ tile lt some.
        let w = all_placed x.puzzle a squares.all ar tile lt in
        let within = slice_get_within a w.0 w.1 w.2 in
        let in_board : w.0 < cell_count x.puzzle.board = omega (arith, within, ar.cells) in
        let here : (at w.0).tile ≡ tile = ap (λ (y : Placement). y.tile) (standing_is a w.0 w.1 _ w.2) ∙ w.3 in
        let same = shows_tile side colour w.0 in_board ∙ ap (of_tile side colour) here in
        (w.0, in_board, here, omega (arith, same)))
        (λ tile tile' cell r r'. sym r ∙ r')

    -- Just the tiles that give a colour on a side do so where they stand.
    tiles_stand : (side colour : ℕ) → count_by (word_gives x.puzzle side colour) x.puzzle.words ≡ total (shows side colour) (cell_count x.puzzle.board)
    tiles_stand side colour =
        let le = tiles_le side colour in
        let ge = tiles_ge side colour in
        let counted = total_count (word_gives x.puzzle side colour) x.puzzle.words [] in
        omega (arith, le, ge, counted)

    split : (side colour : ℕ) → total (shows side colour) (cell_count x.puzzle.board) ≡ total (inner side colour) (cell_count x.puzzle.board) + total (outside side colour) (cell_count x.puzzle.board)
    split side colour = total_both (shows side colour) (inner side colour) (outside side colour) (cell_count x.puzzle.board) (λ cell. inner_or_outer (is_outer outer cell side) (gives x.puzzle side colour (at cell)))

    -- ---- inner sides

    -- sides that match give the same
    given_same : (side shown shown' : ℕ) → side < 4 → shown ≡ mate_of x.puzzle shown' → given x.puzzle side shown ≡ given x.puzzle (opposite side) shown'
    given_same zero shown shown' lt match = match
    given_same (suc zero) shown shown' lt match = match
    given_same (suc (suc zero)) shown shown' lt match = ap (mate_of x.puzzle) match ∙ mate_back x.puzzle.mating.mates is.puzzle.mating.mates shown'
    given_same (suc (suc (suc zero))) shown shown' lt match = ap (mate_of x.puzzle) match ∙ mate_back x.puzzle.mating.mates is.puzzle.mating.mates shown'
    given_same (suc (suc (suc (suc side)))) shown shown' lt match = absurd (omega (arith, lt))

    -- what is given at an inner side is given at the side that it meets, which is an inner one too
    inner_more : (side colour cell c : ℕ) → c < cell_count x.puzzle.board → Meets x.puzzle.board cell side c (opposite side)
        → given x.puzzle side (colour_of x.puzzle (at cell) side) ≡ given x.puzzle (opposite side) (colour_of x.puzzle (at c) (opposite side))
        → inner side colour cell ≤ inner (opposite side) colour c
    inner_more side colour cell c lt meets same =
        by_outer (is_outer outer c (opposite side)) (tells.each c (opposite side) lt (opposite_below side)) (ap (λ g. one_if (g == colour)) same)
      where
        by_outer : (b : Bool) → MatchBool b (MeetsNone x.puzzle.board c (opposite side)) (MeetsSome x.puzzle.board c (opposite side)) → shows side colour cell ≡ shows (opposite side) colour c → inner side colour cell ≤ cond b 0 (shows (opposite side) colour c)
        by_outer true none e = absurd (none cell side (Meets-turned meets))
        by_outer false some e = let few = inner_few (is_outer outer cell side) (shows side colour cell) in omega (arith, few, e)

    inner_le : (side colour : ℕ) → side < 4 → total (inner side colour) (cell_count x.puzzle.board) ≤ total (inner (opposite side) colour) (cell_count x.puzzle.board)
    inner_le side colour lt =
        carried (inner side colour) (inner (opposite side) colour) (cell_count x.puzzle.board) (cell_count x.puzzle.board) (λ cell c. Meets x.puzzle.board cell side c (opposite side))
        (λ cell in_board some.
        let w = inner_some (is_outer outer cell side) (gives x.puzzle side colour (at cell)) some in
        let met = subst (λ b. MatchBool b (MeetsNone x.puzzle.board cell side) (MeetsSome x.puzzle.board cell side)) w.0 (tells.each cell side in_board lt) in
        let met_side = meets_opposite squares.four met.2 in
        let meets = subst (Meets x.puzzle.board cell side met.0) met_side met.2 in
        let there = StandsAt-in_range meets.there in
        let same = given_same side (colour_of x.puzzle (at cell) side) (colour_of x.puzzle (at met.0) (opposite side)) lt (ar.edges cell side met.0 (opposite side) (at cell) (at met.0) meets (stands_at cell in_board) (stands_at met.0 there)) in
        (met.0, there, meets, inner_more side colour cell met.0 there meets same))
        (λ cell cell' c m m'. one_meets squares.four m m')

    -- each cell gives one colour at an outer side
    outside_colours : (side : ℕ) → total (λ colour. total (outside side colour) (cell_count x.puzzle.board)) MOST_COLOURS ≡ outer_total outer side
    outside_colours side =
        let swapped = total_swap (λ colour cell. outside side colour cell) MOST_COLOURS (cell_count x.puzzle.board) in
        let once = total_same (λ cell. total (λ colour. outside side colour cell) MOST_COLOURS) (λ cell. one_if (is_outer outer cell side)) (cell_count x.puzzle.board)
        (λ cell lt. total_outer (is_outer outer cell side) (given x.puzzle side (colour_of x.puzzle (at cell) side)) MOST_COLOURS (given_few x is (at cell) side (ar.legal cell (at cell) (stands_at cell lt)))) in
        swapped ∙ once ∙ ap (total (λ cell. one_if (is_outer outer cell side))) (sym tells.long) ∙ total_count (λ row. get_or row side false) outer []

    -- ---- an arrangement with all chosen options

    module _ (chosen : List ℕ) (partial : IsPartialSolution (cover_of x) chosen) (extends : HasOptions x chosen a) where
      -- what an option puts stands there
      stands_there : (place : ℕ) → place < length chosen → at (pair_of chosen partial place).cell ≡ (pair_of chosen partial place).placement
      stands_there place lt =
          let option = get_or chosen place 0 in
          let w = extends.stands option (contains_at chosen place option (read chosen partial place lt)) in
          let same : pair_at x option ≡ w.0 = pair_at_is x is option w.0 w.1 in
          standing_is a (pair_at x option).cell (pair_at x option).placement _ (subst (λ (y : Pair). Stands a y.cell y.placement) (sym same) w.2)

      placed_le : (side colour : ℕ) → count_by (option_gives x outer side colour) chosen ≤ total (outside side colour) (cell_count x.puzzle.board)
      placed_le side colour =
          let few = carried (λ place. one_if (option_gives x outer side colour (get_or chosen place 0))) (outside side colour) (length chosen) (cell_count x.puzzle.board) (λ place cell. (place < length chosen) × ((pair_of chosen partial place).cell ≡ cell))
          (λ place lt some.
          let y = pair_of chosen partial place in
          let same = ap (λ (z : Placement). one_if (is_outer outer y.cell side && gives x.puzzle side colour z)) (stands_there place lt) in
          (y.cell, (option_pair x is (get_or chosen place 0) y (is_pair chosen partial place lt)).cell, (lt, refl), omega (arith, same)))
          (λ place other cell r r'. one_cell chosen partial place other r.0 r'.0 (r.1 ∙ sym r'.1)) in
          let counted = total_count (option_gives x outer side colour) chosen 0 in
          omega (arith, few, counted)

      -- of one colour: what is in surplus lies at outer sides without a tile
      surplus_of : (side colour here there : ℕ) → side < 4 → here ≡ side_total x outer chosen side colour → there ≡ side_total x outer chosen (opposite side) colour →
          here - there + count_by (option_gives x outer side colour) chosen ≤ total (outside side colour) (cell_count x.puzzle.board)
      surplus_of side colour here there lt is_here is_there =
          let back = ap (λ k. count_by (option_gives x outer k colour) chosen) (opposite_back side lt) in
          let tiles = tiles_stand side colour in
          let tiles' = tiles_stand (opposite side) colour in
          let parts = split side colour in
          let parts' = split (opposite side) colour in
          let inside = inner_le side colour lt in
          let placed = placed_le side colour in
          let placed' = placed_le (opposite side) colour in
          omega (arith, is_here, is_there, back, tiles, tiles', parts, parts', inside, placed, placed')

-- what is in surplus of the first so many colours
surplus_total : (sides : List ℕ) (side count : ℕ) → surplus sides side count ≡ total (λ colour. get_or sides (place_of side colour) 0 - get_or sides (place_of (opposite side) colour) 0) count
surplus_total sides side zero = refl
surplus_total sides side (suc count) = let rest = surplus_total sides side count in omega (arith, rest)

-- Where a balance is short, no arrangement has all chosen options.
pub none_if_short : (x : Compiled) (chosen : List ℕ) (b : Balance) → IsSelection x chosen → IsBalance x chosen b → IsShort b → (a : List Placement) → HasOptions x chosen a → ⊥
none_if_short x chosen b selection balance short a extends =
    let is = selection.compiled in
    let outer = b.outer.items in
    let side = short.side in
    let n = cell_count x.puzzle.board in
    let more : ℕ → ℕ = λ colour. get_or b.sides (place_of side colour) 0 - get_or b.sides (place_of (opposite side) colour) 0 in
    let placed : ℕ → ℕ = λ colour. count_by (option_gives x outer side colour) chosen in
    let outside_of : ℕ → ℕ = λ colour. total (outside x is balance.squares outer balance.outer a extends.arrangement side colour) n in
    let each = total_le (λ colour. more colour + placed colour) outside_of MOST_COLOURS
    (λ colour few. surplus_of x is balance.squares outer balance.outer a extends.arrangement chosen selection.partial extends side colour _ _ short.side_in (balance.sides side colour short.side_in few) (balance.sides (opposite side) colour (opposite_below side) few)) in
    let both = total_both (λ colour. more colour + placed colour) more placed MOST_COLOURS (λ colour. refl) in
    let of_border = border_colours x is balance.squares outer balance.outer chosen selection.partial side in
    let of_outside = outside_colours x is balance.squares outer balance.outer a extends.arrangement side in
    let in_surplus = surplus_total b.sides side MOST_COLOURS in
    let free = balance.free side short.side_in in
    omega (arith, each, both, of_border, of_outside, in_surplus, free, short.short)

-- ---- one option more, and one less

-- one more is counted where the last is so
count_more : (f : ℕ → Bool) (xs : List ℕ) (last : ℕ) → count_by f (xs ++ last ∷ []) ≡ count_by f xs + one_if (f last)
count_more f xs last =
    let parts = sum_by-append (λ y. one_if (f y)) xs (last ∷ []) in
    let one = sum_by-cons (λ y. one_if (f y)) last [] in
    let none : sum_by (λ y. one_if (f y)) [] ≡ 0 = refl in
    omega (arith, parts, one, none)

-- Two lists of options have the same counts but for one option more.
abbrev pub OneMoreOption : (chosen : List ℕ) (option : ℕ) (more : List ℕ) → Type 0
OneMoreOption chosen option more = (f : ℕ → Bool) → count_by f more ≡ count_by f chosen + one_if (f option)

pub one_more_pushed : (chosen : List ℕ) (option : ℕ) → OneMoreOption chosen option (chosen ++ option ∷ [])
one_more_pushed chosen option = λ f. count_more f chosen option

module _ (x : Compiled) (is : IsCompiled x) (chosen : List ℕ) (option : ℕ) (more : List ℕ) (one : OneMoreOption chosen option more) where
  -- the balance with one option more
  pub balance_more : (b b' : Balance) → IsBalance x chosen b → AddsPair x.puzzle (pair_at x option) b b' → IsBalance x more b'
  balance_more b b' balance adds =
      let same = ap (λ (v : Vec (List Bool) Global). v.items) adds.outer in record {
        squares = balance.squares;
        outer = subst (TellOuter x.puzzle.board) (sym same) balance.outer;
        sides = λ side colour lt few.
            let before = balance.sides side colour lt few in
            let step = adds.sides side colour lt few in
            let counted = one (option_gives x b.outer.items (opposite side) colour) in
            subst (λ outer. get_or b'.sides (place_of side colour) 0 ≡ side_total x outer more side colour) (sym same) (omega (arith, before, step, counted));
        free = λ side lt.
            let before = balance.free side lt in
            let step = adds.free side lt in
            let counted = one (is_at_border x b.outer.items side) in
            subst (λ outer. get_or b'.free side 0 + count_by (is_at_border x outer side) more ≡ outer_total outer side) (sym same) (omega (arith, before, step, counted));
      }

  -- the balance with one option less
  pub balance_less : (b b' : Balance) → IsBalance x more b → AddsPair x.puzzle (pair_at x option) b' b → IsBalance x chosen b'
  balance_less b b' balance adds =
      let same = ap (λ (v : Vec (List Bool) Global). v.items) adds.outer in record {
        squares = balance.squares;
        outer = subst (TellOuter x.puzzle.board) same balance.outer;
        sides = λ side colour lt few.
            let before = balance.sides side colour lt few in
            let step = adds.sides side colour lt few in
            let counted = one (option_gives x b'.outer.items (opposite side) colour) in
            let total_before = subst (λ outer. get_or b.sides (place_of side colour) 0 ≡ side_total x outer more side colour) same before in
            omega (arith, total_before, step, counted);
        free = λ side lt.
            let before = subst (λ outer. get_or b.free side 0 + count_by (is_at_border x outer side) more ≡ outer_total outer side) same (balance.free side lt) in
            let step = adds.free side lt in
            let counted = one (is_at_border x b'.outer.items side) in
            omega (arith, before, step, counted);
      }

  module _ (b : Balance) (partial : IsPartialSolution (cover_of x) more) (real : option < length x.options) where
    goes_into : AreUnturnedSquares x.puzzle → TellOuter x.puzzle.board b.outer.items → GoesInto x.puzzle (pair_at x option) b
    goes_into squares outer =
        let good = option_pair x is option (pair_at x option) (pair_is x option real) in
        record { squares = squares; cell = (let lt = good.cell in let long = outer.long in omega (arith, lt, long)); tile = good.legal.tile }

    few_outer : TellOuter x.puzzle.board b.outer.items → (side : ℕ) → outer_total b.outer.items side ≤ 256
    few_outer outer side =
        let le = count_by-le-length (λ row. get_or row side false) b.outer.items in
        let most = is.puzzle.board.most in
        let long = outer.long in
        omega (arith, le, most, long)

    -- an option more may be counted
    pub may_add : IsBalance x chosen b → MayAdd x.puzzle (pair_at x option) b
    may_add balance = record {
      goes = goes_into balance.squares balance.outer;
      room = λ side colour lt few.
          let counted = balance.sides side colour lt few in
          let of_tiles = count_by-le-length (word_gives x.puzzle side colour) x.puzzle.words in
          let few_tiles = is.puzzle.tiles.few in
          let step = one (option_gives x b.outer.items (opposite side) colour) in
          let placed = gives_few x is balance.squares b.outer.items balance.outer more partial (opposite side) colour in
          let most = few_outer balance.outer (opposite side) in
          omega (arith, counted, of_tiles, few_tiles, step, placed, most);
      free = λ side lt is_outer_side.
          let counted = balance.free side lt in
          let step = one (is_at_border x b.outer.items side) in
          let here = ap one_if is_outer_side in
          let few = border_few x is balance.squares b.outer.items balance.outer more partial side in
          omega (arith, counted, step, here, few);
    }

    -- an option that is counted may be taken back
    pub may_take_back : IsBalance x more b → MayTakeBack x.puzzle (pair_at x option) b
    may_take_back balance = record {
      goes = goes_into balance.squares balance.outer;
      counted = λ side colour lt few is_given.
          let counted = balance.sides side colour lt few in
          let step = one (option_gives x b.outer.items (opposite side) colour) in
          let here = ap one_if is_given in
          omega (arith, counted, step, here);
      room = λ side lt.
          let counted = balance.free side lt in
          let most = few_outer balance.outer side in
          omega (arith, counted, most);
    }

-- what is chosen is one option more than all but the last
one_more_last : (chosen : List ℕ) (option : ℕ) → 0 < length chosen → slice_get chosen (length chosen - 1) ≡ Some option → OneMoreOption (take (length chosen - 1) chosen) option chosen
one_more_last chosen option some last f = by_test (f option) refl
  where
    place : ℕ
    place = length chosen - 1

    place_in : place < length chosen
    place_in = omega (arith, some)

    here : get_or chosen place 0 ≡ option
    here = get_or_from_slice_get chosen place option 0 last

    whole : take (place + 1) chosen ≡ chosen
    whole = ap (λ n. take n chosen) (let next : place + 1 ≡ length chosen = omega (arith, some) in next) ∙ take-length chosen

    by_test : (b : Bool) → f option ≡ b → count_by f chosen ≡ count_by f (take place chosen) + one_if b
    by_test true e = let more = count_by_more_yes f chosen place 0 place_in (ap f here ∙ e) in let all = ap (count_by f) whole in omega (arith, more, all)
    by_test false e = let more = count_by_more_no f chosen place 0 place_in (ap f here ∙ e) in let all = ap (count_by f) whole in omega (arith, more, all)

-- ---- choices

-- the pair of an option, as an engine reads it
pub record IsReadPair (x : Compiled) (option : ℕ) (p : Task) (y : Pair) : Type 0 where
  pub puzzle : p ≡ x.puzzle
  pub pair : IsPairOf x option y

module _ (s t : Selection) (option : ℕ) (chosen : t ≡ with_option s option) (right : IsSelection t.compiled t.chosen) (p : Task) (y : Pair) (reads : IsReadPair t.compiled option p y) where
  -- the same of the selection before
  same_compiled : t.compiled ≡ s.compiled
  same_compiled = ap (λ (v : Selection). v.compiled) chosen

  right_before : IsSelection s.compiled (s.chosen ++ option ∷ [])
  right_before = subst (λ (v : Selection). IsSelection v.compiled v.chosen) chosen right

  reads_before : IsReadPair s.compiled option p y
  reads_before = subst (λ x. IsReadPair x option p y) same_compiled reads

  pair_before : y ≡ pair_at s.compiled option
  pair_before = sym (pair_at_is s.compiled right_before.compiled option y reads_before.pair)

  real_before : option < length s.compiled.options
  real_before = let w = reads_before.pair in slice_get_within s.compiled.options option w.0 w.1

  -- an option that is chosen may be counted
  pub may_count : (b : Balance) → IsBalance s.compiled s.chosen b → MayAdd p y b
  may_count b balance =
      subst (λ q. MayAdd q y b) (sym reads_before.puzzle)
      (subst (λ q. MayAdd s.compiled.puzzle q b) (sym pair_before)
      (may_add s.compiled right_before.compiled s.chosen option (s.chosen ++ option ∷ []) (one_more_pushed s.chosen option) b right_before.partial real_before balance))

  -- and then it is
  pub counted_too : (b b' : Balance) → IsBalance s.compiled s.chosen b → AddsPair p y b b' → IsBalance t.compiled t.chosen b'
  counted_too b b' balance adds =
      subst (λ (v : Selection). IsBalance v.compiled v.chosen b') (sym chosen)
      (balance_more s.compiled right_before.compiled s.chosen option (s.chosen ++ option ∷ []) (one_more_pushed s.chosen option) b b' balance
      (subst (λ q. AddsPair s.compiled.puzzle q b b') pair_before (subst (λ q. AddsPair q y b b') reads_before.puzzle adds)))

module _ (s : Selection) (option : ℕ) (some : 0 < length s.chosen) (last : slice_get s.chosen (length s.chosen - 1) ≡ Some option) (right : IsSelection s.compiled s.chosen) (p : Task) (y : Pair) (reads : IsReadPair s.compiled option p y) where
  pair_last : y ≡ pair_at s.compiled option
  pair_last = sym (pair_at_is s.compiled right.compiled option y reads.pair)

  real_last : option < length s.compiled.options
  real_last = let w = reads.pair in slice_get_within s.compiled.options option w.0 w.1

  -- the option that was chosen last may be taken back
  pub may_take_last : (b : Balance) → IsBalance s.compiled s.chosen b → MayTakeBack p y b
  may_take_last b balance =
      subst (λ q. MayTakeBack q y b) (sym reads.puzzle)
      (subst (λ q. MayTakeBack s.compiled.puzzle q b) (sym pair_last)
      (may_take_back s.compiled right.compiled (take (length s.chosen - 1) s.chosen) option s.chosen (one_more_last s.chosen option some last) b right.partial real_last balance))

  -- and then the balance is that before
  pub last_taken : (b b' : Balance) → IsBalance s.compiled s.chosen b → AddsPair p y b' b → IsBalance s.compiled (take (length s.chosen - 1) s.chosen) b'
  last_taken b b' balance adds =
      balance_less s.compiled right.compiled (take (length s.chosen - 1) s.chosen) option s.chosen (one_more_last s.chosen option some last) b b' balance
      (subst (λ q. AddsPair s.compiled.puzzle q b' b) pair_last (subst (λ q. AddsPair q y b' b) reads.puzzle adds))

-- the option chosen last is one that there is
pub last_real : (s : Selection) (option : ℕ) → slice_get s.chosen (length s.chosen - 1) ≡ Some option → IsSelection s.compiled s.chosen → option < length s.compiled.options
last_real s option last right =
    let real = right.partial.real option (contains_at s.chosen (length s.chosen - 1) option last) in
    let many = many_options s.compiled right.compiled in
    omega (arith, real, many)
