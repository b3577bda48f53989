-- What fits at a cell.
use Rattle.std.proofs.Common.{◌≡◌, ◌≢◌, ◌⊎◌, ◌<◌, ◌≤◌, ◌+◌, ◌*◌, ◌/◌, ◌%◌, ◌∷◌, [], ◌↔◌, ℕ, zero, suc, List, All, Contains, Option, Some, None, IfSome, unwrap_or, length, map, get_or, IsTrue, eqb, eq-eqb, ◌^◌, bit_and, arith, refl, sym, ap, ◌∙◌, subst, inl, inr, ⊎_elim}
use Rattle.match_limits.proofs.OptionLemmas.{none_some}
use Rattle.match_limits.specs.declared.TheConstants.{MOST_COLOURS}
use Rattle.std.specs.Int.{bit_at}
use Rattle.std.proofs.lemmas.Nat.Bits.{shr_and_one}
use Rattle.std.proofs.lemmas.Bool.{eqb-true}
use Rattle.std.proofs.lemmas.Bool.Decides.{eqb_tells}
use Rattle.std.proofs.lemmas.List.{get_or-map, length-map}
use Rattle.match_board.specs.Board.{side_count}
use Rattle.match_board.specs.Turns.{shown as shown_colour}
use Rattle.std.proofs.lemmas.Nat.{mod_below}
use Rattle.match_limits.specs.Listing.{IsListing, ByKey, ComesBefore}
use Rattle.match_puzzle.specs.Puzzle.{Task, IsPuzzle, IsLegal, colour_of, mate_of}
use Rattle.match_puzzle.specs.Prefix.{Prefix, Has, IsFree, IsUnused}
use Rattle.match_puzzle.specs.Fitting.{Fits, FitsItem, AreFitting, AreAsAsked, IsAsked, item_key, tile_turn, turned_tile, numbered_pair}
use Rattle.match_puzzle.specs.PlacementSets.{AreFreeNumbers, AreShowing, Shows, TellsOf, JoinsTo, numbered}
use Rattle.match_puzzle.specs.declared.placement_sets.TheConstants.{NO_COLOUR}
use Rattle.match_puzzle.proofs.Words.{legal_below, few_sides}
use Rattle.match_puzzle.specs.declared.placements.Placement.{Placement}
use Rattle.match_puzzle.specs.declared.placements.Pair.{Pair}
use Rattle.match_puzzle.specs.declared.items.Item.{Item}
use Rattle.match_puzzle.specs.declared.items.Item.TheVariants.{Cell, Tile}
use Rattle.match_puzzle.proofs.Prefixes.{inside}
use Rattle.match_puzzle.proofs.ArrangementLemmas.{side_in_range}

-- ---- what is asked of a side

-- What a number tells of some colours it tells of the same ones.
pub tells_alike : (P Q : ℕ → Type 0) (n : ℕ) → ((colour : ℕ) → P colour → Q colour) → ((colour : ℕ) → Q colour → P colour) → TellsOf P n → TellsOf Q n
tells_alike P Q n to from told =
    ⊎_elim
    (λ none. inl (none.0, λ colour asked. none.1 colour (from colour asked)))
    (λ some. inr (⊎_elim (λ one. inl (one.0, to n one.1, λ colour asked. one.2 colour (from colour asked))) (λ two. inr (two.0, two.1, two.2, to two.1 two.3, to two.2 two.4, two.5)) some))
    told

pub tells_few : (P : ℕ → Type 0) (n : ℕ) → TellsOf P n → n ≤ NO_COLOUR
tells_few P n told = ⊎_elim (λ none. let e = none.0 in omega (arith, e)) (λ some. ⊎_elim (λ one. let lt = one.0 in omega (arith, lt)) (λ two. let e = two.0 in omega (arith, e)) some) told

-- what a rule tells
pub tells_rule : (P : ℕ → Type 0) (rule : Option ℕ) → IfSome rule (λ colour. colour < MOST_COLOURS) → ((colour : ℕ) → (rule ≡ Some colour) ↔ P colour) → TellsOf P (unwrap_or rule MOST_COLOURS)
tells_rule P None few is = inl (refl, λ colour asked. none_some ((is colour).1 asked))
tells_rule P (Some rule) few is = inr (inl (few, (is rule).0 refl, λ colour asked. inside ((is colour).1 asked)))

-- what a rule and what stands there tell together
pub tells_both : (P : ℕ → Type 0) (first second joined : ℕ) → TellsOf P first → second < MOST_COLOURS → JoinsTo first second joined → TellsOf (λ colour. P colour ⊎ (second ≡ colour)) joined
tells_both P first second joined told few joins =
    ⊎_elim
    (λ same. subst (TellsOf (λ colour. P colour ⊎ (second ≡ colour))) (sym same.1) (inr (inl (few, inr refl, λ colour asked. ⊎_elim (λ rule. alone same.0 colour rule) (λ e. e) asked))))
    (λ other.
    ⊎_elim
    (λ none. absurd (other.0 none.0))
    (λ some. ⊎_elim (λ one. inr (inr (other.2, first, second, inl one.1, inr refl, other.1))) (λ two. inr (inr (other.2, two.1, two.2, inl two.3, inl two.4, two.5))) some)
    told)
    joins
  where
    alone : (first ≡ MOST_COLOURS) ⊎ (first ≡ second) → (colour : ℕ) → P colour → second ≡ colour
    alone either colour rule =
        ⊎_elim
        (λ none. absurd (none.1 colour rule))
        (λ some.
        ⊎_elim
        (λ one. ⊎_elim (λ any. let lt = one.0 in absurd (omega (arith, lt, any))) (λ e. sym e ∙ one.2 colour rule) either)
        (λ two. let e = two.0 in ⊎_elim (λ any. absurd (omega (arith, e, any))) (λ same. absurd (omega (arith, e, same, few))) either)
        some)
        told

-- where a cell has no such side, nothing is asked of it
pub outside_asks : (p : Task) (q : Prefix) (cell side colour : ℕ) → side_count p.board ≤ side → IsAsked p q cell side colour → ⊥
outside_asks p q cell side colour past asked = ⊎_elim (λ r. let lt = r.side_in in omega (arith, past, lt)) (λ w. let lt = side_in_range w.3 in omega (arith, past, lt)) asked

-- ---- what fits, by what is asked

-- The placement shows what is asked of the side.
abbrev pub ShowsAsked : Task → Prefix → (cell : ℕ) → Placement → (side : ℕ) → Type 0
ShowsAsked p q cell x side = (colour : ℕ) → IsAsked p q cell side colour → colour_of p x side ≡ colour

module _ (p : Task) (q : Prefix) (cell : ℕ) (x : Placement) where
  pub fits_shown : IsFree q cell → IsUnused q x.tile → IsLegal p x → ((side : ℕ) → side < 4 → ShowsAsked p q cell x side) → Fits p q cell x
  fits_shown free unused legal shows = record {
    free = free;
    unused = unused;
    legal = legal;
    border = λ side colour rule. shows side (let lt = rule.side_in in omega (arith, lt, few_sides p.board)) colour (inl rule);
    edges = λ side c k y meets has. shows side (let lt = side_in_range meets in omega (arith, lt, few_sides p.board)) (mate_of p (colour_of p y k)) (inr (c, k, y, meets, has, refl));
  }

  pub shown_fits : Fits p q cell x → (side : ℕ) → ShowsAsked p q cell x side
  shown_fits fits side colour asked = ⊎_elim (λ rule. fits.border side colour rule) (λ w. fits.edges side w.0 w.1 w.2 w.3 w.4 ∙ w.5) asked

-- four sides, one by one
pub each_of_four : (P : ℕ → Type 0) → P 0 → P 1 → P 2 → P 3 → (side : ℕ) → side < 4 → P side
each_of_four P a b c d zero lt = a
each_of_four P a b c d (suc zero) lt = b
each_of_four P a b c d (suc (suc zero)) lt = c
each_of_four P a b c d (suc (suc (suc zero))) lt = d
each_of_four P a b c d (suc (suc (suc (suc n)))) lt = absurd (omega arith)

-- a placement by its tile and turn
pub same_placement : {x y : Placement} → x.tile ≡ y.tile → x.turn ≡ y.turn → x ≡ y
same_placement {x} {y} e f =
    let of : ℕ → ℕ → Placement = λ a b. record { tile = a; turn = b } in
    ap (λ a. of a x.turn) e ∙ ap (λ b. of y.tile b) f

pub same_pair : {x y : Pair} → x.cell ≡ y.cell → x.placement ≡ y.placement → x ≡ y
same_pair {x} {y} e f =
    let of : ℕ → Placement → Pair = λ a b. record { cell = a; placement = b } in
    ap (λ a. of a x.placement) e ∙ ap (λ b. of y.cell b) f

-- nothing fits where something stands
pub taken_fits_not : (p : Task) (q : Prefix) (cell : ℕ) (y x : Placement) → Has q cell y → Fits p q cell x → ⊥
taken_fits_not p q cell y x has fits = none_some (inside (sym fits.free ∙ has))

-- a legal turn is below 4
pub small_turn : (p : Task) (x : Placement) → IsPuzzle p → IsLegal p x → x.turn < 4
small_turn p x is legal = omega (arith, legal_below p x is legal, few_sides p.board)

-- a list of images has the image of each member
contains_map : {X Y : Type 0} (f : X → Y) (xs : List X) (x : X) → Contains xs x → Contains (map f xs) (f x)
contains_map f xs x c = (c.0, omega (arith, length-map xs f, c.1), get_or-map f xs c.0 x (f x) c.1 ∙ ap f c.2)

-- a member of a list of images is the image of a member
contains_mapped : {X Y : Type 0} (f : X → Y) (xs : List X) (y : Y) → Contains (map f xs) y → (x : X) × Contains xs x × (f x ≡ y)
contains_mapped {X} f [] y c = absurd (omega (arith, c.1))
contains_mapped {X} f (x ∷ xs) y c = by_place c.0 c.1 c.2 (contains_mapped f xs y)
  where
    by_place : (k : ℕ) → k < length (map f (x ∷ xs)) → get_or (map f (x ∷ xs)) k y ≡ y → (Contains (map f xs) y → (z : X) × Contains xs z × (f z ≡ y)) → (z : X) × Contains (x ∷ xs) z × (f z ≡ y)
    by_place zero lt e rest = (x, (0, omega arith, refl), e)
    by_place (suc k) lt e rest = let w = rest (k, omega (arith, lt), e) in (w.0, (suc w.1.0, omega (arith, w.1.1), w.1.2), w.2)

-- the placements of the pairs at a cell
module _ (p : Task) (q : Prefix) (cell : ℕ) where
  abbrev pub placements_of : List Pair → List Placement
  placements_of xs = map (λ (x : Pair). x.placement) xs

  pub cell_listing : (xs : List Pair) → AreFitting p q (Cell cell) xs → IsListing (ByKey tile_turn) (Fits p q cell) (placements_of xs)
  cell_listing xs h = record {
    only = λ x c.
        let at = contains_mapped (λ (y : Pair). y.placement) xs x c in
        let fits = h.only at.0 at.1 in
        subst (Fits p q cell) at.2 (subst (λ k. Fits p q k at.0.placement) fits.0 fits.1);
    all = λ x fits.
        let pair : Pair = record { cell = cell; placement = x } in
        contains_map (λ (y : Pair). y.placement) xs pair (h.all pair (refl, fits));
    rising = λ i j d lt in_range.
        let e : Pair = record { cell = cell; placement = d } in
        let at_i : get_or (placements_of xs) i d ≡ (get_or xs i e).placement = get_or-map (λ (y : Pair). y.placement) xs i e d (omega (arith, length-map xs (λ (y : Pair). y.placement), lt, in_range)) in
        let at_j : get_or (placements_of xs) j d ≡ (get_or xs j e).placement = get_or-map (λ (y : Pair). y.placement) xs j e d (omega (arith, length-map xs (λ (y : Pair). y.placement), in_range)) in
        subst (λ a. ByKey tile_turn a (get_or (placements_of xs) j d)) (sym at_i) (subst (ByKey tile_turn (get_or xs i e).placement) (sym at_j) (h.rising i j e lt (omega (arith, length-map xs (λ (y : Pair). y.placement), in_range))));
  }

-- a side of a word shows a colour
pub shown_few : (word : List ℕ) (turn side : ℕ) → All (λ colour. colour < MOST_COLOURS) word → side < length word → shown_colour word turn side < MOST_COLOURS
unfolding shown_colour
shown_few word turn side few lt = few ((side + turn) % length word) 0 (mod_below (side + turn) (length word) (omega (arith, lt)))

-- ---- the placements that fit at a cell, by number

-- the placement with the number of a tile and a turn
pub numbered_at : (tile turn : ℕ) → turn < 4 → numbered (4 * tile + turn) ≡ turned_tile tile turn
numbered_at tile turn lt = same_placement (let e : (4 * tile + turn) / 4 ≡ tile = omega arith in e) (let e : (4 * tile + turn) % 4 ≡ turn = omega arith in e)

module _ (p : Task) (q : Prefix) (cell : ℕ) where
  -- what shows on a side what a number says shows what is asked there
  pub as_asked_by : (side asked : ℕ) (numbers : List ℕ) → side < 4 → IsPuzzle p → TellsOf (IsAsked p q cell side) asked → AreShowing p.words asked side numbers → AreAsAsked p q cell side numbers
  unfolding colour_of
  as_asked_by side asked numbers side_in puzzle told shown = record {
    only = λ n c. let w = shown.only n c in (w.0, λ colour other. shows n w.0 w.1 colour other);
    all = λ n h. shown.all n (h.0, λ some. has n h.0 h.1 some);
    rising = shown.rising;
  }
    where
      asked_in : (tile : ℕ) → tile < length p.words → (colour : ℕ) → IsAsked p q cell side colour → side < length (get_or p.words tile [])
      asked_in tile lt colour other =
          let long = puzzle.sides tile lt in
          ⊎_elim (λ rule. let within = rule.side_in in omega (arith, long, within)) (λ w. let within = side_in_range w.3 in omega (arith, long, within)) other

      -- nothing shows a number past the colours
      shows : (n : ℕ) → n / 4 < length p.words → (asked ≢ MOST_COLOURS → Shows (get_or p.words (n / 4) []) asked side (n % 4)) → (colour : ℕ) → IsAsked p q cell side colour → shown_colour (get_or p.words (n / 4) []) (n % 4) side ≡ colour
      shows n tile_in is colour other =
          ⊎_elim
          (λ none. absurd (none.1 colour other))
          (λ some.
          ⊎_elim
          (λ one. let few = one.0 in (is (λ any. omega (arith, few, any))).1 ∙ one.2 colour other)
          (λ two.
          let past = two.0 in
          let there = is (λ any. omega (arith, past, any)) in
          let same = there.1 in
          let few = shown_few (get_or p.words (n / 4) []) (n % 4) side (puzzle.tile_colours (n / 4) tile_in) there.0 in
          absurd (omega (arith, past, same, few)))
          some)
          told

      has : (n : ℕ) → n / 4 < length p.words → ((colour : ℕ) → IsAsked p q cell side colour → shown_colour (get_or p.words (n / 4) []) (n % 4) side ≡ colour) → asked ≢ MOST_COLOURS → Shows (get_or p.words (n / 4) []) asked side (n % 4)
      has n tile_in is other =
          ⊎_elim
          (λ none. absurd (other none.0))
          (λ some. ⊎_elim (λ one. (asked_in (n / 4) tile_in asked one.1, is asked one.1)) (λ two. absurd (two.5 (sym (is two.1 two.3) ∙ is two.2 two.4))) some)
          told

  module _ (free first second third fourth : List ℕ) (are_free : AreFreeNumbers p q free) (as_first : AreAsAsked p q cell 0 first) (as_second : AreAsAsked p q cell 1 second) (as_third : AreAsAsked p q cell 2 third) (as_fourth : AreAsAsked p q cell 3 fourth) (empty : IsFree q cell) where
    -- a number that is in all sets is that of a placement that fits
    pub in_all_fits : (n : ℕ) → Contains free n × Contains first n × Contains second n × Contains third n × Contains fourth n → Fits p q cell (numbered n)
    in_all_fits n h =
        let w = are_free.only n h.0 in
        fits_shown p q cell (numbered n) empty w.1 w.0
        (each_of_four (ShowsAsked p q cell (numbered n)) (as_first.only n h.1).1 (as_second.only n h.2).1 (as_third.only n h.3).1 (as_fourth.only n h.4).1)

    pub fits_in_all : (n : ℕ) → Fits p q cell (numbered n) → Contains free n × Contains first n × Contains second n × Contains third n × Contains fourth n
    fits_in_all n fits =
        let tile_in = fits.legal.tile in
        let shows = shown_fits p q cell (numbered n) fits in
        (are_free.all n (fits.legal, fits.unused), as_first.all n (tile_in, shows 0), as_second.all n (tile_in, shows 1), as_third.all n (tile_in, shows 2), as_fourth.all n (tile_in, shows 3))

    pub fitting_common : (common : List ℕ) → IsListing ◌<◌ (λ n. Contains free n × Contains first n × Contains second n × Contains third n × Contains fourth n) common → IsListing ◌<◌ (λ n. Fits p q cell (numbered n)) common
    fitting_common common both = record {
      only = λ n c. in_all_fits n (both.only n c);
      all = λ n fits. both.all n (fits_in_all n fits);
      rising = both.rising;
    }

    -- the turns after which a tile fits
    pub turns_common : (tile turns : ℕ) → ((n : ℕ) → n < 4 → (bit_at turns n ≡ 1) ↔ (Contains free (4 * tile + n) × Contains first (4 * tile + n) × Contains second (4 * tile + n) × Contains third (4 * tile + n) × Contains fourth (4 * tile + n))) →
        (turn : ℕ) → turn < 4 → (bit_at turns turn ≡ 1 → Fits p q cell (turned_tile tile turn)) × (Fits p q cell (turned_tile tile turn) → bit_at turns turn ≡ 1)
    turns_common tile turns is turn lt = (
      λ one. subst (Fits p q cell) (numbered_at tile turn lt) (in_all_fits (4 * tile + turn) ((is turn lt).0 one)),
      λ fits. (is turn lt).1 (fits_in_all (4 * tile + turn) (subst (Fits p q cell) (sym (numbered_at tile turn lt)) fits)),
    )

  -- nothing fits where something stands
  pub fitting_taken : (y : Placement) → Has q cell y → IsListing ◌<◌ (λ n. Fits p q cell (numbered n)) []
  fitting_taken y has = record {
    only = λ n c. absurd (omega (arith, c.1));
    all = λ n fits. absurd (taken_fits_not p q cell y (numbered n) has fits);
    rising = λ i j d lt in_range. absurd (omega (arith, in_range));
  }

-- ---- the pairs of an item, by number

number_rises : (m n : ℕ) → m < n → ComesBefore (m / 4, m % 4) (n / 4, n % 4)
number_rises m n lt = ⊎_elim (λ e. inr (e.1, let same = e.1 in omega (arith, lt, same))) (λ ne. let other = ne.1 in inl (omega (arith, lt, other))) (eqb_tells (m / 4) (n / 4))

pair_rises : (item : Item) (m n : ℕ) → m < n → ByKey (item_key item) (numbered_pair item m) (numbered_pair item n)
pair_rises (Cell cell) m n lt = number_rises m n lt
pair_rises (Tile tile) m n lt = number_rises m n lt

-- the pairs with rising numbers, if these are the numbers of the pairs that fit
pub fitting_numbered : (p : Task) (q : Prefix) (item : Item) (numbers : List ℕ) → ((n : ℕ) → Contains numbers n → FitsItem p q item (numbered_pair item n)) → ((x : Pair) → FitsItem p q item x → (n : ℕ) × Contains numbers n × (numbered_pair item n ≡ x)) →
    ((i j d : ℕ) → i < j → j < length numbers → get_or numbers i d < get_or numbers j d) → AreFitting p q item (map (numbered_pair item) numbers)
fitting_numbered p q item numbers only all rising = record {
  only = λ x c. let m = contains_mapped (numbered_pair item) numbers x c in subst (FitsItem p q item) m.2 (only m.0 m.1);
  all = λ x fits. let m = all x fits in subst (Contains (map (numbered_pair item) numbers)) m.2 (contains_map (numbered_pair item) numbers m.0 m.1);
  rising = λ i j d lt in_range.
      let long = length-map numbers (numbered_pair item) in
      let at_i = get_or-map (numbered_pair item) numbers i 0 d (omega (arith, long, lt, in_range)) in
      let at_j = get_or-map (numbered_pair item) numbers j 0 d (omega (arith, long, in_range)) in
      subst (λ a. ByKey (item_key item) a (get_or (map (numbered_pair item) numbers) j d)) (sym at_i)
      (subst (ByKey (item_key item) (numbered_pair item (get_or numbers i 0))) (sym at_j) (pair_rises item (get_or numbers i 0) (get_or numbers j 0) (rising i j 0 lt (omega (arith, long, in_range)))));
}

pub fitting_at_cell : (p : Task) (q : Prefix) (cell : ℕ) (numbers : List ℕ) → IsPuzzle p → IsListing ◌<◌ (λ n. Fits p q cell (numbered n)) numbers → AreFitting p q (Cell cell) (map (numbered_pair (Cell cell)) numbers)
fitting_at_cell p q cell numbers puzzle is =
    fitting_numbered p q (Cell cell) numbers (λ n c. (refl, is.only n c))
    (λ x fits.
    let lt = small_turn p x.placement puzzle fits.1.legal in
    let at = numbered_at x.placement.tile x.placement.turn lt in
    (4 * x.placement.tile + x.placement.turn, is.all (4 * x.placement.tile + x.placement.turn) (subst (Fits p q cell) (sym at) (subst (λ k. Fits p q k x.placement) fits.0 fits.1)), same_pair (sym fits.0) at))
    is.rising

pub fitting_of_tile : (p : Task) (q : Prefix) (tile : ℕ) (numbers : List ℕ) → IsPuzzle p → IsListing ◌<◌ (λ n. Fits p q (n / 4) (turned_tile tile (n % 4))) numbers → AreFitting p q (Tile tile) (map (numbered_pair (Tile tile)) numbers)
fitting_of_tile p q tile numbers puzzle is =
    fitting_numbered p q (Tile tile) numbers (λ n c. (refl, is.only n c))
    (λ x fits.
    let lt = small_turn p x.placement puzzle fits.1.legal in
    let cell : (4 * x.cell + x.placement.turn) / 4 ≡ x.cell = omega (arith, lt) in
    let turn : (4 * x.cell + x.placement.turn) % 4 ≡ x.placement.turn = omega (arith, lt) in
    let at : turned_tile tile ((4 * x.cell + x.placement.turn) % 4) ≡ x.placement = same_placement (sym fits.0) turn in
    (4 * x.cell + x.placement.turn, is.all (4 * x.cell + x.placement.turn) (subst (λ k. Fits p q k (turned_tile tile ((4 * x.cell + x.placement.turn) % 4))) (sym cell) (subst (Fits p q x.cell) (sym at) fits.1)), same_pair cell at))
    is.rising

-- ---- one placement

-- a placement fits where its turn is among those after which the tile fits
pub fits_by_turn : (p : Task) (q : Prefix) (cell : ℕ) (x : Placement) (turns : ℕ) → (bit_at turns x.turn ≡ 1 → Fits p q cell (turned_tile x.tile x.turn)) × (Fits p q cell (turned_tile x.tile x.turn) → bit_at turns x.turn ≡ 1) →
    IsTrue (eqb (bit_and (turns / 2 ^ x.turn) 1) 1) ↔ Fits p q cell x
fits_by_turn p q cell x turns is =
    let bit = shr_and_one turns x.turn in
    let same : turned_tile x.tile x.turn ≡ x = same_placement refl refl in (
      λ h. subst (Fits p q cell) same (is.0 (sym bit ∙ eqb-true (bit_and (turns / 2 ^ x.turn) 1) 1 h)),
      λ fits. eq-eqb (bit_and (turns / 2 ^ x.turn) 1) 1 (bit ∙ is.1 (subst (Fits p q cell) (sym same) fits)),
    )
