-- How the counts of fitting pairs change where some go out.
use Rattle.std.proofs.Common.{◌≡◌, ◌≢◌, ◌⊎◌, ◌<◌, ◌≤◌, ◌+◌, ◌*◌, ◌/◌, ◌%◌, eqb, cond, true, false, ℕ, suc, List, [], ◌∷◌, Contains, length, map, get_or, arith, refl, ap, sym, ◌∙◌, subst, inl, inr, ⊎_elim}
use Rattle.std.proofs.lemmas.List.{length-map}
use Rattle.std.proofs.lemmas.Bool.Decides.{eqb_tells}
use Rattle.match_board.specs.Board.{cell_count}
use Rattle.match_limits.specs.Listing.{IsListing, ByKey, ComesBefore}
use Rattle.match_limits.proofs.Listings.{contains_none, listing_rest, by_key_asymmetric, same_listing}
use Rattle.match_puzzle.specs.Puzzle.{Task}
use Rattle.match_puzzle.specs.Prefix.{Prefix, IsFree, IsUnused}
use Rattle.match_puzzle.specs.Fitting.{Settles, IsUnsettled, item_key, numbered_pair}
use Rattle.fit_counts.specs.FitSizes.{AreSizesOf, AreCovered}
use Rattle.match_limits.specs.NumberSets.{count_of_group}
use Rattle.match_puzzle.specs.Fitting.{item_place}
use Rattle.fit_counts.specs.declared.fit_sizes.TheConstants.{STEP}
use Rattle.match_puzzle.specs.declared.items.Item.{Item}
use Rattle.match_puzzle.specs.declared.items.Item.TheVariants.{Cell, Tile}
use Rattle.match_puzzle.specs.declared.placements.Pair.{Pair}
use Rattle.match_limits.proofs.SplitListings.{listing_of_none, listing_as, listing_split, listing_mapped, first_has, first_has_not}
use Rattle.match_limits.proofs.NumberSetLemmas.{rising_asymmetric}
use Rattle.match_limits.proofs.GroupCounts.{one_if, IsRising}

-- ---- numbers of one tile

-- those of the numbers that are of the tile, of which there are as many as the count says
pub numbers_of_tile : (tile : ℕ) (P : ℕ → Type 0) (numbers : List ℕ) → IsListing ◌<◌ P numbers → (those : List ℕ) × IsListing ◌<◌ (λ n. P n × (n / 4 ≡ tile)) those × (length those ≡ count_of_group numbers tile)
numbers_of_tile tile P [] is = ([], listing_of_none ◌<◌ (λ n. P n × (n / 4 ≡ tile)) (λ n h. contains_none n (is.all n h.0)), refl)
numbers_of_tile tile P (first ∷ numbers) is = with_first (eqb_tells (first / 4) tile) (numbers_of_tile tile (λ n. P n × (first < n)) numbers (listing_rest ◌<◌ rising_asymmetric P first numbers is))
  where
    with_first : ((eqb (first / 4) tile ≡ true) × (first / 4 ≡ tile)) ⊎ ((eqb (first / 4) tile ≡ false) × (first / 4 ≢ tile)) → (those : List ℕ) × IsListing ◌<◌ (λ n. (P n × (first < n)) × (n / 4 ≡ tile)) those × (length those ≡ count_of_group numbers tile) →
        (those : List ℕ) × IsListing ◌<◌ (λ n. P n × (n / 4 ≡ tile)) those × (length those ≡ count_of_group (first ∷ numbers) tile)
    with_first (inl e) w = (first ∷ w.0, first_has ◌<◌ rising_asymmetric P first numbers is (λ n. n / 4 ≡ tile) w.0 w.1 e.1, let one = ap one_if e.0 in omega (arith, w.2, one))
    with_first (inr ne) w = (w.0, first_has_not ◌<◌ rising_asymmetric P first numbers is (λ n. n / 4 ≡ tile) w.0 w.1 ne.1, let none = ap one_if ne.0 in omega (arith, w.2, none))

-- numbers that rise are all that are among them
pub listing_of_rising : (numbers : List ℕ) → IsRising numbers → IsListing ◌<◌ (Contains numbers) numbers
listing_of_rising numbers rising = record { only = λ n c. c; all = λ n c. c; rising = λ i j d lt in_range. rising i j d lt in_range }

-- no number is of the tile, or one is
pub some_of_tile : (numbers : List ℕ) (tile : ℕ) → (count_of_group numbers tile ≡ 0) ⊎ ((n : ℕ) × Contains numbers n × (n / 4 ≡ tile))
some_of_tile [] tile = inl refl
some_of_tile (first ∷ numbers) tile = with_first (eqb_tells (first / 4) tile) (some_of_tile numbers tile)
  where
    with_first : ((eqb (first / 4) tile ≡ true) × (first / 4 ≡ tile)) ⊎ ((eqb (first / 4) tile ≡ false) × (first / 4 ≢ tile)) → (count_of_group numbers tile ≡ 0) ⊎ ((n : ℕ) × Contains numbers n × (n / 4 ≡ tile)) →
        (count_of_group (first ∷ numbers) tile ≡ 0) ⊎ ((n : ℕ) × Contains (first ∷ numbers) n × (n / 4 ≡ tile))
    with_first (inl e) rest = inr (first, (0, omega arith, refl), e.1)
    with_first (inr ne) (inl none) = inl (let here = ap one_if ne.0 in omega (arith, here, none))
    with_first (inr ne) (inr w) = inr (w.0, (suc w.1.0, omega (arith, w.1.1), w.1.2), w.2)

-- ---- one item

-- Of the pairs that settle the item some go out, and the others are still among them.
module _ (item : Item) (Among Among' Gone : Pair → Type 0) (before : (y : Pair) → Among' y → Among y) (either : (y : Pair) → Settles item y → Among y → Among' y ⊎ Gone y) (not_both : (y : Pair) → Among' y → Gone y → ⊥) where
  pub fewer_pairs : (xs zs : List Pair) → IsListing (ByKey (item_key item)) (λ y. Settles item y × Among y) xs → IsListing (ByKey (item_key item)) (λ y. (Settles item y × Among y) × Gone y) zs →
      (ys : List Pair) × IsListing (ByKey (item_key item)) (λ y. Settles item y × Among' y) ys × (length ys + length zs ≡ length xs)
  fewer_pairs xs zs is gone =
      let w = listing_split (ByKey (item_key item)) (by_key_asymmetric (item_key item)) (λ y. Settles item y × Among y) Among' Gone xs (λ y h. either y h.0 h.1) not_both is in
      let same = ap length (same_listing (ByKey (item_key item)) (by_key_asymmetric (item_key item)) (λ y. (Settles item y × Among y) × Gone y) w.1 zs w.3 gone) in
      (w.0, listing_as (ByKey (item_key item)) (λ y. (Settles item y × Among y) × Among' y) (λ y. Settles item y × Among' y) w.0 (λ y h. (h.0.0, h.1)) (λ y h. ((h.0, before y h.1), h.1)) w.2, omega (arith, same, w.4))

-- ---- pairs at one cell

-- These pairs at the cell, by number, are among the ones and not among the others, and of what settles an open item all
-- else is among both.
pub record AreGoneAt (p : Task) (q : Prefix) (cell : ℕ) (Among Among' : Pair → Type 0) (gone : List ℕ) : Type 0 where
  pub rising : IsRising gone
  pub among : (n : ℕ) → Contains gone n → Among (numbered_pair (Cell cell) n)
  pub out : (n : ℕ) → Contains gone n → Among' (numbered_pair (Cell cell) n) → ⊥
  pub before : (y : Pair) → Among' y → Among y
  pub either : (item : Item) (y : Pair) → IsUnsettled p q item → Settles item y → Among y → Among' y ⊎ ((n : ℕ) × Contains gone n × (numbered_pair (Cell cell) n ≡ y))

-- how many of them settle the item
abbrev pub count_at : (cell : ℕ) (gone : List ℕ) → Item → ℕ
count_at cell gone (Cell other) = cond (eqb other cell) (length gone) 0
count_at cell gone (Tile tile) = count_of_group gone tile

module _ (p : Task) (q : Prefix) (cell : ℕ) (Among Among' : Pair → Type 0) (gone : List ℕ) (are : AreGoneAt p q cell Among Among' gone) where
  abbrev pub IsGone : Pair → Type 0
  IsGone y = (n : ℕ) × Contains gone n × (numbered_pair (Cell cell) n ≡ y)

  -- those that settle an item, in its order
  gone_of_cell : (other : ℕ) → (zs : List Pair) × IsListing (ByKey (item_key (Cell other))) (λ y. (Settles (Cell other) y × Among y) × IsGone y) zs × (length zs ≡ count_at cell gone (Cell other))
  gone_of_cell other =
      ⊎_elim
      (λ e. (
        map (numbered_pair (Cell cell)) gone,
        listing_mapped (ByKey (item_key (Cell other))) (numbered_pair (Cell cell)) (Contains gone) (λ y. (Settles (Cell other) y × Among y) × IsGone y) gone
            (λ m n a b lt. rises m n lt)
            (λ n c. ((sym e.1, are.among n c), (n, c, refl)))
            (λ y h. h.1)
            (listing_of_rising gone are.rising),
        length-map gone (numbered_pair (Cell cell)) ∙ sym (ap (λ b. cond b (length gone) 0) e.0),
      ))
      (λ ne. (
        [],
        listing_of_none (ByKey (item_key (Cell other))) (λ y. (Settles (Cell other) y × Among y) × IsGone y) (λ y h. ne.1 (sym (ap (λ (z : Pair). z.cell) h.1.2 ∙ h.0.0))),
        sym (ap (λ b. cond b (length gone) 0) ne.0),
      ))
      (eqb_tells other cell)
    where
      rises : (m n : ℕ) → m < n → ComesBefore (m / 4, m % 4) (n / 4, n % 4)
      rises m n lt = ⊎_elim (λ same. inr (same.1, let tile = same.1 in omega (arith, lt, tile))) (λ other. inl (let tile = other.1 in omega (arith, lt, tile))) (eqb_tells (m / 4) (n / 4))

  gone_of_tile : (tile : ℕ) → (zs : List Pair) × IsListing (ByKey (item_key (Tile tile))) (λ y. (Settles (Tile tile) y × Among y) × IsGone y) zs × (length zs ≡ count_at cell gone (Tile tile))
  gone_of_tile tile =
      let those = numbers_of_tile tile (Contains gone) gone (listing_of_rising gone are.rising) in (
        map (numbered_pair (Cell cell)) those.0,
        listing_mapped (ByKey (item_key (Tile tile))) (numbered_pair (Cell cell)) (λ n. Contains gone n × (n / 4 ≡ tile)) (λ y. (Settles (Tile tile) y × Among y) × IsGone y) those.0
            (λ m n a b lt. inr (refl, let left = a.1 in let right = b.1 in omega (arith, left, right, lt)))
            (λ n h. ((h.1, are.among n h.0), (n, h.0, refl)))
            (λ y h. (h.1.0, (h.1.1, ap (λ (z : Pair). z.placement.tile) h.1.2 ∙ h.0.0), h.1.2))
            those.1,
        length-map those.0 (numbered_pair (Cell cell)) ∙ those.2,
      )

  gone_of : (item : Item) → (zs : List Pair) × IsListing (ByKey (item_key item)) (λ y. (Settles item y × Among y) × IsGone y) zs × (length zs ≡ count_at cell gone item)
  gone_of (Cell other) = gone_of_cell other
  gone_of (Tile tile) = gone_of_tile tile

  -- the pairs that are still among them
  fewer_at : (item : Item) → IsUnsettled p q item → (xs : List Pair) → IsListing (ByKey (item_key item)) (λ y. Settles item y × Among y) xs →
      (ys : List Pair) × IsListing (ByKey (item_key item)) (λ y. Settles item y × Among' y) ys × (length ys + count_at cell gone item ≡ length xs)
  fewer_at item is_open xs is =
      let zs = gone_of item in
      let w = fewer_pairs item Among Among' IsGone are.before (λ y settles among. are.either item y is_open settles among) (λ y among' h. are.out h.0 h.1 (subst Among' (sym h.2) among')) xs zs.0 is zs.1 in
      (w.0, w.1, omega (arith, w.2, zs.2))

  module _ (old : List ℕ) (sizes : AreSizesOf p q Among old) where
    -- There is enough to lower at an open item.
    enough_at : (item : Item) → IsUnsettled p q item → STEP * count_at cell gone item ≤ get_or old (item_place (cell_count p.board) item) 0
    enough_at item is_open =
        let size = sizes.counts item is_open in
        let w = fewer_at item is_open size.0 size.1 in
        omega (arith, w.2, size.2)

    pub enough_at_cell : ((n : ℕ) → Contains gone n → IsFree q cell) → STEP * length gone ≤ get_or old cell 0
    enough_at_cell free = none_or_some gone refl
      where
        none_or_some : (numbers : List ℕ) → numbers ≡ gone → STEP * length gone ≤ get_or old cell 0
        none_or_some [] e = let none = ap length e in omega (arith, none)
        none_or_some (n ∷ numbers) e =
            let enough = enough_at (Cell cell) (free n (subst (λ ns. Contains ns n) e (0, omega arith, refl))) in
            let all : cond (eqb cell cell) (length gone) 0 ≡ length gone = ⊎_elim (λ same. ap (λ b. cond b (length gone) 0) same.0) (λ ne. absurd (ne.1 refl)) (eqb_tells cell cell) in
            omega (arith, enough, all)

    pub enough_at_tile : ((n : ℕ) → Contains gone n → IsUnsettled p q (Tile (n / 4))) → (tile : ℕ) → STEP * count_of_group gone tile ≤ get_or old (cell_count p.board + tile) 0
    enough_at_tile is_open tile =
        ⊎_elim (λ none. omega (arith, none)) (λ w. enough_at (Tile tile) (subst (λ t. IsUnsettled p q (Tile t)) w.2 (is_open w.0 w.1))) (some_of_tile gone tile)

    -- the table where they are counted no more
    pub sizes_without : (new : List ℕ) → length new ≡ length old → (IsFree q cell → get_or new cell 0 + STEP * length gone ≡ get_or old cell 0) →
        ((other : ℕ) → other ≢ cell → IsFree q other → get_or new other 0 ≡ get_or old other 0) →
        ((tile : ℕ) → tile < length p.words → IsUnused q tile → get_or new (cell_count p.board + tile) 0 + STEP * count_of_group gone tile ≡ get_or old (cell_count p.board + tile) 0) → AreSizesOf p q Among' new
    sizes_without new long at_cell other_cells at_tiles = record { long = long ∙ sizes.long; counts = counts }
      where
        lowered : (item : Item) → IsUnsettled p q item → get_or new (item_place (cell_count p.board) item) 0 + STEP * count_at cell gone item ≡ get_or old (item_place (cell_count p.board) item) 0
        lowered (Cell other) free =
            ⊎_elim
            (λ e.
            let here = at_cell (subst (IsFree q) e.1 free) in
            let there : get_or new other 0 + STEP * length gone ≡ get_or old other 0 = subst (λ c. get_or new c 0 + STEP * length gone ≡ get_or old c 0) (sym e.1) here in
            ap (λ b. get_or new other 0 + STEP * cond b (length gone) 0) e.0 ∙ there)
            (λ ne. ap (λ b. get_or new other 0 + STEP * cond b (length gone) 0) ne.0 ∙ (let same = other_cells other ne.1 free in omega (arith, same)))
            (eqb_tells other cell)
        lowered (Tile tile) is_open = at_tiles tile is_open.0 is_open.1

        counts : (item : Item) → IsUnsettled p q item → (xs : List Pair) × IsListing (ByKey (item_key item)) (λ y. Settles item y × Among' y) xs × (get_or new (item_place (cell_count p.board) item) 0 ≡ STEP * length xs + item_place (cell_count p.board) item)
        counts item is_open =
            let size = sizes.counts item is_open in
            let w = fewer_at item is_open size.0 size.1 in
            let less = lowered item is_open in
            (w.0, w.1, omega (arith, w.2, size.2, less))

-- ---- settled items

-- Their entries are kept where the pairs that go out are of open ones.
pub covered_without : (p : Task) (q : Prefix) (gone old new : List ℕ) → AreCovered p q old → ((n : ℕ) → Contains gone n → IsUnused q (n / 4)) → ((cell : ℕ) → cell < cell_count p.board → (IsFree q cell → ⊥) → get_or new cell 0 ≡ get_or old cell 0) →
    ((tile : ℕ) → tile < length p.words → get_or new (cell_count p.board + tile) 0 + STEP * count_of_group gone tile ≡ get_or old (cell_count p.board + tile) 0) → AreCovered p q new
covered_without p q gone old new covered unused cells tiles (Cell cell) within settled = cells cell within settled ∙ covered (Cell cell) within settled
covered_without p q gone old new covered unused cells tiles (Tile tile) within settled =
    let less = tiles tile within in
    let was = covered (Tile tile) within settled in
    ⊎_elim (λ none. omega (arith, none, less, was)) (λ w. absurd (settled (within, subst (IsUnused q) w.2 (unused w.0 w.1)))) (some_of_tile gone tile)
