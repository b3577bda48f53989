-- What a table of counts says of its items.
use Rattle.std.proofs.Common.{◌≡◌, ◌≢◌, ◌⊎◌, ◌<◌, ◌≤◌, ◌+◌, ◌*◌, ◌/◌, ◌%◌, ℕ, List, None, length, get_or, arith, refl, ap, sym, ◌∙◌, subst, inl, inr, ⊎_elim}
use Rattle.std.proofs.lemmas.List.{get_or-take, length-take}
use Rattle.std.proofs.lemmas.Option.{slice_get_within}
use Rattle.match_board.specs.Board.{cell_count}
use Rattle.match_limits.specs.Listing.{ByKey}
use Rattle.match_limits.proofs.Listings.{lt_or_le, same_listing, by_key_asymmetric}
use Rattle.match_puzzle.specs.Puzzle.{Task, IsPuzzle}
use Rattle.match_puzzle.specs.Prefix.{Prefix, Has, IsFree, IsPrefix}
use Rattle.match_puzzle.specs.declared.placements.Placement.{Placement}
use Rattle.match_puzzle.specs.Fitting.{FitsItem, AreFitting, HasToBeSettled, IsItem, IsOpen, IsUnsettled, IsNumberOf, HasFewestFitting, item_key}
use Rattle.fit_counts.specs.Placing.{Placing, FitInTurn, placed_by}
use Rattle.fit_counts.specs.FitSizes.{AreSizes, AreToSettle, AreKeptBeside}
use Rattle.match_puzzle.specs.Fitting.{item_place}
use Rattle.fit_counts.specs.declared.fit_sizes.TheConstants.{COVERED}
use Rattle.match_puzzle.specs.declared.items.Item.{Item}
use Rattle.match_puzzle.specs.declared.items.Item.TheVariants.{Cell, Tile}
use Rattle.match_puzzle.specs.declared.placements.Pair.{Pair}
use Rattle.fit_counts.proofs.ItemLemmas.{item_of, place_is, one_item, not_after}
use Rattle.match_puzzle.proofs.Prefixes.{free_or_has}
use Rattle.match_puzzle.proofs.UsedTiles.{used_or_unused, not_both}

taken_free : (q : Prefix) (cell : ℕ) (x : Placement) → Has q cell x → IsFree q cell → ⊥
taken_free q cell x has free = cc

-- an item is open where it isn't settled and has to be
pub open_parts : (p : Task) (q : Prefix) (item : Item) → IsOpen p q item → IsUnsettled p q item × HasToBeSettled p item
open_parts p q (Cell cell) free = (free, tt)
open_parts p q (Tile tile) h = ((h.0, h.1), h.2)

pub open_by : (p : Task) (q : Prefix) (item : Item) → IsUnsettled p q item → HasToBeSettled p item → IsOpen p q item
open_by p q (Cell cell) free has = free
open_by p q (Tile tile) h has = (h.0, h.1, has)

module _ (p : Task) (q : Prefix) (puzzle : IsPuzzle p) (prefix : IsPrefix p q) where
  abbrev Cells : ℕ
  Cells = cell_count p.board

  -- an item is open or settled
  pub open_or_settled : (item : Item) → IsItem p item → IsUnsettled p q item ⊎ (IsUnsettled p q item → ⊥)
  open_or_settled (Cell cell) lt =
      let cells = prefix.cells in
      ⊎_elim (λ free. inl free) (λ w. inr (λ free. taken_free q cell w.0 w.1 free)) (free_or_has q cell (omega (arith, lt, cells)))
  open_or_settled (Tile tile) lt = ⊎_elim (λ used. inr (λ h. not_both q tile used h.1)) (λ unused. inl (lt, unused)) (used_or_unused q tile)

  -- an open item is one of the puzzle
  pub open_is_item : (item : Item) → IsUnsettled p q item → IsItem p item
  open_is_item (Cell cell) free = let cells = prefix.cells in omega (arith, slice_get_within q cell None free, cells)
  open_is_item (Tile tile) h = h.0

  -- its place in a table
  pub place_in : (item : Item) → IsItem p item → (item_place Cells item < Cells + length p.words) × (item_place Cells item < 1023) × IsNumberOf Cells (item_place Cells item) item
  place_in (Cell cell) lt = let most = puzzle.board.most in (omega (arith, lt), omega (arith, lt, most), (refl, lt))
  place_in (Tile tile) lt = let most = puzzle.board.most in let few = puzzle.tiles.few in (omega (arith, lt), omega (arith, lt, most, few), refl)

  -- the item at a place
  pub item_in : (place : ℕ) → place < Cells + length p.words → (item : Item) × (item_place Cells item ≡ place) × IsItem p item × IsNumberOf Cells place item
  item_in place lt =
      let w = item_of Cells place in
      (w.0, place_is Cells place w.0 w.1, within w.0 w.1, w.1)
    where
      within : (item : Item) → IsNumberOf Cells place item → IsItem p item
      within (Cell cell) is = is.1
      within (Tile tile) is = omega (arith, is, lt)

  module _ (sizes : List ℕ) (are : AreSizes p q sizes) where
    pub place_within : (item : Item) → IsItem p item → (place : ℕ) → place ≡ item_place Cells item → place < length sizes
    place_within item is place e =
        let long = are.open_items.long in
        let within = (place_in item is).0 in
        omega (arith, long, within, e)

    -- the entry of an open item
    pub open_entry : (item : Item) → IsUnsettled p q item → (xs : List Pair) × AreFitting p q item xs × (get_or sizes (item_place Cells item) 0 ≡ 1024 * length xs + item_place Cells item)
    open_entry item is_open = are.open_items.counts item is_open

    pub not_covered : (item : Item) → IsUnsettled p q item → get_or sizes (item_place Cells item) 0 ≢ COVERED
    not_covered item is_open e =
        let w = open_entry item is_open in
        let at = w.2 in
        let few = (place_in item (open_is_item item is_open)).1 in
        omega (arith, at, few, e)

    -- an entry that isn't that of a settled item is that of an open one
    pub is_open_entry : (item : Item) → IsItem p item → get_or sizes (item_place Cells item) 0 ≢ COVERED → IsUnsettled p q item
    is_open_entry item is ne = ⊎_elim (λ h. h) (λ settled. absurd (ne (are.settled item is settled))) (open_or_settled item is)

    pub count_of_entry : (item : Item) → IsUnsettled p q item → (xs : List Pair) × AreFitting p q item xs × (length xs ≡ get_or sizes (item_place Cells item) 0 / 1024)
    count_of_entry item is_open =
        let w = open_entry item is_open in
        let at = w.2 in
        let few = (place_in item (open_is_item item is_open)).1 in
        (w.0, w.1, omega (arith, at, few))

    -- among the entries that are looked at are those of all open items, and of no others that aren't settled
    module _ (seen : List ℕ) (sees : AreToSettle p sizes seen) where
      seen_entry : (item : Item) → IsItem p item → HasToBeSettled p item → (item_place Cells item < length seen) × (get_or seen (item_place Cells item) 0 ≡ get_or sizes (item_place Cells item) 0)
      seen_entry (Cell cell) lt has =
          let long = are.open_items.long in
          ⊎_elim
          (λ all. let same = ap length all.1 in (omega (arith, same, long, lt), ap (λ xs. get_or xs cell 0) all.1))
          (λ some.
          let same = ap length some.1 ∙ length-take Cells sizes in
          (omega (arith, same, long, lt), ap (λ xs. get_or xs cell 0) some.1 ∙ get_or-take Cells sizes cell 0 lt))
          sees
      seen_entry (Tile tile) lt has =
          let long = are.open_items.long in
          ⊎_elim
          (λ all. let same = ap length all.1 in (omega (arith, same, long, lt), ap (λ xs. get_or xs (Cells + tile) 0) all.1))
          (λ some. absurd (some.0 has))
          sees

      -- an item whose entry is looked at has to be settled
      seen_has : (item : Item) → IsItem p item → item_place Cells item < length seen → HasToBeSettled p item
      seen_has (Cell cell) lt within = tt
      seen_has (Tile tile) lt within =
          ⊎_elim (λ all. all.0) (λ some. let same = ap length some.1 ∙ length-take Cells sizes in absurd (omega (arith, same, within))) sees

      seen_below : (place : ℕ) → place < length seen → place < Cells + length p.words
      seen_below place lt =
          let long = are.open_items.long in
          ⊎_elim
          (λ all. let same = ap length all.1 in omega (arith, same, long, lt))
          (λ some. let same = ap length some.1 ∙ length-take Cells sizes in omega (arith, same, long, lt))
          sees

      -- no entry that is looked at is less than the least
      module _ (least : ℕ) (most : (place : ℕ) → place < length seen → least ≤ get_or seen place 0) where
        pub none_open : least ≡ COVERED → ((place : ℕ) → place < length seen → get_or seen place 0 ≤ COVERED) → (item : Item) → IsOpen p q item → ⊥
        none_open e below item is_open =
            let parts = open_parts p q item is_open in
            let there = seen_entry item (open_is_item item parts.0) parts.1 in
            let le = most (item_place Cells item) there.0 in
            let ge = below (item_place Cells item) there.0 in
            let at = there.1 in
            not_covered item parts.0 (omega (arith, le, ge, e, at))

        pub fewest_at : (place : ℕ) → place < length seen → get_or seen place 0 ≡ least → least ≢ COVERED → (item : Item) → IsNumberOf Cells (least % 1024) item → HasFewestFitting p q item
        fewest_at place lt at ne item is =
            let w = item_in place (seen_below place lt) in
            let has = seen_has w.0 w.2 (subst (λ k. k < length seen) (sym w.1) lt) in
            let entry_is : get_or sizes (item_place Cells w.0) 0 ≡ least = sym (seen_entry w.0 w.2 has).1 ∙ ap (λ k. get_or seen k 0) w.1 ∙ at in
            let here : IsUnsettled p q w.0 = is_open_entry w.0 w.2 (λ e. ne (sym entry_is ∙ e)) in
            let entry = open_entry w.0 here in
            let few = (place_in w.0 w.2).1 in
            let value : least ≡ 1024 * length entry.0 + item_place Cells w.0 = sym entry_is ∙ entry.2 in
            let same_place : least % 1024 ≡ place = (let e : least % 1024 ≡ item_place Cells w.0 = omega (arith, value, few) in e) ∙ w.1 in
            let same : w.0 ≡ item = one_item Cells place w.0 item w.3 (subst (λ n. IsNumberOf Cells n item) same_place is) in
            subst (HasFewestFitting p q) same (fewest w.0 w.2 (open_by p q w.0 here has) entry value)
          where
            fewest : (first : Item) → IsItem p first → (is_open : IsOpen p q first) → (entry : (xs : List Pair) × AreFitting p q first xs × (get_or sizes (item_place Cells first) 0 ≡ 1024 * length xs + item_place Cells first)) → least ≡ 1024 * length entry.0 + item_place Cells first → HasFewestFitting p q first
            fewest first is_first is_open entry value = record {
              is_open = is_open;
              fewest = λ other xs ys other_open xs_are ys_are.
                  let parts = open_parts p q other other_open in
                  let is_other = open_is_item other parts.0 in
                  let there = open_entry other parts.0 in
                  let seen_there = seen_entry other is_other parts.1 in
                  let read = seen_there.1 in
                  let le = most (item_place Cells other) seen_there.0 in
                  let few = (place_in first is_first).1 in
                  let few' = (place_in other is_other).1 in
                  let at_other = there.2 in
                  let many : length xs ≡ length entry.0 = ap length (same_listing (ByKey (item_key first)) (by_key_asymmetric (item_key first)) (FitsItem p q first) xs entry.0 xs_are entry.1) in
                  let many' : length ys ≡ length there.0 = ap length (same_listing (ByKey (item_key other)) (by_key_asymmetric (item_key other)) (FitsItem p q other) ys there.0 ys_are there.1) in
                  ⊎_elim
                  (λ less. inl less)
                  (λ ge.
                  let same : length xs ≡ length ys = omega (arith, ge, le, read, value, at_other, many, many', few, few') in
                  inr (same, not_after Cells (item_place Cells first) (item_place Cells other) first other (place_in first is_first).2 (place_in other is_other).2 (omega (arith, same, le, read, value, at_other, many, many'))))
                  (lt_or_le (length xs) (length ys));
            }

-- the pairs of a puzzle
abbrev pub placing_of : Task → List Pair → Placing
placing_of p pairs = record { puzzle = p; pairs = pairs }

-- what is kept, said of what contracts see
module _ (p : Task) (pairs : List Pair) (q : Prefix) (rows : List (List ℕ)) (sizes saved : List ℕ) (kept : AreKeptBeside p pairs q rows sizes saved) (s : Placing) (same : placing_of p pairs ≡ s) where
  pub kept_sizes : AreSizes s.puzzle (placed_by s) sizes
  kept_sizes = subst (λ v. AreSizes v.puzzle (placed_by v) sizes) same (subst (λ r. AreSizes p r sizes) kept.placed kept.sizes)

  pub kept_fit : FitInTurn s.puzzle s.pairs
  kept_fit = subst (λ v. FitInTurn v.puzzle v.pairs) same kept.fit

  pub kept_puzzle : IsPuzzle s.puzzle
  kept_puzzle = subst (λ v. IsPuzzle v.puzzle) same kept.puzzle

  pub kept_prefix : IsPrefix p q → IsPrefix s.puzzle (placed_by s)
  kept_prefix is = subst (λ v. IsPrefix v.puzzle (placed_by v)) same (subst (IsPrefix p) kept.placed is)
