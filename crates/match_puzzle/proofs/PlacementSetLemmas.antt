-- Sets of placements, a group of four for each tile.
use Rattle.std.proofs.Common.{◌≡◌, ◌⊎◌, ◌<◌, ◌≤◌, ◌+◌, ◌-◌, ◌*◌, ◌/◌, ◌%◌, ◌^◌, ℕ, zero, suc, List, [], Bool, true, false, MatchBool, All, Contains, length, get_or, lt-ltb, bit_or, arith, refl, ap, sym, ◌∙◌, subst, inl, inr, ⊎_elim}
use Rattle.match_limits.specs.declared.TheConstants.{MOST_TILES}
use Rattle.std.specs.Int.{bit_at, w8}
use Rattle.std.proofs.lemmas.Bool.Decides.{eqb_tells}
use Rattle.std.proofs.lemmas.Nat.{or_lt, one_shl, pow_below}
use Rattle.std.proofs.lemmas.Nat.Bits.{bit_at_ones, bit_at_ones_above, bit_at_set_same, bit_at_set_other, bit_at_above}
use Rattle.std.proofs.lemmas.Option.{slice_get-get_or}
use Rattle.std.proofs.lemmas.List.{get_or_default, get_or_past}
use borrow.Author.Tests.{ltb-true}
use Rattle.match_limits.specs.Listing.{IsListing}
use Rattle.match_board.specs.Turns.{IsPeriod}
use Rattle.match_board.proofs.TurnsLemmas.{whole_turn}
use Rattle.match_puzzle.specs.Puzzle.{Task, IsPuzzle, IsLegal, colour_of, mate_of}
use Rattle.match_puzzle.specs.Fitting.{turned_tile}
use Rattle.match_puzzle.specs.PlacementSets.{AreLegalNumbers, AreUnturnedLegal, AreColoursAfter, AreShownColours, ShowsColours, AreMatesShown, AsksColours}
use Rattle.match_puzzle.specs.declared.placements.Placement.{Placement}
use Rattle.match_puzzle.specs.Tables.{IsTurnCount, AreTurnCounts}
use Rattle.match_puzzle.proofs.TogetherLemmas.{small_mate}
use Rattle.match_puzzle.proofs.Words.{legal_by_count, some_sides, few_sides}
use Rattle.match_limits.proofs.Listings.{lt_or_le}

-- ---- groups, one after the other

-- one group more
pub one_group_more : (P : ℕ → ℕ → Type 0) (group digits : ℕ) (old new : List ℕ) → IsListing ◌<◌ (λ n. (n / 4 < group) × P (n / 4) (n % 4)) old →
    IsListing ◌<◌ (λ n. Contains old n ⊎ ((n / 4 ≡ group) × (bit_at digits (n % 4) ≡ 1))) new → ((k : ℕ) → k < 4 → (bit_at digits k ≡ 1 → P group k) × (P group k → bit_at digits k ≡ 1)) →
    IsListing ◌<◌ (λ n. (n / 4 < group + 1) × P (n / 4) (n % 4)) new
one_group_more P group digits old new before after is = record {
  only = λ n c.
      ⊎_elim
      (λ o. let m = before.only n o in let lt = m.0 in (omega (arith, lt), m.1))
      (λ h. let e = h.0 in (omega (arith, e), subst (λ g. P g (n % 4)) (sym e) ((is (n % 4) (omega arith)).0 h.1)))
      (after.only n c);
  all = λ n h.
      ⊎_elim
      (λ e. after.all n (inr (e.1, (is (n % 4) (omega arith)).1 (subst (λ g. P g (n % 4)) e.1 h.1))))
      (λ ne. let lt = h.0 in let other = ne.1 in after.all n (inl (before.all n (omega (arith, lt, other), h.1))))
      (eqb_tells (n / 4) group);
  rising = after.rising;
}

-- ---- the digits of a group

-- as many ones as a number up to four
pub first_ones : (count : ℕ) → count ≤ 4 → (1 * 2 ^ count % 256 - 1 ≡ 2 ^ count - 1) × (2 ^ count - 1 < 16)
first_ones zero le = (refl, omega arith)
first_ones (suc zero) le = (refl, omega arith)
first_ones (suc (suc zero)) le = (refl, omega arith)
first_ones (suc (suc (suc zero))) le = (refl, omega arith)
first_ones (suc (suc (suc (suc zero)))) le = (refl, omega arith)
first_ones (suc (suc (suc (suc (suc n))))) le = absurd (omega arith)

pub below_count : (count k : ℕ) → count ≤ 4 → (bit_at (1 * 2 ^ count % 256 - 1) k ≡ 1 → k < count) × (k < count → bit_at (1 * 2 ^ count % 256 - 1) k ≡ 1)
below_count count k le =
    let e = (first_ones count le).0 in (
      λ one. ⊎_elim (λ lt. lt) (λ above. absurd (omega (arith, sym (ap (λ d. bit_at d k) e) ∙ one, bit_at_ones_above count k above))) (lt_or_le k count),
      λ lt. ap (λ d. bit_at d k) e ∙ bit_at_ones count k lt,
    )

-- one digit more
module _ (digits place : ℕ) (few : digits < 2 ^ place) (in_range : place < 4) where
  abbrev pub WithOne : ℕ
  WithOne = bit_or digits (1 * 2 ^ place % 2 ^ 8)

  pub one_more_few : WithOne < 2 ^ (place + 1)
  one_more_few =
      let power = one_shl place 8 (omega arith) in
      let less = pow_below place (place + 1) (omega arith) in
      or_lt (place + 1) digits (1 * 2 ^ place % 2 ^ 8) (omega (arith, few, less)) (omega (arith, power, less))

  pub one_more_here : bit_at WithOne place ≡ 1
  one_more_here = bit_at_set_same w8 digits place (omega arith)

  pub one_more_other : (k : ℕ) → k < place → bit_at WithOne k ≡ bit_at digits k
  one_more_other k lt = bit_at_set_other w8 digits place (omega arith) k (λ e. omega (arith, e, lt))

-- no digit more
pub none_more_few : (digits place : ℕ) → digits < 2 ^ place → digits < 2 ^ (place + 1)
none_more_few digits place few = let less = pow_below place (place + 1) (omega arith) in omega (arith, few, less)

pub none_at_end : (digits place : ℕ) → digits < 2 ^ place → bit_at digits place ≡ 0
none_at_end digits place few = bit_at_above digits place place few (omega arith)

-- ---- what placements show

-- the entry of a placement is what it shows
pub shows_colours : (p : Task) → IsPuzzle p → (table : List (List ℕ)) → AreShownColours p.words table → (x : Placement) → x.tile < length p.words → x.turn < 4 → (colours : List ℕ) → colours ≡ get_or table (4 * x.tile + x.turn) [] → ShowsColours p x colours
unfolding colour_of
shows_colours p puzzle table is x tile_in turn_in colours at side side_in =
    let place = 4 * x.tile + x.turn in
    let long = is.long in
    let tile : place / 4 ≡ x.tile = omega (arith, turn_in) in
    let turn : place % 4 ≡ x.turn = omega (arith, turn_in) in
    let word = get_or p.words x.tile [] in
    let there = is.is place (omega (arith, long, tile_in, turn_in)) in
    let of_tile = subst (λ t. AreColoursAfter (get_or p.words t []) (place % 4) (get_or table place [])) tile there in
    let here = subst (λ cs. AreColoursAfter word x.turn cs) (sym at) (subst (λ r. AreColoursAfter word r (get_or table place [])) turn of_tile) in
    here side (let word_sides = puzzle.sides x.tile tile_in in omega (arith, word_sides, side_in))

-- the entry of a placement is what matches what it shows
pub asks_colours : (p : Task) → IsPuzzle p → (shown asked : List (List ℕ)) → AreShownColours p.words shown → AreMatesShown p.mating.mates shown asked → (x : Placement) → x.tile < length p.words → x.turn < 4 → (colours : List ℕ) → colours ≡ get_or asked (4 * x.tile + x.turn) [] → AsksColours p x colours
asks_colours p puzzle shown asked is are x tile_in turn_in colours at side side_in =
    let place = 4 * x.tile + x.turn in
    let long = is.long in
    let shows = shows_colours p puzzle shown is x tile_in turn_in (get_or shown place []) refl side side_in in
    let mate = are.is place side (omega (arith, long, tile_in, turn_in)) (omega (arith, side_in, few_sides p.board)) in
    let same : get_or colours side 0 ≡ mate_of p (colour_of p x side) = ap (λ cs. get_or cs side 0) at ∙ mate ∙ ap (mate_of p) shows.0 in
    let few = small_mate p puzzle (colour_of p x side) (omega (arith, sym shows.0, shows.1)) in
    (same, omega (arith, same, few))

-- ---- legal placements

module _ (p : Task) (puzzle : IsPuzzle p) (table : List ℕ) (counts : AreTurnCounts p table) where
  count_is : (tile : ℕ) → tile < length p.words → IsTurnCount p tile (get_or table tile 0)
  count_is tile lt = let long = counts.long in counts.is tile (get_or table tile 0) (slice_get-get_or table tile 0 (omega (arith, lt, long)))

  some_turn : (tile : ℕ) → tile < length p.words → 1 ≤ get_or table tile 0
  some_turn tile lt = by_turns p.turns (count_is tile lt)
    where
      by_turns : (b : Bool) → MatchBool b (IsPeriod (get_or p.words tile []) (get_or table tile 0)) (get_or table tile 0 ≡ 1) → 1 ≤ get_or table tile 0
      by_turns true is = is.some
      by_turns false is = omega (arith, is)

  few_turn : (tile : ℕ) → tile < length p.words → get_or table tile 0 ≤ 4
  few_turn tile lt = by_turns p.turns (count_is tile lt)
    where
      by_turns : (b : Bool) → MatchBool b (IsPeriod (get_or p.words tile []) (get_or table tile 0)) (get_or table tile 0 ≡ 1) → get_or table tile 0 ≤ 4
      by_turns true is =
          let word_sides = puzzle.sides tile lt in
          let some = some_sides p.board in
          omega (arith, is.least (length (get_or p.words tile [])) (omega (arith, word_sides, some)) (whole_turn (get_or p.words tile [])), word_sides, few_sides p.board)
      by_turns false is = omega (arith, is)

  pub few_turns : All (λ count. count ≤ 4) table
  few_turns k d lt =
      let long = counts.long in
      let few = few_turn k (omega (arith, lt, long)) in
      subst (λ n. n ≤ 4) (get_or_default table k 0 d lt) few

  pub few_counts : length table ≤ MOST_TILES
  few_counts = let long = counts.long in let few = puzzle.tiles.few in omega (arith, long, few)

  legal_is : (tile turn : ℕ) → tile < length p.words → (turn < get_or table tile 0 → IsLegal p (turned_tile tile turn)) × (IsLegal p (turned_tile tile turn) → turn < get_or table tile 0)
  legal_is tile turn lt =
      let by = legal_by_count p (turned_tile tile turn) (get_or table tile 0) lt (count_is tile lt) in
      (λ less. by.0 (lt-ltb turn (get_or table tile 0) less), λ legal. ltb-true turn (get_or table tile 0) (by.1 legal))

  pub legal_numbers : (numbers : List ℕ) → IsListing ◌<◌ (λ n. n % 4 < get_or table (n / 4) 0) numbers → AreLegalNumbers p numbers
  legal_numbers numbers is = record {
    only = λ n c. let less = is.only n c in (legal_is (n / 4) (n % 4) (in_words n less)).0 less;
    all = λ n legal. is.all n ((legal_is (n / 4) (n % 4) legal.tile).1 legal);
    rising = is.rising;
  }
    where
      in_words : (n : ℕ) → n % 4 < get_or table (n / 4) 0 → n / 4 < length p.words
      in_words n less =
          ⊎_elim
          (λ lt. lt)
          (λ le. let long = counts.long in let none = get_or_past table (n / 4) 0 (omega (arith, le, long)) in absurd (omega (arith, none, less)))
          (lt_or_le (n / 4) (length p.words))

  pub unturned_legal : AreUnturnedLegal p
  unturned_legal tile lt = (legal_is tile 0 lt).0 (some_turn tile lt)
