-- Solutions and arrangements made of each other, option after option.
use Rattle.std.proofs.Common.{Contains, ◌&&◌, true, false, eqb, eq-eqb, ◌≡◌, ◌≢◌, ◌⊎◌, ◌<◌, ◌≤◌, ◌+◌, ℕ, List, [], ◌∷◌, ◌++◌, Some, length, length-set, set, slice_get, replicate, arith, refl, ap, sym, ◌∙◌, subst, inl, inr, ⊎_elim, zero, suc, take}
use Rattle.std.proofs.lemmas.List.{length-replicate, length-take-le}
use Rattle.match_puzzle.proofs.PairLemmas.{taken_at}
use Rattle.std.proofs.lemmas.Option.{slice_get_within}
use Rattle.std.specs.Cmp.{first_so, second_so}
use Rattle.std.proofs.lemmas.Bool.{eqb-true, false≢true}
use Rattle.std.proofs.lemmas.Bool.Decides.{eqb_tells}
use Rattle.match_board.specs.Board.{cell_count}
use Rattle.match_limits.specs.Listing.{IsListing}
use Rattle.match_limits.proofs.Listings.{same_listing}
use Rattle.match_puzzle.specs.Arrangement.{IsArrangement, Stands}
use Rattle.match_puzzle.specs.declared.placements.Placement.{Placement}
use Rattle.match_puzzle.specs.declared.placements.Pair.{Pair}
use Rattle.match_puzzle.specs.Equality.{is_same}
use Rattle.match_puzzle.proofs.FittingLemmas.{same_placement}
use Rattle.match_puzzle.proofs.Prefixes.{inside, slice_get-set_same, slice_get-set_other, slice_get-replicate}
use Rattle.xcc_form.specs.ExactCover.{IsSolution}
use Rattle.xcc_form.specs.Options.{Compiled, IsCompiled, cover_of}
use Rattle.xcc_form.specs.Correspondence.{IsPairOf, IsFilledBy, IsSolutionOf}
use Rattle.xcc_form.proofs.ListingMore.{listing_same, listing_append, listing_one, listing_nothing}
use Rattle.xcc_form.proofs.OptionLemmas.{option_pair, one_pair, real_option, pair_at, many_options, contains_at, place_of}
use Rattle.xcc_form.proofs.SolutionLemmas.{pair, stands_one, chosen_at, one_chosen_at, solution_stands, whole_solves}
use Rattle.xcc_form.proofs.WholeLemmas.{StandsIn, AreFound, solution_of_arrangement}

-- ---- the front of a list

pub slice_get-take : {X : Type 0} (n : ℕ) (xs : List X) (i : ℕ) → i < n → slice_get (take n xs) i ≡ slice_get xs i
slice_get-take zero xs i lt = absurd (omega (arith, lt))
slice_get-take (suc n) [] i lt = refl
slice_get-take (suc n) (x ∷ xs) zero lt = refl
slice_get-take (suc n) (x ∷ xs) (suc i) lt = slice_get-take n xs i (omega (arith, lt))

-- ---- placements are compared

pub is_that : (y z : Placement) → is_same y z ≡ true → y ≡ z
is_that y z same =
    same_placement (eqb-true y.tile z.tile (first_so (eqb y.tile z.tile) (eqb y.turn z.turn) same)) (eqb-true y.turn z.turn (second_so (eqb y.tile z.tile) (eqb y.turn z.turn) same))

pub is_other : (y z : Placement) → is_same y z ≡ false → y ≢ z
is_other y z other e = false≢true (sym other ∙ subst (λ q. is_same y q ≡ true) e (ap (λ b. b && eqb y.turn y.turn) (eq-eqb y.tile y.tile refl) ∙ eq-eqb y.turn y.turn refl))

-- ---- the options of an arrangement

-- The option is one of the first, and its pair stands there.
pub record IsTaken (x : Compiled) (a : List Placement) (k option : ℕ) : Type 0 where
  pub below : option < k
  pub pair_there : Pair
  pub is_pair : IsPairOf x option pair_there
  pub stands : Stands a pair_there.cell pair_there.placement

module _ (x : Compiled) (is : IsCompiled x) (a : List Placement) where
  pub none_taken : IsListing ◌<◌ (IsTaken x a 0) []
  none_taken = listing_nothing ◌<◌ (IsTaken x a 0) (λ option t. let lt = t.below in omega (arith, lt))

  taken_still : (k option : ℕ) → IsTaken x a k option → IsTaken x a (k + 1) option
  taken_still k option t = record { below = let lt = t.below in omega (arith, lt); pair_there = t.pair_there; is_pair = t.is_pair; stands = t.stands }

  taken_before : (k option : ℕ) → IsTaken x a (k + 1) option → IsTaken x a k option ⊎ (option ≡ k)
  taken_before k option t =
      ⊎_elim
      (λ same. inr same.1)
      (λ other. inl (record { below = let lt = t.below in omega (arith, lt, other.1); pair_there = t.pair_there; is_pair = t.is_pair; stands = t.stands }))
      (eqb_tells option k)

  pub one_taken : (k : ℕ) (y : Pair) (old new : List ℕ) → IsPairOf x k y → Stands a y.cell y.placement → new ≡ old ++ k ∷ [] → IsListing ◌<◌ (IsTaken x a k) old → IsListing ◌<◌ (IsTaken x a (k + 1)) new
  one_taken k y old new w s pushed h =
      subst (IsListing ◌<◌ (IsTaken x a (k + 1))) (sym pushed)
      (listing_append ◌<◌ (IsTaken x a k) (λ option. option ≡ k) (IsTaken x a (k + 1)) old (k ∷ []) h (listing_one ◌<◌ k)
      (λ option last t same. let lt = t.below in omega (arith, lt, same))
      (taken_still k)
      (λ option same. subst (IsTaken x a (k + 1)) (sym same) (record { below = omega arith; pair_there = y; is_pair = w; stands = s }))
      (taken_before k))

  pub none_more_taken : (k : ℕ) (y : Pair) (old : List ℕ) → IsPairOf x k y → (Stands a y.cell y.placement → ⊥) → IsListing ◌<◌ (IsTaken x a k) old → IsListing ◌<◌ (IsTaken x a (k + 1)) old
  none_more_taken k y old w none h =
      listing_same ◌<◌ (IsTaken x a k) (IsTaken x a (k + 1)) old (taken_still k)
      (λ option t. ⊎_elim (λ before. before) (λ last. absurd (none (there option t last))) (taken_before k option t)) h
    where
      there : (option : ℕ) (t : IsTaken x a (k + 1) option) → option ≡ k → Stands a y.cell y.placement
      there option t last =
          let both = one_pair x is k t.pair_there y (subst (λ n. IsPairOf x n t.pair_there) last t.is_pair) w in
          subst (λ (q : Pair). Stands a q.cell q.placement) both t.stands

  -- the options that were taken are the solution
  pub all_taken : (k : ℕ) (options : List ℕ) (whole : IsArrangement x.puzzle a) → length x.options ≤ k → IsListing ◌<◌ (IsTaken x a k) options → AreFound x is a whole options
  all_taken k options whole le h =
      let found = solution_of_arrangement x is a whole in
      let chosen = found.0 in
      let are = found.1 in
      let listed : IsListing ◌<◌ (StandsIn x is a) options = listing_same ◌<◌ (IsTaken x a k) (StandsIn x is a) options
      (λ option t. (t.pair_there, t.is_pair, t.stands))
      (λ option w. record { below = let lt = real_option x is option w.0 w.1 in omega (arith, lt, le); pair_there = w.0; is_pair = w.1; stands = w.2 }) h in
      let same : chosen ≡ options = same_listing ◌<◌ (λ i j l m. omega (arith, l, m)) (StandsIn x is a) chosen options are.listed listed in
      subst (AreFound x is a whole) same are

-- ---- the arrangement of a solution

-- The first options were put on the board, each at a cell of its own; elsewhere stands nothing.
pub record ArePut (x : Compiled) (nothing : Placement) (options : List ℕ) (k : ℕ) (a : List Placement) : Type 0 where
  pub room : cell_count x.puzzle.board ≤ length a
  pub real : (place option : ℕ) → place < k → slice_get options place ≡ Some option → option < length x.options
  pub stands : (place option : ℕ) (y : Pair) → place < k → slice_get options place ≡ Some option → IsPairOf x option y → Stands a y.cell y.placement
  pub put : (cell : ℕ) (y : Placement) → Stands a cell y → (y ≡ nothing) ⊎ ((place : ℕ) × (option : ℕ) × (place < k) × (slice_get options place ≡ Some option) × IsPairOf x option (pair cell y))
  pub apart : (place place' option option' : ℕ) (y z : Pair) → place < k → place' < k → slice_get options place ≡ Some option → slice_get options place' ≡ Some option' → IsPairOf x option y → IsPairOf x option' z → y.cell ≡ z.cell → place ≡ place'

module _ (x : Compiled) (is : IsCompiled x) (nothing : Placement) (options : List ℕ) where
  pub none_put : (a : List Placement) (n : ℕ) → cell_count x.puzzle.board ≤ n → a ≡ replicate n nothing → ArePut x nothing options 0 a
  none_put a n most e = record {
    room = let long = ap length e in let many = length-replicate n nothing in omega (arith, long, many, most);
    real = λ place option lt at. absurd (omega (arith, lt));
    stands = λ place option y lt at w. absurd (omega (arith, lt));
    put = λ cell y s. inl (slice_get-replicate n cell nothing y (subst (λ b. Stands b cell y) e s));
    apart = λ place place' option option' y z lt lt' at at' w v same. absurd (omega (arith, lt));
  }

  -- what is put on the board is no nothing
  pub is_something : (option : ℕ) (z : Pair) → nothing.tile ≡ length x.puzzle.words → IsPairOf x option z → nothing ≡ z.placement → ⊥
  is_something option z outside v e =
      let within = (option_pair x is option z v).legal.tile in
      let tile = ap (λ (q : Placement). q.tile) e in
      omega (arith, within, tile, outside)

  module _ (outside : nothing.tile ≡ length x.puzzle.words) where
    pub one_put : (k option : ℕ) (y : Pair) (a a' : List Placement) → slice_get options k ≡ Some option → IsPairOf x option y → Stands a y.cell nothing → a' ≡ set a y.cell y.placement → ArePut x nothing options k a → ArePut x nothing options (k + 1) a'
    one_put k option y a a' here w empty written h = record {
      room = let long = ap length written in let kept = length-set a y.cell y.placement in let room = h.room in omega (arith, long, kept, room);
      real = λ place option' lt at. ⊎_elim (λ e. subst (λ n. n < length x.options) (sym (this place option' e.1 at)) (real_option x is option y w)) (λ ne. h.real place option' (omega (arith, lt, ne.1)) at) (eqb_tells place k);
      stands = λ place option' z lt at v.
          ⊎_elim
          (λ e. subst (λ (q : Pair). Stands a' q.cell q.placement) (one_pair x is option y z w (subst (λ n. IsPairOf x n z) (this place option' e.1 at) v)) now_here)
          (λ ne. let before : place < k = omega (arith, lt, ne.1) in subst (λ b. Stands b z.cell z.placement) (sym written) (slice_get-set_other a y.cell z.cell y.placement (elsewhere place option' z before at v) ∙ h.stands place option' z before at v))
          (eqb_tells place k);
      put = λ cell z s.
          ⊎_elim
          (λ e.
          let there : Stands a' y.cell z = subst (λ n. Stands a' n z) e.1 s in
          let same : y.placement ≡ z = stands_one a' y.cell y.placement z now_here there in
          let pairs : y ≡ pair cell z = ap (λ q. pair y.cell q) same ∙ ap (λ n. pair n z) (sym e.1) in
          inr (k, option, (let lt : k < k + 1 = omega arith in lt), here, subst (IsPairOf x option) pairs w))
          (λ ne.
          let before : Stands a cell z = sym (slice_get-set_other a y.cell cell y.placement ne.1) ∙ subst (λ b. Stands b cell z) written s in
          ⊎_elim inl (λ o. inr (o.0, o.1, (let lt = o.2 in let more : o.0 < k + 1 = omega (arith, lt) in more), o.3, o.4)) (h.put cell z before))
          (eqb_tells cell y.cell);
      apart = λ place place' o o' u v lt lt' at at' wu wv same.
          ⊎_elim
          (λ e.
          ⊎_elim
          (λ e'. e.1 ∙ sym e'.1)
          (λ ne'. absurd (elsewhere place' o' v (omega (arith, lt', ne'.1)) at' wv (sym same ∙ ap (λ (q : Pair). q.cell) (sym (one_pair x is option y u w (subst (λ n. IsPairOf x n u) (this place o e.1 at) wu))))))
          (eqb_tells place' k))
          (λ ne.
          ⊎_elim
          (λ e'. absurd (elsewhere place o u (omega (arith, lt, ne.1)) at wu (same ∙ ap (λ (q : Pair). q.cell) (sym (one_pair x is option y v w (subst (λ n. IsPairOf x n v) (this place' o' e'.1 at') wv))))))
          (λ ne'. h.apart place place' o o' u v (omega (arith, lt, ne.1)) (omega (arith, lt', ne'.1)) at at' wu wv same)
          (eqb_tells place' k))
          (eqb_tells place k);
    }
      where
        this : (place option' : ℕ) → place ≡ k → slice_get options place ≡ Some option' → option' ≡ option
        this place option' e at = inside (sym at ∙ ap (slice_get options) e ∙ here)

        now_here : Stands a' y.cell y.placement
        now_here = subst (λ b. Stands b y.cell y.placement) (sym written) (slice_get-set_same a y.cell y.placement (slice_get_within a y.cell nothing empty))

        elsewhere : (place option' : ℕ) (z : Pair) → place < k → slice_get options place ≡ Some option' → IsPairOf x option' z → z.cell ≢ y.cell
        elsewhere place option' z lt at v e =
            is_something option' z outside v (stands_one a y.cell nothing z.placement empty (subst (λ cell. Stands a cell z.placement) e (h.stands place option' z lt at v)))

    -- ---- when all were put

    -- what was put is on the board, which is the front of the list
    module _ (k : ℕ) (a b : List Placement) (all : length options ≤ k) (h : ArePut x nothing options k a) (front : b ≡ take (cell_count x.puzzle.board) a) where
      as_long : length b ≡ cell_count x.puzzle.board
      as_long = ap length front ∙ length-take-le (cell_count x.puzzle.board) a h.room

      in_front : (cell : ℕ) (y : Placement) → cell < cell_count x.puzzle.board → Stands a cell y → Stands b cell y
      in_front cell y lt s = subst (λ c. Stands c cell y) (sym front) (slice_get-take (cell_count x.puzzle.board) a cell lt ∙ s)

      of_front : (cell : ℕ) (y : Placement) → Stands b cell y → Stands a cell y
      of_front cell y s = (taken_at a (cell_count x.puzzle.board) cell y (subst (λ c. Stands c cell y) front s)).1

      stands_in_front : (option : ℕ) (y : Pair) → Contains options option → IsPairOf x option y → Stands b y.cell y.placement
      stands_in_front option y c w =
          let at = place_of options option c in
          let lt = slice_get_within options at.0 option at.1 in
          let within = (option_pair x is option y w).cell in
          in_front y.cell y.placement within (h.stands at.0 option y (omega (arith, lt, all)) at.1 w)

      -- what stands where nothing is left empty
      same_if_full : ((cell : ℕ) (y : Placement) → Stands b cell y → y ≡ nothing → ⊥) → IsFilledBy x options b
      same_if_full full = record {
        cells = as_long;
        stands = stands_in_front;
        put = λ cell y s. ⊎_elim (λ e. absurd (full cell y s e)) (λ o. (o.1, contains_at options o.0 o.1 o.3, o.4)) (h.put cell y (of_front cell y s));
      }

      pub put_solves : IsArrangement x.puzzle b → IsSolutionOf x b options
      put_solves whole =
          let same = same_if_full (λ cell y s e. let within = (whole.legal cell y s).tile in let tile = ap (λ (q : Placement). q.tile) e in omega (arith, within, tile, outside)) in
          record {
            solution = whole_solves x is b whole options same
                (λ option c. let at = place_of options option c in h.real at.0 option (let lt = slice_get_within options at.0 option at.1 in omega (arith, lt, all)) at.1)
                (λ place place' option at at'. one_place place place' option at at');
            arrangement = whole;
            filled = same;
          }
        where
          one_place : (place place' option : ℕ) → slice_get options place ≡ Some option → slice_get options place' ≡ Some option → place ≡ place'
          one_place place place' option at at' =
              let lt = slice_get_within options place option at in
              let lt' = slice_get_within options place' option at' in
              let y = pair_at x is option (h.real place option (omega (arith, lt, all)) at) in
              h.apart place place' option option y.0 y.0 (omega (arith, lt, all)) (omega (arith, lt', all)) at at' y.1 y.1 refl

      pub solution_was_put : IsSolution (cover_of x) options → IsArrangement x.puzzle b
      solution_was_put solution =
          solution_stands x is options solution b (same_if_full (λ cell y s e.
          let within = slice_get_within b cell y s in
          let o = chosen_at x is options solution cell (omega (arith, within, as_long)) in
          let z = o.1 in
          let there : Stands b cell z.placement = subst (λ n. Stands b n z.placement) o.4 (stands_in_front o.0 z o.2 o.3) in
          is_something o.0 z outside o.3 (sym e ∙ stands_one b cell y z.placement s there)))

    -- two options of one cell are no part of a solution
    pub taken_twice : (k option : ℕ) (y : Pair) (a : List Placement) (z : Placement) → slice_get options k ≡ Some option → IsPairOf x option y → Stands a y.cell z → z ≢ nothing → ArePut x nothing options k a → IsSolution (cover_of x) options → ⊥
    taken_twice k option y a z here w s ne h solution =
        ⊎_elim
        (λ e. ne e)
        (λ o.
        let both = one_chosen_at x is options solution option o.1 y (pair y.cell z) (contains_at options k option here) (contains_at options o.0 o.1 o.3) w o.4 refl in
        let same = solution.different o.0 k option (subst (λ n. slice_get options o.0 ≡ Some n) (sym both) o.3) here in
        omega (arith, o.2, same))
        (h.put y.cell z s)

    -- nor is what is no option
    pub out_of_range : (k option : ℕ) → slice_get options k ≡ Some option → length x.options ≤ option → IsSolution (cover_of x) options → ⊥
    out_of_range k option here le solution =
        let lt = solution.real option (contains_at options k option here) in
        let many = many_options x is in
        omega (arith, lt, many, le)
