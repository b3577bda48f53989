-- Which reasons there are.
use Rattle.std.proofs.Common.{◌≡◌, ◌<◌, ◌≤◌, ◌+◌, ◌-◌, ◌%◌, ℕ, Bool, true, false, List, [], ◌∷◌, ◌++◌, All, MatchBool, get_or, length, refl, ap, sym, ◌∙◌, subst, arith, inl, inr, ⊎_elim}
use Rattle.std.proofs.lemmas.Bool.Decides.{eqb_tells}
use Rattle.std.proofs.lemmas.List.Elements.{All-from_get_or, Contains-get_or}
use Rattle.match_puzzle.proofs.TogetherLemmas.{small_mate}
use Rattle.match_limits.specs.declared.TheConstants.{MOST_COLOURS}
use Rattle.match_limits.proofs.Listings.{listing_none, listing_skip, listing_push, listing_all}
use Rattle.match_limits.proofs.ListLemmas.{member_at, contains_at}
use Rattle.match_board.specs.Board.{cell_count}
use Rattle.match_puzzle.specs.Fitting.{Fits, FitsItem, AreFitting}
use Rattle.match_puzzle.specs.Prefix.{Prefix, empty_prefix}
use Rattle.match_puzzle.specs.Puzzle.{Task, IsPuzzle, AllHaveToStand, mate_of}
use Rattle.match_puzzle.specs.declared.items.Item.{Item}
use Rattle.match_puzzle.specs.declared.items.Item.TheVariants.{Cell, Tile}
use Rattle.match_puzzle.specs.declared.placements.Pair.{Pair}
use Rattle.show_text.specs.Facts.{border_count, tile_count}
use Rattle.show_reasons.specs.Reasons.{IsAskedCount, IsLeft, IsShort, IsOdd, AreUnequal, HoldsOf, NamesColours, reason_key, IsReasonAt, HasNoReasonAt, AreReasonsBefore, AreReasons}
use Rattle.show_reasons.specs.declared.reasons.Reason.{Reason}
use Rattle.show_reasons.specs.declared.reasons.Reason.TheVariants.{ColourShort, Odd, Unequal, DeadCell, DeadTile}
use Rattle.show_reasons.proofs.BorderCounts.{one_order}

module _ (p : Task) where
  -- a colour is asked for so often, and so many of its sides are left
  pub one_asked : (colour m n : ℕ) → IsAskedCount p colour m → IsAskedCount p colour n → m ≡ n
  one_asked colour m n a b = a.counted ∙ ap (λ (pairs : List (ℕ × ℕ)). border_count p.border (length pairs) colour) (one_order p a.outer b.outer a.border b.border) ∙ sym b.counted

  pub one_left : (colour m n : ℕ) → IsLeft p colour m → IsLeft p colour n → m ≡ n
  one_left colour m n a b = omega (arith, one_asked colour a.0 b.0 a.1 b.1, a.2, b.2)

  -- a colour of which some are left isn't short
  pub left_not_short : (colour left asked shown : ℕ) → IsLeft p colour left → IsShort p colour asked shown → ⊥
  left_not_short colour left asked shown a b = omega (arith, one_asked colour a.0 asked a.1 b.counted, a.2, b.on_tiles, b.short)

  one_short : (colour asked shown asked' shown' : ℕ) → IsShort p colour asked shown → IsShort p colour asked' shown' → ◌≡◌ {A = Reason} (ColourShort colour asked shown) (ColourShort colour asked' shown')
  one_short colour asked shown asked' shown' h k =
      let a : asked ≡ asked' = one_asked colour asked asked' h.counted k.counted in
      let b : shown ≡ shown' = h.on_tiles ∙ sym k.on_tiles in
      cc

  one_odd : (colour left left' : ℕ) → IsOdd p colour left → IsOdd p colour left' → ◌≡◌ {A = Reason} (Odd colour left) (Odd colour left')
  one_odd colour left left' h k = ap (Odd colour) (one_left colour left left' h.counted k.counted)

  one_unequal : (colour left mate mate_left left' mate' mate_left' : ℕ) → AreUnequal p colour left mate mate_left → AreUnequal p colour left' mate' mate_left' → ◌≡◌ {A = Reason} (Unequal colour left mate mate_left) (Unequal colour left' mate' mate_left')
  one_unequal colour left mate mate_left left' mate' mate_left' h k =
      let a : left ≡ left' = one_left colour left left' h.counted k.counted in
      let b : mate ≡ mate' = h.mates ∙ sym k.mates in
      let c : mate_left ≡ mate_left' = one_left mate mate_left mate_left' h.mate_counted (subst (λ n. IsLeft p n mate_left') (sym b) k.mate_counted) in
      cc

  -- no two reasons have one key
  pub one_reason : (r r' : Reason) → HoldsOf p r → HoldsOf p r' → (reason_key r).0 ≡ (reason_key r').0 → (reason_key r).1 ≡ (reason_key r').1 → r ≡ r'
  one_reason (ColourShort c asked shown) (ColourShort c' asked' shown') h h' e f = ap (λ n. ColourShort n asked shown) f ∙ one_short c' asked shown asked' shown' (subst (λ n. IsShort p n asked shown) f h) h'
  one_reason (ColourShort c asked shown) (Odd c' left) h h' e f = absurd (left_not_short c' left asked shown h'.counted (subst (λ n. IsShort p n asked shown) f h))
  one_reason (ColourShort c asked shown) (Unequal c' left mate mate_left) h h' e f = absurd (left_not_short c' left asked shown h'.counted (subst (λ n. IsShort p n asked shown) f h))
  one_reason (ColourShort c asked shown) (DeadCell cell) h h' e f = absurd (omega (arith, e))
  one_reason (ColourShort c asked shown) (DeadTile tile) h h' e f = absurd (omega (arith, e))
  one_reason (Odd c left) (ColourShort c' asked shown) h h' e f = absurd (left_not_short c' left asked shown (subst (λ n. IsLeft p n left) f h.counted) h')
  one_reason (Odd c left) (Odd c' left') h h' e f = ap (λ n. Odd n left) f ∙ one_odd c' left left' (subst (λ n. IsOdd p n left) f h) h'
  one_reason (Odd c left) (Unequal c' left' mate mate_left) h h' e f = absurd (own_not_lesser c' mate (subst (λ n. mate_of p n ≡ n) f h.own) h'.mates h'.lesser)
    where
      own_not_lesser : (n mate : ℕ) → mate_of p n ≡ n → mate ≡ mate_of p n → n < mate → ⊥
      own_not_lesser n mate own is lt = omega (arith, own, is, lt)
  one_reason (Odd c left) (DeadCell cell) h h' e f = absurd (omega (arith, e))
  one_reason (Odd c left) (DeadTile tile) h h' e f = absurd (omega (arith, e))
  one_reason (Unequal c left mate mate_left) (ColourShort c' asked shown) h h' e f = absurd (left_not_short c' left asked shown (subst (λ n. IsLeft p n left) f h.counted) h')
  one_reason (Unequal c left mate mate_left) (Odd c' left') h h' e f = absurd (own_not_lesser c mate (subst (λ n. mate_of p n ≡ n) (sym f) h'.own) h.mates h.lesser)
    where
      own_not_lesser : (n mate : ℕ) → mate_of p n ≡ n → mate ≡ mate_of p n → n < mate → ⊥
      own_not_lesser n mate own is lt = omega (arith, own, is, lt)
  one_reason (Unequal c left mate mate_left) (Unequal c' left' mate' mate_left') h h' e f = ap (λ n. Unequal n left mate mate_left) f ∙ one_unequal c' left mate mate_left left' mate' mate_left' (subst (λ n. AreUnequal p n left mate mate_left) f h) h'
  one_reason (Unequal c left mate mate_left) (DeadCell cell) h h' e f = absurd (omega (arith, e))
  one_reason (Unequal c left mate mate_left) (DeadTile tile) h h' e f = absurd (omega (arith, e))
  one_reason (DeadCell cell) (ColourShort c asked shown) h h' e f = absurd (omega (arith, e))
  one_reason (DeadCell cell) (Odd c left) h h' e f = absurd (omega (arith, e))
  one_reason (DeadCell cell) (Unequal c left mate mate_left) h h' e f = absurd (omega (arith, e))
  one_reason (DeadCell cell) (DeadCell cell') h h' e f = ap DeadCell f
  one_reason (DeadCell cell) (DeadTile tile) h h' e f = absurd (omega (arith, e))
  one_reason (DeadTile tile) (ColourShort c asked shown) h h' e f = absurd (omega (arith, e))
  one_reason (DeadTile tile) (Odd c left) h h' e f = absurd (omega (arith, e))
  one_reason (DeadTile tile) (Unequal c left mate mate_left) h h' e f = absurd (omega (arith, e))
  one_reason (DeadTile tile) (DeadCell cell) h h' e f = absurd (omega (arith, e))
  one_reason (DeadTile tile) (DeadTile tile') h h' e f = ap DeadTile f

  -- Of a colour no reason holds, where it isn't short, and no odd or unequal number is left.
  pub no_reason : (colour : ℕ) → ((asked shown : ℕ) → IsShort p colour asked shown → ⊥) → ((left : ℕ) → IsOdd p colour left → ⊥) → ((left mate mate_left : ℕ) → AreUnequal p colour left mate mate_left → ⊥) → HasNoReasonAt p (0, colour)
  no_reason colour short odd unequal = λ reason h e. by_kind reason h (ap (λ (k : ℕ × ℕ). k.0) e) (ap (λ (k : ℕ × ℕ). k.1) e)
    where
      by_kind : (reason : Reason) → HoldsOf p reason → (reason_key reason).0 ≡ 0 → (reason_key reason).1 ≡ colour → ⊥
      by_kind (ColourShort c asked shown) h e f = short asked shown (subst (λ n. IsShort p n asked shown) f h)
      by_kind (Odd c left) h e f = odd left (subst (λ n. IsOdd p n left) f h)
      by_kind (Unequal c left mate mate_left) h e f = unequal left mate mate_left (subst (λ n. AreUnequal p n left mate mate_left) f h)
      by_kind (DeadCell cell) h e f = omega (arith, e)
      by_kind (DeadTile tile) h e f = omega (arith, e)

  -- a colour that is shown as often as it is asked for isn't short
  pub not_short : (colour asked shown : ℕ) → IsAskedCount p colour asked → shown ≡ tile_count p.words colour → asked ≤ shown → (a s : ℕ) → IsShort p colour a s → ⊥
  not_short colour asked shown counted tiles enough a s h = omega (arith, one_asked colour asked a counted h.counted, tiles, enough, h.on_tiles, h.short)

  -- a colour that meets itself is no lesser mate
  pub own_not_unequal : (colour : ℕ) → mate_of p colour ≡ colour → (left mate mate_left : ℕ) → AreUnequal p colour left mate mate_left → ⊥
  own_not_unequal colour own left mate mate_left h = let mates = h.mates in let lt = h.lesser in omega (arith, own, mates, lt)

  -- where an even number is left of a colour that meets itself
  pub none_of_even : (colour left : ℕ) → IsLeft p colour left → (left % 2 ≡ 1 → ⊥) → mate_of p colour ≡ colour → HasNoReasonAt p (0, colour)
  none_of_even colour left counted even own = no_reason colour
      (λ asked shown h. left_not_short colour left asked shown counted h)
      (λ other h. even (ap (λ n. n % 2) (one_left colour left other counted h.counted) ∙ h.odd))
      (own_not_unequal colour own)

  -- where of a lesser mate nothing unequal is left
  pub none_of_lesser : (colour left : ℕ) → IsLeft p colour left → colour < mate_of p colour → ((other mate mate_left : ℕ) → AreUnequal p colour other mate mate_left → ⊥) → HasNoReasonAt p (0, colour)
  none_of_lesser colour left counted lesser equal = no_reason colour
      (λ asked shown h. left_not_short colour left asked shown counted h)
      (λ other h. let own = h.own in omega (arith, own, lesser))
      equal

  -- where the greater mate is short
  pub none_of_short_mate : (colour left asked shown : ℕ) → IsLeft p colour left → colour < mate_of p colour → IsAskedCount p (mate_of p colour) asked → shown ≡ tile_count p.words (mate_of p colour) → shown < asked → HasNoReasonAt p (0, colour)
  none_of_short_mate colour left asked shown counted lesser asks tiles short = none_of_lesser colour left counted lesser (λ other mate mate_left h.
      let of_mate = subst (λ n. IsLeft p n mate_left) h.mates h.mate_counted in
      omega (arith, one_asked (mate_of p colour) asked of_mate.0 asks of_mate.1, of_mate.2, tiles, short))

  -- how many sides of a colour are left
  pub is_left : (colour asked shown : ℕ) → IsAskedCount p colour asked → shown ≡ tile_count p.words colour → asked ≤ shown → IsLeft p colour (shown - asked)
  is_left colour asked shown asks tiles enough = (asked, asks, omega (arith, tiles, enough))

  -- where as many are left of the greater mate
  pub none_of_equal : (colour left mate_left : ℕ) → IsLeft p colour left → colour < mate_of p colour → IsLeft p (mate_of p colour) mate_left → left ≡ mate_left → HasNoReasonAt p (0, colour)
  none_of_equal colour left mate_left counted lesser mate_counted same = none_of_lesser colour left counted lesser (λ other mate other_left h.
      let of_mate = subst (λ n. IsLeft p n other_left) h.mates h.mate_counted in
      h.unequal (one_left colour other left h.counted counted ∙ same ∙ one_left (mate_of p colour) mate_left other_left mate_counted of_mate))

  -- where a colour is the greater of two mates
  pub none_of_greater : (colour left : ℕ) → IsLeft p colour left → (mate_of p colour ≡ colour → ⊥) → (colour < mate_of p colour → ⊥) → HasNoReasonAt p (0, colour)
  none_of_greater colour left counted other greater = no_reason colour
      (λ asked shown h. left_not_short colour left asked shown counted h)
      (λ n h. other h.own)
      (λ n mate mate_left h. greater (subst (λ k. colour < k) h.mates h.lesser))

  -- ---- the list grows

  pub none_yet : AreReasonsBefore p (0, 0) []
  none_yet = listing_none reason_key (HoldsOf p)

  pub reason_skipped : (kind number : ℕ) (reasons : List Reason) → HasNoReasonAt p (kind, number) → AreReasonsBefore p (kind, number) reasons → AreReasonsBefore p (kind, number + 1) reasons
  reason_skipped kind number reasons none h = listing_skip reason_key (HoldsOf p) (kind, number) reasons (λ reason holds e f. none reason holds (ap (λ k. (k, (reason_key reason).1)) e ∙ ap (λ n. (kind, n)) f)) h

  pub reason_put : (kind number : ℕ) (reasons : List Reason) (reason : Reason) → IsReasonAt p (kind, number) reason → AreReasonsBefore p (kind, number) reasons → AreReasonsBefore p (kind, number + 1) (reasons ++ reason ∷ [])
  reason_put kind number reasons reason is h =
      listing_push reason_key (HoldsOf p) (kind, number) reasons reason is.0 is.1
      (λ other holds e f. one_reason other reason holds is.0 (e ∙ sym (ap (λ (k : ℕ × ℕ). k.0) is.1)) (f ∙ sym (ap (λ (k : ℕ × ℕ). k.1) is.1))) h

  -- ---- cells and tiles

  pub fits_none : (item : Item) (xs : List Pair) → AreFitting p (empty_prefix p) item xs → length xs ≡ 0 → (x : Pair) → FitsItem p (empty_prefix p) item x → ⊥
  fits_none item xs fitting none x fits = let c = fitting.all x fits in omega (arith, c.1, none)

  pub fits_some : (item : Item) (xs : List Pair) → AreFitting p (empty_prefix p) item xs → (length xs ≡ 0 → ⊥) → (x : Pair) × FitsItem p (empty_prefix p) item x
  fits_some item xs fitting some =
      let first = member_at xs 0 (let lt : 0 < length xs = grind arith in lt) in
      (first.0, fitting.only first.0 (contains_at xs 0 first.0 first.1))

  -- the next kind of reasons, where the numbers of this kind are bounded
  listing_next : (kind bound : ℕ) (reasons : List Reason) → ((reason : Reason) → HoldsOf p reason → (reason_key reason).0 ≡ kind → (reason_key reason).1 < bound) → AreReasonsBefore p (kind, bound) reasons → AreReasonsBefore p (kind + 1, 0) reasons
  listing_next kind bound reasons below h = record {
    only = λ x c. let w = h.only x c in (w.0, ⊎_elim (λ l. inl (omega (arith, l))) (λ e. inl (omega (arith, e.0))) w.1);
    all = λ x w. h.all x (w.0, ⊎_elim (λ l. ⊎_elim (λ e. inr (e.1, below x w.0 e.1)) (λ ne. inl (omega (arith, l, ne.1))) (eqb_tells (reason_key x).0 kind)) (λ e. absurd (omega (arith, e.1))) w.1);
    rising = h.rising;
  }

  -- what is counted on the empty board
  pub on_empty : (q : Prefix) (item : Item) (count : ℕ) → q ≡ empty_prefix p → (xs : List Pair) × AreFitting p q item xs × (length xs ≡ count) → (xs : List Pair) × AreFitting p (empty_prefix p) item xs × (length xs ≡ count)
  on_empty q item count e h = (h.0, subst (λ placed. AreFitting p placed item h.0) e h.1, h.2)

  -- ---- cells and tiles, one more

  pub cell_skipped : (cell count : ℕ) (reasons : List Reason) → (xs : List Pair) × AreFitting p (empty_prefix p) (Cell cell) xs × (length xs ≡ count) → (count ≡ 0 → ⊥) → AreReasonsBefore p (1, cell) reasons → AreReasonsBefore p (1, cell + 1) reasons
  cell_skipped cell count reasons counted some h = reason_skipped 1 cell reasons (λ reason holds e. by_kind reason holds (ap (λ (k : ℕ × ℕ). k.0) e) (ap (λ (k : ℕ × ℕ). k.1) e)) h
    where
      by_kind : (reason : Reason) → HoldsOf p reason → (reason_key reason).0 ≡ 1 → (reason_key reason).1 ≡ cell → ⊥
      by_kind (ColourShort c asked shown) holds e f = omega (arith, e)
      by_kind (Odd c left) holds e f = omega (arith, e)
      by_kind (Unequal c left mate mate_left) holds e f = omega (arith, e)
      by_kind (DeadCell other) holds e f =
          let fits = fits_some (Cell cell) counted.0 counted.1 (λ none. some (sym counted.2 ∙ none)) in
          holds.1 fits.0.placement (subst (λ c. Fits p (empty_prefix p) c fits.0.placement) (fits.1.0 ∙ sym f) fits.1.1)
      by_kind (DeadTile tile) holds e f = omega (arith, e)

  pub cell_put : (cell count : ℕ) (reasons : List Reason) → cell < cell_count p.board → (xs : List Pair) × AreFitting p (empty_prefix p) (Cell cell) xs × (length xs ≡ count) → count ≡ 0 → AreReasonsBefore p (1, cell) reasons → AreReasonsBefore p (1, cell + 1) (reasons ++ DeadCell cell ∷ [])
  cell_put cell count reasons lt counted none h =
      reason_put 1 cell reasons (DeadCell cell) ((lt, λ x fits. fits_none (Cell cell) counted.0 counted.1 (counted.2 ∙ none) (record { cell = cell; placement = x }) (refl, fits)), refl) h

  pub tile_skipped : (tile count : ℕ) (reasons : List Reason) → (xs : List Pair) × AreFitting p (empty_prefix p) (Tile tile) xs × (length xs ≡ count) → (count ≡ 0 → ⊥) → AreReasonsBefore p (2, tile) reasons → AreReasonsBefore p (2, tile + 1) reasons
  tile_skipped tile count reasons counted some h = reason_skipped 2 tile reasons (λ reason holds e. by_kind reason holds (ap (λ (k : ℕ × ℕ). k.0) e) (ap (λ (k : ℕ × ℕ). k.1) e)) h
    where
      by_kind : (reason : Reason) → HoldsOf p reason → (reason_key reason).0 ≡ 2 → (reason_key reason).1 ≡ tile → ⊥
      by_kind (ColourShort c asked shown) holds e f = omega (arith, e)
      by_kind (Odd c left) holds e f = omega (arith, e)
      by_kind (Unequal c left mate mate_left) holds e f = omega (arith, e)
      by_kind (DeadCell other) holds e f = omega (arith, e)
      by_kind (DeadTile other) holds e f =
          let fits = fits_some (Tile tile) counted.0 counted.1 (λ none. some (sym counted.2 ∙ none)) in
          holds.2 fits.0.cell fits.0.placement (fits.1.0 ∙ sym f) fits.1.1

  pub tile_put : (tile count : ℕ) (reasons : List Reason) → AllHaveToStand p → tile < length p.words → (xs : List Pair) × AreFitting p (empty_prefix p) (Tile tile) xs × (length xs ≡ count) → count ≡ 0 → AreReasonsBefore p (2, tile) reasons → AreReasonsBefore p (2, tile + 1) (reasons ++ DeadTile tile ∷ [])
  tile_put tile count reasons all lt counted none h =
      reason_put 2 tile reasons (DeadTile tile) ((all, lt, λ cell x e fits. fits_none (Tile tile) counted.0 counted.1 (counted.2 ∙ none) (record { cell = cell; placement = x }) (e, fits)), refl) h

  -- ---- the next kind

  pub after_colours : (reasons : List Reason) → AreReasonsBefore p (0, MOST_COLOURS) reasons → AreReasonsBefore p (1, 0) reasons
  after_colours reasons h = listing_next 0 MOST_COLOURS reasons (λ reason holds e. by_kind reason holds e) h
    where
      by_kind : (reason : Reason) → HoldsOf p reason → (reason_key reason).0 ≡ 0 → (reason_key reason).1 < MOST_COLOURS
      by_kind (ColourShort c asked shown) holds e = holds.few
      by_kind (Odd c left) holds e = holds.few
      by_kind (Unequal c left mate mate_left) holds e = holds.few
      by_kind (DeadCell other) holds e = absurd (omega (arith, e))
      by_kind (DeadTile tile) holds e = absurd (omega (arith, e))

  pub after_cells : (reasons : List Reason) → AreReasonsBefore p (1, cell_count p.board) reasons → AreReasonsBefore p (2, 0) reasons
  after_cells reasons h = listing_next 1 (cell_count p.board) reasons (λ reason holds e. by_kind reason holds e) h
    where
      by_kind : (reason : Reason) → HoldsOf p reason → (reason_key reason).0 ≡ 1 → (reason_key reason).1 < cell_count p.board
      by_kind (ColourShort c asked shown) holds e = absurd (omega (arith, e))
      by_kind (Odd c left) holds e = absurd (omega (arith, e))
      by_kind (Unequal c left mate mate_left) holds e = absurd (omega (arith, e))
      by_kind (DeadCell other) holds e = holds.0
      by_kind (DeadTile tile) holds e = absurd (omega (arith, e))

  pub after_tiles : (reasons : List Reason) → AreReasonsBefore p (2, length p.words) reasons → AreReasons p reasons
  after_tiles reasons h = listing_all reason_key (HoldsOf p) 3 reasons (λ reason holds. last reason) (listing_next 2 (length p.words) reasons (λ reason holds e. by_kind reason holds e) h)
    where
      last : (reason : Reason) → (reason_key reason).0 < 3
      last (ColourShort c asked shown) = omega arith
      last (Odd c left) = omega arith
      last (Unequal c left mate mate_left) = omega arith
      last (DeadCell other) = omega arith
      last (DeadTile tile) = omega arith

      by_kind : (reason : Reason) → HoldsOf p reason → (reason_key reason).0 ≡ 2 → (reason_key reason).1 < length p.words
      by_kind (ColourShort c asked shown) holds e = absurd (omega (arith, e))
      by_kind (Odd c left) holds e = absurd (omega (arith, e))
      by_kind (Unequal c left mate mate_left) holds e = absurd (omega (arith, e))
      by_kind (DeadCell other) holds e = absurd (omega (arith, e))
      by_kind (DeadTile tile) holds e = holds.1

  -- none is of a tile where some tile is left over
  pub no_tiles : (reasons : List Reason) → (AllHaveToStand p → ⊥) → AreReasonsBefore p (2, 0) reasons → AreReasons p reasons
  no_tiles reasons over h = listing_all reason_key (HoldsOf p) 2 reasons (λ reason holds. by_kind reason holds) h
    where
      by_kind : (reason : Reason) → HoldsOf p reason → (reason_key reason).0 < 2
      by_kind (ColourShort c asked shown) holds = omega arith
      by_kind (Odd c left) holds = omega arith
      by_kind (Unequal c left mate mate_left) holds = omega arith
      by_kind (DeadCell other) holds = omega arith
      by_kind (DeadTile tile) holds = absurd (over holds.0)

-- ---- whether each tile has to stand, where the puzzle was asked

pub all_stand : (p q : Task) → q ≡ p → (b : Bool) → MatchBool b (AllHaveToStand q) (AllHaveToStand q → ⊥) → b ≡ true → AllHaveToStand p
all_stand p q same b told e = subst AllHaveToStand same (subst (λ x. MatchBool x (AllHaveToStand q) (AllHaveToStand q → ⊥)) e told)

pub some_over : (p q : Task) → q ≡ p → (b : Bool) → MatchBool b (AllHaveToStand q) (AllHaveToStand q → ⊥) → b ≡ false → AllHaveToStand p → ⊥
some_over p q same b told e all = subst (λ x. MatchBool x (AllHaveToStand q) (AllHaveToStand q → ⊥)) e told (subst AllHaveToStand (sym same) all)

-- Reasons that hold name colours.
pub name_colours : (p : Task) → IsPuzzle p → (reasons : List Reason) → AreReasons p reasons → All NamesColours reasons
name_colours p puzzle reasons all = All-from_get_or NamesColours reasons (DeadCell 0) (λ i lt. by_kind (get_or reasons i (DeadCell 0)) (all.only (get_or reasons i (DeadCell 0)) (Contains-get_or reasons i (DeadCell 0) lt)))
  where
    by_kind : (reason : Reason) → HoldsOf p reason → NamesColours reason
    by_kind (ColourShort c asked shown) h = h.few
    by_kind (Odd c left) h = h.few
    by_kind (Unequal c left mate mate_left) h = (h.few, subst (λ n. n < MOST_COLOURS) (sym h.mates) (small_mate p puzzle c h.few))
    by_kind (DeadCell cell) h = tt
    by_kind (DeadTile tile) h = tt
