-- What each cell asks of those that it meets, four places to a cell.
use Rattle.std.proofs.Common.{◌≡◌, ◌≢◌, ◌⊎◌, ◌<◌, ◌≤◌, ◌+◌, ◌*◌, ℕ, List, [], Option, Some, None, Contains, length, set, get_or, slice_get, replicate, unwrap_or, arith, refl, ap, sym, ◌∙◌, subst, inl, inr, ⊎_elim}
use Rattle.match_limits.specs.declared.TheConstants.{MOST_COLOURS}
use Rattle.std.proofs.lemmas.Bool.Decides.{eqb_tells}
use Rattle.match_board.specs.Board.{cell_count, side_count, Meets}
use Rattle.match_board.specs.Clues.{Clue}
use Rattle.match_limits.proofs.OptionLemmas.{none_some}
use Rattle.match_limits.proofs.ListLemmas.{member_at, contains_none}
use Rattle.match_limits.proofs.Listings.{lt_or_le}
use Rattle.match_puzzle.specs.Puzzle.{Task, IsPuzzle, HasRule, colour_of, mate_of}
use Rattle.match_puzzle.specs.Prefix.{Prefix, Has, IsFree, with_pair}
use Rattle.match_puzzle.specs.Fitting.{IsAsked}
use Rattle.match_puzzle.specs.PlacementSets.{TellsOf}
use Rattle.match_puzzle.specs.Partials.{AreAsking, IsAskedFrom}
use Rattle.match_puzzle.specs.declared.placements.Placement.{Placement}
use Rattle.match_puzzle.proofs.Words.{few_sides}
use Rattle.match_puzzle.proofs.Prefixes.{inside, has_placed, has_new, has_still, has_lifted, has_kept}
use Rattle.match_puzzle.proofs.UsedTiles.{has_none}
use Rattle.match_puzzle.proofs.FittingLemmas.{tells_alike, tells_rule, outside_asks}
use Rattle.match_puzzle.proofs.TableLemmas.{rule_below, rule_of_side, side_there}
use Rattle.match_puzzle.proofs.ArrangementLemmas.{side_in_range}
use Rattle.match_board.proofs.Places.{StandsAt-in_range, Meets-turned}
use Rattle.match_puzzle.specs.Tables.{IsSide, IsAskedAt, AreSides, Begins, IsInTable, place_asked, rule_on}
use Rattle.match_puzzle.specs.declared.tables.TheConstants.{FIRST_PLACE}
use Rattle.match_puzzle.specs.declared.tables.CellSides.{CellSides}
use Rattle.match_puzzle.specs.declared.tables.Side.{Side}
use Rattle.match_puzzle.specs.declared.tables.Side.TheVariants.{Border, Edge}

-- ---- one cell is written

-- Places of other cells are as they were.
abbrev pub AreOthersKept : (cell : ℕ) (old new : List ℕ) → Type 0
AreOthersKept cell old new = (place : ℕ) → (place < FIRST_PLACE + 4 * cell) ⊎ (FIRST_PLACE + 4 * cell + 4 ≤ place) → get_or new place 0 ≡ get_or old place 0

other_cell : (cell : ℕ) (old new : List ℕ) → AreOthersKept cell old new → (cell' side : ℕ) → cell' ≢ cell → side < 4 → get_or new (FIRST_PLACE + 4 * cell' + side) 0 ≡ get_or old (FIRST_PLACE + 4 * cell' + side) 0
other_cell cell old new kept cell' side ne lt =
    kept (FIRST_PLACE + 4 * cell' + side) (⊎_elim (λ less. inl (omega (arith, less, lt))) (λ le. inr (omega (arith, le, ne, lt))) (lt_or_le cell' cell))

module _ (p : Task) (q : Prefix) (cell : ℕ) (x : Placement) (old new : List ℕ) (is : AreAsking p q old) (long : length new ≡ length old) (kept : AreOthersKept cell old new) where
  -- what meets other cells is asked as before
  others_ask : (after : Prefix) → ((cell' : ℕ) (y : Placement) → cell' ≢ cell → Has q cell' y → Has after cell' y) → ((cell' : ℕ) (y : Placement) → cell' ≢ cell → Has after cell' y → Has q cell' y) →
      (c s c' s' : ℕ) → c' ≢ cell → Meets p.board c s c' s' → TellsOf (IsAskedFrom p after c s c' s') (get_or new (FIRST_PLACE + 4 * c' + s') 0)
  others_ask after to from c s c' s' ne meets =
      let side_in = side_in_range (Meets-turned meets) in
      subst (TellsOf (IsAskedFrom p after c s c' s')) (sym (other_cell cell old new kept c' s' ne (omega (arith, side_in, few_sides p.board))))
      (tells_alike (IsAskedFrom p q c s c' s') (IsAskedFrom p after c s c' s') (get_or old (FIRST_PLACE + 4 * c' + s') 0)
      (λ colour asked. ⊎_elim (λ rule. inl rule) (λ w. inr (w.0, to c' w.0 ne w.1, w.2)) asked)
      (λ colour asked. ⊎_elim (λ rule. inl rule) (λ w. inr (w.0, from c' w.0 ne w.1, w.2)) asked)
      (is.met c s c' s' meets))

  -- and what meets the cell itself by what was written there
  all_ask : (after : Prefix) → ((cell' : ℕ) (y : Placement) → cell' ≢ cell → Has q cell' y → Has after cell' y) → ((cell' : ℕ) (y : Placement) → cell' ≢ cell → Has after cell' y → Has q cell' y) →
      ((c s s' : ℕ) → Meets p.board c s cell s' → TellsOf (IsAskedFrom p after c s cell s') (get_or new (FIRST_PLACE + 4 * cell + s') 0)) → AreAsking p after new
  all_ask after to from here = record {
    long = long ∙ is.long;
    own = λ colour le. kept colour (inl (omega (arith, le))) ∙ is.own colour le;
    met = λ c s c' s' meets.
        ⊎_elim
        (λ e. subst (λ k. Meets p.board c s k s' → TellsOf (IsAskedFrom p after c s k s') (get_or new (FIRST_PLACE + 4 * k + s') 0)) (sym e.1) (here c s s') meets)
        (λ ne. others_ask after to from c s c' s' ne.1 meets)
        (eqb_tells c' cell);
  }

  pub asking_placed : ((c s s' : ℕ) → Meets p.board c s cell s' → TellsOf (λ colour. HasRule p c s colour ⊎ (mate_of p (colour_of p x s') ≡ colour)) (get_or new (FIRST_PLACE + 4 * cell + s') 0)) → IsFree q cell → AreAsking p (with_pair q cell x) new
  asking_placed shows free =
      all_ask (with_pair q cell x) (λ cell' y ne has. has_still q cell x cell' y free has)
      (λ cell' y ne has. ⊎_elim (λ same. absurd (ne same.0)) (λ before. before.1) (has_placed q cell x cell' y free has))
      (λ c s s' meets.
      tells_alike (λ colour. HasRule p c s colour ⊎ (mate_of p (colour_of p x s') ≡ colour)) (IsAskedFrom p (with_pair q cell x) c s cell s') (get_or new (FIRST_PLACE + 4 * cell + s') 0)
      (λ colour asked. ⊎_elim (λ rule. inl rule) (λ e. inr (x, has_new q cell x free, e)) asked)
      (λ colour asked.
      ⊎_elim
      (λ rule. inl rule)
      (λ w. ⊎_elim (λ same. inr (ap (λ y. mate_of p (colour_of p y s')) (sym same.1) ∙ w.2)) (λ other. absurd (other.0 refl)) (has_placed q cell x cell w.0 free w.1))
      asked)
      (shows c s s' meets))

  pub asking_lifted : Has q cell x → ((c s s' : ℕ) → Meets p.board c s cell s' → TellsOf (HasRule p c s) (get_or new (FIRST_PLACE + 4 * cell + s') 0)) → AreAsking p (set q cell None) new
  asking_lifted here begins =
      all_ask (set q cell None) (λ cell' y ne has. has_kept q cell cell' y ne has) (λ cell' y ne has. (has_lifted q cell cell' x y here has).1)
      (λ c s s' meets.
      tells_alike (HasRule p c s) (IsAskedFrom p (set q cell None) c s cell s') (get_or new (FIRST_PLACE + 4 * cell + s') 0) (λ colour rule. inl rule)
      (λ colour asked. ⊎_elim (λ rule. rule) (λ w. absurd ((has_lifted q cell cell x w.0 here w.1).0 refl)) asked)
      (begins c s s' meets))

-- what was put down at the cell tells what the sides of a list do
pub put_tells : (p : Task) (cell : ℕ) (colours new : List ℕ) (Asked : (c s side colour : ℕ) → Type 0) → ((c s side : ℕ) → Meets p.board c s cell side → TellsOf (Asked c s side) (get_or colours side 0)) →
    ((side : ℕ) → side < 4 → get_or new (FIRST_PLACE + 4 * cell + side) 0 ≡ get_or colours side 0) → (c s side : ℕ) → Meets p.board c s cell side → TellsOf (Asked c s side) (get_or new (FIRST_PLACE + 4 * cell + side) 0)
put_tells p cell colours new Asked tells put c s side meets =
    let side_in = side_in_range (Meets-turned meets) in
    subst (TellsOf (Asked c s side)) (sym (put side (omega (arith, side_in, few_sides p.board)))) (tells c s side meets)

-- ---- nothing stands

-- what is asked of the side that meets an empty board's cell is what a rule asks
pub empty_tells : (p : Task) (table : List ℕ) → AreAsking p (replicate (cell_count p.board) None) table → (c s cell side : ℕ) → Meets p.board c s cell side → TellsOf (HasRule p c s) (get_or table (FIRST_PLACE + 4 * cell + side) 0)
empty_tells p table is c s cell side meets =
    tells_alike (IsAskedFrom p (replicate (cell_count p.board) None) c s cell side) (HasRule p c s) (get_or table (FIRST_PLACE + 4 * cell + side) 0)
    (λ colour asked. ⊎_elim (λ rule. rule) (λ w. absurd (has_none (cell_count p.board) cell w.0 w.1)) asked) (λ colour rule. inl rule) (is.met c s cell side meets)

-- without clues a side that meets another has no rule
pub unclued_tells : (p : Task) (c s cell side : ℕ) → p.clues ≡ [] → Meets p.board c s cell side → TellsOf (HasRule p c s) MOST_COLOURS
unclued_tells p c s cell side none meets =
    inl (refl, λ colour rule. ⊎_elim (λ w. w.0.meets_nothing cell side meets) (λ w. contains_none w.0 (subst (λ (clues : List Clue). Contains clues w.0) none w.1)) rule.asked)

-- what a side begins with tells the rule of the side that it meets
begins_tells : (p : Task) (sides : List CellSides) → IsPuzzle p → AreSides p sides → (c s c' s' number : ℕ) → Meets p.board c s c' s' → (x : Side) → IsSide p c' s' x → Begins sides x number → TellsOf (HasRule p c s) number
begins_tells p sides puzzle are c s c' s' number meets (Border rule) is begin = absurd (is.0.meets_nothing c s (Meets-turned meets))
begins_tells p sides puzzle are c s c' s' number meets (Edge k l rule) is begin =
    let here = is.1 c s (Meets-turned meets) in
    let stands = subst (λ n. slice_get sides n ≡ Some begin.0) (sym here.0) begin.1 in
    let side = get_or begin.0.sides s (Border None) in
    let rule_is = rule_of_side p c s side (side_there p sides are c s begin.0 stands (side_in_range meets)) in
    subst (TellsOf (HasRule p c s)) (sym (begin.2 ∙ ap (λ n. unwrap_or (rule_on (get_or begin.0.sides n (Border None))) MOST_COLOURS) (sym here.1)))
    (tells_rule (HasRule p c s) (rule_on side) (rule_below p c s (rule_on side) puzzle (λ colour. (rule_is colour).0)) rule_is)

-- what a table holds where nothing stands, by what each cell's sides begin with
pub asking_none : (p : Task) (sides : List CellSides) (table : List ℕ) → IsPuzzle p → AreSides p sides → length table ≡ FIRST_PLACE + 4 * length sides → ((colour : ℕ) → colour ≤ MOST_COLOURS → get_or table colour 0 ≡ colour) →
    ((cell side : ℕ) (of : CellSides) (x : Side) → slice_get sides cell ≡ Some of → slice_get of.sides side ≡ Some x → side < 4 → Begins sides x (get_or table (FIRST_PLACE + 4 * cell + side) 0)) → AreAsking p (replicate (cell_count p.board) None) table
asking_none p sides table puzzle are long own begins = record {
  long = let same = are.long in omega (arith, long, same);
  own = own;
  met = λ c s c' s' meets.
      tells_alike (HasRule p c s) (IsAskedFrom p (replicate (cell_count p.board) None) c s c' s') (get_or table (FIRST_PLACE + 4 * c' + s') 0) (λ colour rule. inl rule)
      (λ colour asked. ⊎_elim (λ rule. rule) (λ w. absurd (has_none (cell_count p.board) c' w.0 w.1)) asked)
      (tells c s c' s' meets);
}
  where
    tells : (c s c' s' : ℕ) → Meets p.board c s c' s' → TellsOf (HasRule p c s) (get_or table (FIRST_PLACE + 4 * c' + s') 0)
    tells c s c' s' meets =
        let there = StandsAt-in_range meets.there in
        let side_in = side_in_range (Meets-turned meets) in
        let same = are.long in
        let few = few_sides p.board in
        let of = member_at sides c' (omega (arith, same, there)) in
        let at = are.asked c' of.0 of.1 s' (omega (arith, side_in, few)) in
        begins_tells p sides puzzle are c s c' s' (get_or table (FIRST_PLACE + 4 * c' + s') 0) meets at.0 (are.is c' s' of.0 at.0 of.1 side_in at.1) (begins c' s' of.0 at.0 of.1 at.1 (omega (arith, side_in, few)))

-- what the sides of a table meet stands in it
pub in_table : (p : Task) (table : List CellSides) → AreSides p table → (cell side : ℕ) (of : CellSides) (x : Side) → slice_get table cell ≡ Some of → slice_get of.sides side ≡ Some x → side < 4 → IsInTable table x
in_table p table are cell side of x there at lt =
    ⊎_elim
    (λ side_in. by_side x (are.is cell side of x there side_in at))
    (λ past. subst (IsInTable table) (inside (sym (are.outside cell side of there past lt) ∙ at)) tt)
    (lt_or_le side (side_count p.board))
  where
    by_side : (y : Side) → IsSide p cell side y → IsInTable table y
    by_side (Border rule) is = tt
    by_side (Edge c k rule) is =
        let c_in = StandsAt-in_range is.0.there in
        let k_in = side_in_range (Meets-turned is.0) in
        let long = are.long in
        (omega (arith, c_in, long), omega (arith, k_in, few_sides p.board))

-- one cell more is written down
pub one_cell_begins : (table : List CellSides) (i : ℕ) (begins old new : List ℕ) → AreOthersKept i old new → ((side : ℕ) → side < 4 → get_or new (FIRST_PLACE + 4 * i + side) 0 ≡ get_or begins side 0) →
    ((cell side : ℕ) (of : CellSides) (x : Side) → cell < i → slice_get table cell ≡ Some of → slice_get of.sides side ≡ Some x → side < 4 → Begins table x (get_or old (FIRST_PLACE + 4 * cell + side) 0)) →
    ((side : ℕ) (of : CellSides) (x : Side) → side < 4 → slice_get table i ≡ Some of → slice_get of.sides side ≡ Some x → Begins table x (get_or begins side 0)) →
    (cell side : ℕ) (of : CellSides) (x : Side) → cell < i + 1 → slice_get table cell ≡ Some of → slice_get of.sides side ≡ Some x → side < 4 → Begins table x (get_or new (FIRST_PLACE + 4 * cell + side) 0)
one_cell_begins table i begins old new kept put before here cell side of x lt there at side_in =
    ⊎_elim
    (λ e.
    let same = e.1 in
    subst (λ k. Begins table x (get_or new (FIRST_PLACE + 4 * k + side) 0)) (sym same)
    (subst (Begins table x) (sym (put side side_in)) (here side of x side_in (subst (λ k. slice_get table k ≡ Some of) same there) at)))
    (λ ne. let other = ne.1 in subst (Begins table x) (sym (other_cell i old new kept cell side other side_in)) (before cell side of x (omega (arith, lt, other)) there at side_in))
    (eqb_tells cell i)

-- ---- what is asked of a side

some_rule : {colour : ℕ} → Border (Some colour) ≡ Border None → ⊥
some_rule e = cc

no_edge : {c k : ℕ} {rule : Option ℕ} → Edge c k rule ≡ Border None → ⊥
no_edge e = cc

-- what stands at the place of a side tells what is asked of it
pub asked_there : (p : Task) (q : Prefix) (table : List ℕ) → IsPuzzle p → AreAsking p q table → (cell side place : ℕ) → IsAskedAt p cell side place → (place < length table) × TellsOf (IsAsked p q cell side) (get_or table place 0)
asked_there p q table puzzle is cell side place there = by_side there.0 there.1 there.2
  where
    Told : ℕ → Type 0
    Told n = (n < length table) × TellsOf (IsAsked p q cell side) (get_or table n 0)

    by_side : (x : Side) → place ≡ place_asked x → ((side_count p.board ≤ side) × (x ≡ Border None)) ⊎ ((side < side_count p.board) × IsSide p cell side x) → Told place
    by_side (Border None) at of =
        let here = is.own MOST_COLOURS (omega arith) in
        let long = is.long in
        subst Told (sym at)
        (omega (arith, long), inl (here, λ colour asked. ⊎_elim (λ o. outside_asks p q cell side colour o.0 asked) (λ o. ⊎_elim (λ rule. none_some ((o.1.1 colour).1 rule)) (λ w. o.1.0.meets_nothing w.0 w.1 w.3) asked) of))
    by_side (Border (Some colour)) at of =
        ⊎_elim
        (λ o. absurd (some_rule o.1))
        (λ o.
        let few = rule_below p cell side (Some colour) puzzle (λ c. (o.1.1 c).0) in
        let here = is.own colour (omega (arith, few)) in
        let long = is.long in
        subst Told (sym at) (
          omega (arith, long, few),
          subst (TellsOf (IsAsked p q cell side)) (sym here)
              (inr (inl (few, inl ((o.1.1 colour).0 refl), λ other asked. ⊎_elim (λ rule. inside ((o.1.1 other).1 rule)) (λ w. absurd (o.1.0.meets_nothing w.0 w.1 w.3)) asked))),
        ))
        of
    by_side (Edge c k rule) at of =
        ⊎_elim
        (λ o. absurd (no_edge o.1))
        (λ o.
        let c_in = StandsAt-in_range o.1.0.there in
        let k_in = side_in_range (Meets-turned o.1.0) in
        let long = is.long in
        subst Told (sym at) (
          omega (arith, c_in, k_in, long, few_sides p.board),
          tells_alike (IsAskedFrom p q cell side c k) (IsAsked p q cell side) (get_or table (FIRST_PLACE + 4 * c + k) 0)
              (λ colour asked. ⊎_elim (λ r. inl r) (λ w. inr (c, k, w.0, o.1.0, w.1, w.2)) asked)
              (λ colour asked.
              ⊎_elim
              (λ r. inl r)
              (λ w.
              let same = o.1.1 w.0 w.1 w.3 in
              inr (w.2, subst (λ n. Has q n w.2) same.0 w.4, ap (λ n. mate_of p (colour_of p w.2 n)) (sym same.1) ∙ w.5))
              asked)
              (is.met cell side c k o.1.0),
        ))
        of
