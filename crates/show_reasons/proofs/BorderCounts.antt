-- How often the border asks for a colour.
use Rattle.std.proofs.Common.{◌≡◌, ◌<◌, ◌≤◌, ◌+◌, ◌*◌, ◌/◌, ◌%◌, ◌==◌, ℕ, zero, suc, Bool, true, false, List, [], ◌∷◌, Option, Some, None, cond, length, get_or, slice_get, IsTrue, MatchBool, refl, ap, sym, ◌∙◌, subst, inl, arith, eq-eqb}
use Rattle.std.proofs.lemmas.Bool.{eqb-true, cond-true, false≢true}
use Rattle.std.proofs.lemmas.Option.{slice_get_within}
use Rattle.match_limits.specs.Listing.{ComesBefore}
use Rattle.match_limits.proofs.OptionLemmas.{inside, none_some, same_pair}
use Rattle.match_limits.proofs.ListLemmas.{place_of, contains_at, member_at}
use Rattle.match_limits.proofs.Listings.{same_listing, comes_before_asymmetric}
use Rattle.match_board.specs.Board.{cell_count, IsBorderPair, IsBorderOrder}
use Rattle.match_board.specs.Borders.{Asks, BorderRule, free, one, each, IsAsLongAsBorder}
use Rattle.match_puzzle.specs.Arrangement.{IsArrangement}
use Rattle.match_puzzle.specs.Puzzle.{Task, IsPuzzle, HasRule}
use Rattle.match_puzzle.specs.declared.placements.Placement.{Placement}
use Rattle.match_puzzle.proofs.TableLemmas.{in_empty_table, one_place_in_order}
use Rattle.match_puzzle.proofs.Words.{few_sides}
use Rattle.show_text.specs.Facts.{border_count, is_colour, is_rule}
use Rattle.show_reasons.specs.Reasons.{AsksEverywhere}
use Rattle.show_reasons.proofs.Totals.{total, total_list, carried}
use Rattle.show_reasons.proofs.CountLemmas.{at, shows, shows_one, stands_at}
use Rattle.show_reasons.proofs.MeetLemmas.{of_number}

-- 1 for an outer side of which the rule asks for the colour, by its number in border order, and 0 for another
abbrev pub asks_one : BorderRule → (colour number : ℕ) → ℕ
asks_one free colour number = 0
asks_one (one asked) colour number = cond (is_colour colour asked) 1 0
asks_one (each rules) colour number = cond (is_rule colour (get_or rules number None)) 1 0

pub asks_few : (rule : BorderRule) (colour number : ℕ) → asks_one rule colour number ≤ 1
asks_few free colour number = omega arith
asks_few (one asked) colour number = by_test (is_colour colour asked)
  where
    by_test : (b : Bool) → cond b 1 0 ≤ 1
    by_test true = omega arith
    by_test false = omega arith
asks_few (each rules) colour number = by_test (is_rule colour (get_or rules number None))
  where
    by_test : (b : Bool) → cond b 1 0 ≤ 1
    by_test true = omega arith
    by_test false = omega arith

total_none : (count : ℕ) → total (λ n. 0) count ≡ 0
total_none zero = refl
total_none (suc count) = omega (arith, total_none count)

total_ones : (count : ℕ) → total (λ n. 1) count ≡ count
total_ones zero = refl
total_ones (suc count) = omega (arith, total_ones count)

-- there is one border order
pub one_order : (p : Task) (pairs other : List (ℕ × ℕ)) → IsBorderOrder p.board pairs → IsBorderOrder p.board other → pairs ≡ other
one_order p pairs other a b = same_listing ComesBefore comes_before_asymmetric (λ n. IsBorderPair p.board n.0 n.1) pairs other a b

-- the rule asks for a colour as often as it is counted
pub asked_often : (p : Task) (outer : List (ℕ × ℕ)) (colour : ℕ) → IsPuzzle p → IsBorderOrder p.board outer → total (asks_one p.border colour) (length outer) ≡ border_count p.border (length outer) colour
asked_often p outer colour puzzle border = by_rule p.border puzzle.border
  where
    by_test : (b : Bool) → total (λ n. cond b 1 0) (length outer) ≡ cond b (length outer) 0
    by_test true = total_ones (length outer)
    by_test false = total_none (length outer)

    by_rule : (rule : BorderRule) → IsAsLongAsBorder p.board rule → total (asks_one rule colour) (length outer) ≡ border_count rule (length outer) colour
    by_rule free long = total_none (length outer)
    by_rule (one asked) long = by_test (is_colour colour asked)
    by_rule (each rules) long =
        let same : length outer ≡ length rules = ap length (one_order p outer long.0 border long.1) ∙ sym long.2 in
        ap (total (asks_one (each rules) colour)) same ∙ total_list (λ rule. cond (is_rule colour rule) 1 0) rules None

-- a rule of a list that is counted asks for the colour
rule_at : (colour : ℕ) (rules : List (Option ℕ)) (number : ℕ) → 0 < asks_one (each rules) colour number → slice_get rules number ≡ Some (Some colour)
rule_at colour [] number some = absurd (omega (arith, some))
rule_at colour (None ∷ rules) zero some = absurd (omega (arith, some))
rule_at colour (Some asked ∷ rules) zero some = by_test (asked == colour) refl some
  where
    by_test : (b : Bool) → (asked == colour) ≡ b → 0 < cond b 1 0 → slice_get (Some asked ∷ rules) zero ≡ Some (Some colour)
    by_test true e lt = ap (λ (c : ℕ). let o : Option (Option ℕ) = Some (Some c) in o) (eqb-true asked colour e)
    by_test false e lt = absurd (omega (arith, lt))
rule_at colour (rule ∷ rules) (suc number) some = rule_at colour rules number some

rule_counts : (colour : ℕ) (rules : List (Option ℕ)) (number : ℕ) → slice_get rules number ≡ Some (Some colour) → asks_one (each rules) colour number ≡ 1
rule_counts colour [] number is = absurd (in_none is)
  where
    in_none : slice_get [] number ≡ Some (Some colour) → ⊥
    in_none e = in_empty_table number (Some colour) e
rule_counts colour (rule ∷ rules) zero is = let same : rule ≡ Some colour = inside is in ap (λ r. cond {A = ℕ} (is_rule colour r) 1 0) same ∙ cond-true (colour == colour) 1 0 (eq-eqb colour colour refl)
rule_counts colour (rule ∷ rules) (suc number) is = rule_counts colour rules number is

-- an outer side, and the colour that the border asks of it
pub record HasBorderRule (p : Task) (cell side colour : ℕ) : Type 0 where
  pub border_pair : IsBorderPair p.board cell side
  pub asked : Asks p.board p.border cell side colour

-- it is a rule of the puzzle
pub of_border : (p : Task) (cell side colour : ℕ) → HasBorderRule p cell side colour → HasRule p cell side colour
of_border p cell side colour rule =
    record { cell_in = rule.border_pair.cell_in; side_in = rule.border_pair.side_in; asked = inl (rule.border_pair, rule.asked) }

module _ (p : Task) (outer : List (ℕ × ℕ)) (colour : ℕ) (border : IsBorderOrder p.board outer) where
  -- an outer side of which the rule asks for the colour has that rule
  asks_tells : (number cell side : ℕ) → slice_get outer number ≡ Some (cell, side) → 0 < asks_one p.border colour number → HasBorderRule p cell side colour
  asks_tells number cell side listed some = record { border_pair = border.only (cell, side) (contains_at outer number (cell, side) listed); asked = by_rule p.border some }
    where
      by_rule : (rule : BorderRule) → 0 < asks_one rule colour number → Asks p.board rule cell side colour
      by_rule free lt = absurd (omega (arith, lt))
      by_rule (one asked) lt = by_test (asked == colour) refl lt
        where
          by_test : (b : Bool) → (asked == colour) ≡ b → 0 < cond b 1 0 → colour ≡ asked
          by_test true e lt = sym (eqb-true asked colour e)
          by_test false e lt = absurd (omega (arith, lt))
      by_rule (each rules) lt = (outer, border, number, listed, rule_at colour rules number lt)

  -- and a side of which the border asks for it is counted
  pub asks_counts : (number cell side : ℕ) → slice_get outer number ≡ Some (cell, side) → Asks p.board p.border cell side colour → asks_one p.border colour number ≡ 1
  asks_counts number cell side listed asks = by_rule p.border asks
    where
      by_rule : (rule : BorderRule) → Asks p.board rule cell side colour → asks_one rule colour number ≡ 1
      by_rule free asked = absurd asked
      by_rule (one c) asked = cond-true (c == colour) 1 0 (eq-eqb c colour (sym asked))
      by_rule (each rules) (pairs, order, n, there, ruled) =
          let same = one_order p pairs outer order border in
          let place : n ≡ number = one_place_in_order (λ n. IsBorderPair p.board n.0 n.1) outer n number (cell, side) border (subst (λ ps. slice_get ps n ≡ Some (cell, side)) same there) listed in
          rule_counts colour rules number (subst (λ k. slice_get rules k ≡ Some (Some colour)) place ruled)

  module _ (a : List Placement) (puzzle : IsPuzzle p) (is : IsArrangement p a) where
    -- the number of a listed side
    abbrev pub IsOf : (number n : ℕ) → Type 0
    IsOf number n = slice_get outer number ≡ Some (n / 4, n % 4)

    -- the outer side with this number, what the border asks of it, and its own number
    pub record IsAsked (number : ℕ) : Type 0 where
      pub n : ℕ
      pub n_in : n < 4 * cell_count p.board
      pub is_of : IsOf number n
      pub rule : HasBorderRule p (n / 4) (n % 4) colour
      pub shown : shows p a colour n ≡ 1

    pub is_asked : (number : ℕ) → number < length outer → 0 < asks_one p.border colour number → IsAsked number
    is_asked number lt some =
        let listed = member_at outer number lt in
        let rule = asks_tells number listed.0.0 listed.0.1 listed.1 some in
        let small : listed.0.1 < 4 = omega (arith, rule.border_pair.side_in, few_sides p.board) in
        let at_number = of_number listed.0.0 listed.0.1 small in
        let rule' : HasBorderRule p ((4 * listed.0.0 + listed.0.1) / 4) ((4 * listed.0.0 + listed.0.1) % 4) colour =
        subst (λ c. HasBorderRule p c ((4 * listed.0.0 + listed.0.1) % 4) colour) (sym at_number.0) (subst (λ k. HasBorderRule p listed.0.0 k colour) (sym at_number.1) rule) in
        record {
          n = 4 * listed.0.0 + listed.0.1;
          n_in = omega (arith, rule.border_pair.cell_in, small);
          is_of = listed.1 ∙ sym (same_pair at_number.0 at_number.1);
          rule = rule';
          shown = shows_one p a colour (4 * listed.0.0 + listed.0.1) rule'.border_pair.side_in
              (is.border ((4 * listed.0.0 + listed.0.1) / 4) ((4 * listed.0.0 + listed.0.1) % 4) colour (at p a ((4 * listed.0.0 + listed.0.1) / 4)) (stands_at p a puzzle is _ rule'.border_pair.cell_in) (of_border p _ _ colour rule'));
        }

    -- a side of the board has one number in border order
    pub one_number_of : (number number' n : ℕ) → IsOf number n → IsOf number' n → number ≡ number'
    one_number_of number number' n r r' = one_place_in_order (λ n. IsBorderPair p.board n.0 n.1) outer number number' (n / 4, n % 4) border r r'

    -- and no two sides have one
    pub one_side_of : (n n' number : ℕ) → IsOf number n → IsOf number n' → n ≡ n'
    one_side_of n n' number r r' = let e = inside (sym r ∙ r') in omega (arith, ap (λ (x : ℕ × ℕ). x.0) e, ap (λ (x : ℕ × ℕ). x.1) e)

    -- The border asks for no colour more often than it is shown.
    pub asked_few : total (asks_one p.border colour) (length outer) ≤ total (shows p a colour) (4 * cell_count p.board)
    asked_few =
        carried (asks_one p.border colour) (shows p a colour) (length outer) (4 * cell_count p.board) IsOf
        (λ number lt some. let w = is_asked number lt some in (w.n, w.n_in, w.is_of, omega (arith, w.shown, asks_few p.border colour number)))
        one_number_of

-- ---- whether the border asks each outer side for a colour

module _ (p : Task) (puzzle : IsPuzzle p) (outer : List (ℕ × ℕ)) (border : IsBorderOrder p.board outer) where
  pub everywhere_free : p.border ≡ free → (length outer ≡ 0 → AsksEverywhere p) × (AsksEverywhere p → length outer ≡ 0)
  everywhere_free e = (
    λ none cell side pair. let c = border.all (cell, side) pair in absurd (omega (arith, none, c.1)),
    λ all. by_pairs outer border all,
  )
    where
      asks_none : (cell side colour : ℕ) → Asks p.board p.border cell side colour → ⊥
      asks_none cell side colour asks = subst (λ r. Asks p.board r cell side colour) e asks

      by_pairs : (pairs : List (ℕ × ℕ)) → IsBorderOrder p.board pairs → AsksEverywhere p → length pairs ≡ 0
      by_pairs [] order all = refl
      by_pairs (pair ∷ pairs) order all = let rule = all pair.0 pair.1 (order.only pair (0, omega arith, refl)) in absurd (asks_none pair.0 pair.1 rule.0 rule.1)

  pub everywhere_one : (asked : ℕ) → p.border ≡ one asked → AsksEverywhere p
  everywhere_one asked e = λ cell side pair. (asked, subst (λ r. Asks p.board r cell side asked) (sym e) refl)

  -- where a list of rules has one at each place
  pub everywhere_each : (rules : List (Option ℕ)) → p.border ≡ each rules → ((place : ℕ) → slice_get rules place ≡ Some None → ⊥) → AsksEverywhere p
  everywhere_each rules e full = λ cell side pair.
      let listed = place_of outer (cell, side) (border.all (cell, side) pair) in
      let within = slice_get_within outer listed.0 (cell, side) listed.1 in
      let rule = member_at rules listed.0 (let lt : listed.0 < length rules = omega (arith, within, long) in lt) in
      by_rule cell side pair listed.0 listed.1 rule.0 rule.1
    where
      as_long : IsAsLongAsBorder p.board (each rules)
      as_long = subst (IsAsLongAsBorder p.board) e puzzle.border

      long : length rules ≡ length outer
      long = as_long.2 ∙ ap length (one_order p as_long.0 outer as_long.1 border)

      by_rule : (cell side : ℕ) → IsBorderPair p.board cell side → (number : ℕ) → slice_get outer number ≡ Some (cell, side) → (rule : Option ℕ) → slice_get rules number ≡ Some rule → (colour : ℕ) × Asks p.board p.border cell side colour
      by_rule cell side pair number listed None there = absurd (full number there)
      by_rule cell side pair number listed (Some colour) there =
          (colour, subst (λ r. Asks p.board r cell side colour) (sym e) (outer, border, number, listed, there))

  -- and where it has none at a place
  pub nowhere_each : (rules : List (Option ℕ)) → p.border ≡ each rules → (place : ℕ) → slice_get rules place ≡ Some None → AsksEverywhere p → ⊥
  nowhere_each rules e place none all =
      let within = slice_get_within rules place None none in
      let listed = member_at outer place (let lt : place < length outer = omega (arith, within, long) in lt) in
      let pair = border.only listed.0 (contains_at outer place listed.0 listed.1) in
      let rule = all listed.0.0 listed.0.1 pair in
      let asked : Asks p.board (each rules) listed.0.0 listed.0.1 rule.0 = subst (λ r. Asks p.board r listed.0.0 listed.0.1 rule.0) e rule.1 in
      let order = one_order p asked.0 outer asked.1 border in
      let same : asked.2 ≡ place = one_place_in_order (λ n. IsBorderPair p.board n.0 n.1) outer asked.2 place listed.0 border (subst (λ ps. slice_get ps asked.2 ≡ Some listed.0) order asked.3) listed.1 in
      let there : slice_get rules place ≡ Some (Some rule.0) = subst (λ n. slice_get rules n ≡ Some (Some rule.0)) same asked.4 in
      none_some (inside (sym none ∙ there))
    where
      as_long : IsAsLongAsBorder p.board (each rules)
      as_long = subst (IsAsLongAsBorder p.board) e puzzle.border

      long : length rules ≡ length outer
      long = as_long.2 ∙ ap length (one_order p as_long.0 outer as_long.1 border)

-- what a test tells, either way
pub by_match : {P Q A : Type 0} (b : Bool) → MatchBool b P Q → (P → A) → (Q → A → ⊥) → (IsTrue b → A) × (A → IsTrue b)
by_match true h holds other = (λ t. holds h, λ a. refl)
by_match false h holds other = (λ t. absurd (false≢true t), λ a. absurd (other h a))
