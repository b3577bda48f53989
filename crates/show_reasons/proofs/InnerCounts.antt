-- How often an arrangement shows a colour on inner sides.
use Rattle.std.proofs.Common.{◌≡◌, ◌<◌, ◌≤◌, ◌+◌, ◌*◌, ◌/◌, ◌%◌, ℕ, List, Option, Some, None, Bool, true, false, cond, ltb, length, refl, ap, sym, ◌∙◌, subst, arith}
use Rattle.std.proofs.lemmas.Bool.{ltb-true}
use Rattle.match_limits.proofs.ListLemmas.{place_of}
use Rattle.std.proofs.lemmas.Option.{slice_get_within}
use Rattle.match_board.specs.Board.{cell_count, IsBorderPair, IsBorderOrder, Meets}
use Rattle.match_board.specs.Borders.{Asks}
use Rattle.match_board.proofs.Places.{Meets-turned, StandsAt-in_range}
use Rattle.match_puzzle.specs.Arrangement.{IsArrangement}
use Rattle.match_puzzle.specs.Puzzle.{Task, IsPuzzle, colour_of, mate_of}
use Rattle.match_puzzle.specs.declared.placements.Placement.{Placement}
use Rattle.match_puzzle.proofs.ArrangementLemmas.{side_in_range}
use Rattle.match_puzzle.proofs.TogetherLemmas.{together_turned}
use Rattle.show_text.specs.Facts.{border_count, tile_count}
use Rattle.show_reasons.specs.Reasons.{AsksEverywhere, FillsInside}
use Rattle.show_reasons.proofs.Totals.{total, total_both, carried, Goes}
use Rattle.show_reasons.proofs.CountLemmas.{at, shows, shows_tells, shows_one, shows_few, stands_at, shown_often}
use Rattle.show_reasons.proofs.BorderCounts.{HasBorderRule, of_border, asks_one, asks_few, asked_often, asks_counts, IsOf, is_asked, one_number_of, one_side_of}
use Rattle.show_reasons.proofs.MeetLemmas.{MeetNumbered, TellsOf, TellsUpTo, one_met, not_itself}

-- the weight of a side that meets nothing, or none
abbrev outside : Option ℕ → (weight : ℕ) → ℕ
outside None weight = weight
outside (Some m) weight = 0

-- the weight of a side that meets one, or none
abbrev inner : Option ℕ → (weight : ℕ) → ℕ
inner None weight = 0
inner (Some m) weight = weight

-- the weight of a side that meets a greater one, or none
abbrev lesser : (n : ℕ) → Option ℕ → (weight : ℕ) → ℕ
lesser n None weight = 0
lesser n (Some m) weight = cond (ltb n m) weight 0

-- the weight of a side that meets one that isn't greater, or none
abbrev greater : (n : ℕ) → Option ℕ → (weight : ℕ) → ℕ
greater n None weight = 0
greater n (Some m) weight = cond (ltb n m) 0 weight

outside_or_inner : (met : Option ℕ) (weight : ℕ) → weight ≡ outside met weight + inner met weight
outside_or_inner None weight = omega arith
outside_or_inner (Some m) weight = omega arith

lesser_or_greater : (n : ℕ) (met : Option ℕ) (weight : ℕ) → inner met weight ≡ lesser n met weight + greater n met weight
lesser_or_greater n None weight = omega arith
lesser_or_greater n (Some m) weight = by_test (ltb n m)
  where
    by_test : (b : Bool) → weight ≡ cond b weight 0 + cond b 0 weight
    by_test true = omega arith
    by_test false = omega arith

-- what a weight tells of the two sides
is_less : (n m weight : ℕ) → 0 < cond (ltb n m) weight 0 → (n < m) × (0 < weight) × (cond (ltb n m) weight 0 ≡ weight)
is_less n m weight some = by_test (ltb n m) refl some
  where
    by_test : (b : Bool) → ltb n m ≡ b → 0 < cond b weight 0 → (n < m) × (0 < weight) × (cond b weight 0 ≡ weight)
    by_test true e lt = (ltb-true n m e, lt, refl)
    by_test false e lt = absurd (omega (arith, lt))

is_not_less : (n m weight : ℕ) → 0 < cond (ltb n m) 0 weight → (m ≤ n) × (0 < weight) × (cond (ltb n m) 0 weight ≡ weight)
is_not_less n m weight some = by_test (ltb n m) refl some
  where
    at_most : ltb n m ≡ false → m ≤ n
    at_most e = grind arith

    by_test : (b : Bool) → ltb n m ≡ b → 0 < cond b 0 weight → (m ≤ n) × (0 < weight) × (cond b 0 weight ≡ weight)
    by_test true e lt = absurd (omega (arith, lt))
    by_test false e lt = (at_most e, lt, refl)

no_less : (m n weight : ℕ) → n < m → cond (ltb m n) 0 weight ≡ weight
no_less m n weight lt = grind arith

less_than : (m n weight : ℕ) → m ≤ n → (m ≡ n → ⊥) → cond (ltb m n) weight 0 ≡ weight
less_than m n weight le other = grind arith

module _ (p : Task) (a : List Placement) (puzzle : IsPuzzle p) (is : IsArrangement p a) (partner : ℕ → Option ℕ) (tells : TellsUpTo p.board (4 * cell_count p.board) partner) where
  abbrev sides : ℕ
  sides = 4 * cell_count p.board

  -- ---- outer sides

  outer_tells : (n : ℕ) → n < sides → IsBorderPair p.board (n / 4) (n % 4) → partner n ≡ None
  outer_tells n lt pair = by_partner (partner n) refl (tells n lt)
    where
      by_partner : (met : Option ℕ) → partner n ≡ met → TellsOf p.board n met → partner n ≡ None
      by_partner None e told = e
      by_partner (Some m) e told = absurd (pair.meets_nothing (m / 4) (m % 4) told)

  module _ (outer : List (ℕ × ℕ)) (border : IsBorderOrder p.board outer) (colour : ℕ) where
    asked_outside : total (asks_one p.border colour) (length outer) ≤ total (λ n. outside (partner n) (shows p a colour n)) sides
    asked_outside =
        carried (asks_one p.border colour) (λ n. outside (partner n) (shows p a colour n)) (length outer) sides (IsOf p outer colour border a puzzle is)
        (λ number lt some.
        let w = is_asked p outer colour border a puzzle is number lt some in
        let none = outer_tells w.n w.n_in w.rule.border_pair in
        let here = ap (λ met. outside met (shows p a colour w.n)) none in
        (w.n, w.n_in, w.is_of, omega (arith, here, w.shown, asks_few p.border colour number)))
        (one_number_of p outer colour border a puzzle is)

    outside_asked : AsksEverywhere p → total (λ n. outside (partner n) (shows p a colour n)) sides ≤ total (asks_one p.border colour) (length outer)
    outside_asked everywhere =
        carried (λ n. outside (partner n) (shows p a colour n)) (asks_one p.border colour) sides (length outer) (λ n number. IsOf p outer colour border a puzzle is number n)
        (λ n lt some. by_partner n lt (partner n) refl (tells n lt) some)
        (λ n n' number r r'. one_side_of p outer colour border a puzzle is n n' number r r')
      where
        by_pair : (n : ℕ) → IsBorderPair p.board (n / 4) (n % 4) → colour_of p (at p a (n / 4)) (n % 4) ≡ colour → Goes (shows p a colour) (asks_one p.border colour) (λ n number. IsOf p outer colour border a puzzle is number n) (length outer) n
        by_pair n pair shown =
            let listed = place_of outer (n / 4, n % 4) (border.all (n / 4, n % 4) pair) in
            let rule = everywhere (n / 4) (n % 4) pair in
            let has : HasBorderRule p (n / 4) (n % 4) rule.0 = record { border_pair = pair; asked = rule.1 } in
            let same : rule.0 ≡ colour = sym (is.border (n / 4) (n % 4) rule.0 (at p a (n / 4)) (stands_at p a puzzle is (n / 4) pair.cell_in) (of_border p _ _ rule.0 has)) ∙ shown in
            let one = asks_counts p outer colour border listed.0 (n / 4) (n % 4) listed.1 (subst (Asks p.board p.border (n / 4) (n % 4)) same rule.1) in
            (listed.0, slice_get_within outer listed.0 (n / 4, n % 4) listed.1, listed.1, omega (arith, one, shows_few p a colour n))

        by_partner : (n : ℕ) → n < sides → (met : Option ℕ) → partner n ≡ met → TellsOf p.board n met → 0 < outside (partner n) (shows p a colour n) →
            Goes (λ n. outside (partner n) (shows p a colour n)) (asks_one p.border colour) (λ n number. IsOf p outer colour border a puzzle is number n) (length outer) n
        by_partner n lt None e told some =
            let same = ap (λ met. outside met (shows p a colour n)) e in
            let shown = shows_tells p a colour n (omega (arith, same, some)) in
            let pair : IsBorderPair p.board (n / 4) (n % 4) = record { cell_in = omega (arith, lt); side_in = shown.0; meets_nothing = told } in
            let to = by_pair n pair shown.1 in
            (to.0, to.1, to.2, omega (arith, same, to.3))
        by_partner n lt (Some m) e told some =
            let same = ap (λ met. outside met (shows p a colour n)) e in
            absurd (omega (arith, same, some))

    -- Where each tile has to stand and the border asks each outer side for a colour, what is left is on inner sides.
    pub left_inside : FillsInside p → tile_count p.words colour ≡ border_count p.border (length outer) colour + total (λ n. inner (partner n) (shows p a colour n)) sides
    left_inside fills =
        let all = shown_often p a puzzle is fills.0 colour in
        let both = total_both (shows p a colour) (λ n. outside (partner n) (shows p a colour n)) (λ n. inner (partner n) (shows p a colour n)) sides (λ n. outside_or_inner (partner n) (shows p a colour n)) in
        let asked = asked_often p outer colour puzzle border in
        omega (arith, all, both, asked, asked_outside, outside_asked fills.1)

  -- ---- inner sides

  -- sides that meet: the second shows the mate of what the first shows, and meets the first
  record IsMet (colour n m : ℕ) : Type 0 where
    m_in : m < sides
    back : partner m ≡ Some n
    shown : shows p a (mate_of p colour) m ≡ 1

  is_met : (colour n m : ℕ) → n < sides → MeetNumbered p.board n m → 0 < shows p a colour n → IsMet colour n m
  is_met colour n m lt meet some = record {
    m_in = in_range;
    back = by_partner (partner m) refl (tells m in_range);
    shown = shows_one p a (mate_of p colour) m (side_in_range turned)
        (together_turned p puzzle _ _ (is.edges (n / 4) (n % 4) (m / 4) (m % 4) (at p a (n / 4)) (at p a (m / 4)) meet (stands_at p a puzzle is (n / 4) (StandsAt-in_range meet.here)) (stands_at p a puzzle is (m / 4) (StandsAt-in_range meet.there)))
        ∙ ap (mate_of p) (shows_tells p a colour n some).1);
  }
    where
      turned : MeetNumbered p.board m n
      turned = Meets-turned meet

      in_range : m < sides
      in_range = let there = StandsAt-in_range meet.there in omega (arith, there)

      by_partner : (met : Option ℕ) → partner m ≡ met → TellsOf p.board m met → partner m ≡ Some n
      by_partner None e told = absurd (told (n / 4) (n % 4) turned)
      by_partner (Some k) e told = let same = one_met told turned in e ∙ ap Some (let is_n : k ≡ n = omega (arith, same.0, same.1) in is_n)

  one_partner : (n n' m : ℕ) → MeetNumbered p.board n m → MeetNumbered p.board n' m → n ≡ n'
  one_partner n n' m r r' = let same = one_met (Meets-turned r) (Meets-turned r') in omega (arith, same.0, same.1)

  -- A colour is on no more inner sides than its mate.
  inner_le : (colour : ℕ) → total (λ n. inner (partner n) (shows p a colour n)) sides ≤ total (λ n. inner (partner n) (shows p a (mate_of p colour) n)) sides
  inner_le colour =
      carried (λ n. inner (partner n) (shows p a colour n)) (λ n. inner (partner n) (shows p a (mate_of p colour) n)) sides sides (MeetNumbered p.board)
      (λ n lt some. by_partner n lt (partner n) refl (tells n lt) some)
      one_partner
    where
      by_partner : (n : ℕ) → n < sides → (met : Option ℕ) → partner n ≡ met → TellsOf p.board n met → 0 < inner (partner n) (shows p a colour n) →
          Goes (λ n. inner (partner n) (shows p a colour n)) (λ n. inner (partner n) (shows p a (mate_of p colour) n)) (MeetNumbered p.board) sides n
      by_partner n lt None e told some = let same = ap (λ met. inner met (shows p a colour n)) e in absurd (omega (arith, same, some))
      by_partner n lt (Some m) e told some =
          let same = ap (λ met. inner met (shows p a colour n)) e in
          let w = is_met colour n m lt told (omega (arith, same, some)) in
          let there = ap (λ met. inner met (shows p a (mate_of p colour) m)) w.back in
          (m, w.m_in, told, omega (arith, same, there, w.shown, shows_few p a colour n))

  -- A colour that is its own mate is on as many sides that meet a greater one as on others.
  lesser_le : (colour : ℕ) → mate_of p colour ≡ colour → total (λ n. lesser n (partner n) (shows p a colour n)) sides ≤ total (λ n. greater n (partner n) (shows p a colour n)) sides
  lesser_le colour own =
      carried (λ n. lesser n (partner n) (shows p a colour n)) (λ n. greater n (partner n) (shows p a colour n)) sides sides (MeetNumbered p.board)
      (λ n lt some. by_partner n lt (partner n) refl (tells n lt) some)
      one_partner
    where
      by_partner : (n : ℕ) → n < sides → (met : Option ℕ) → partner n ≡ met → TellsOf p.board n met → 0 < lesser n (partner n) (shows p a colour n) →
          Goes (λ n. lesser n (partner n) (shows p a colour n)) (λ n. greater n (partner n) (shows p a colour n)) (MeetNumbered p.board) sides n
      by_partner n lt None e told some = let same = ap (λ met. lesser n met (shows p a colour n)) e in absurd (omega (arith, same, some))
      by_partner n lt (Some m) e told some =
          let same = ap (λ met. lesser n met (shows p a colour n)) e in
          let less = is_less n m (shows p a colour n) (omega (arith, same, some)) in
          let w = is_met colour n m lt told less.1 in
          let there = ap (λ met. greater m met (shows p a colour m)) w.back ∙ no_less m n (shows p a colour m) less.0 in
          let shown = ap (λ c. shows p a c m) own in
          (m, w.m_in, told, omega (arith, same, there, shown, w.shown, shows_few p a colour n, less.2))

  greater_le : (colour : ℕ) → mate_of p colour ≡ colour → total (λ n. greater n (partner n) (shows p a colour n)) sides ≤ total (λ n. lesser n (partner n) (shows p a colour n)) sides
  greater_le colour own =
      carried (λ n. greater n (partner n) (shows p a colour n)) (λ n. lesser n (partner n) (shows p a colour n)) sides sides (MeetNumbered p.board)
      (λ n lt some. by_partner n lt (partner n) refl (tells n lt) some)
      one_partner
    where
      by_partner : (n : ℕ) → n < sides → (met : Option ℕ) → partner n ≡ met → TellsOf p.board n met → 0 < greater n (partner n) (shows p a colour n) →
          Goes (λ n. greater n (partner n) (shows p a colour n)) (λ n. lesser n (partner n) (shows p a colour n)) (MeetNumbered p.board) sides n
      by_partner n lt None e told some = let same = ap (λ met. greater n met (shows p a colour n)) e in absurd (omega (arith, same, some))
      by_partner n lt (Some m) e told some =
          let same = ap (λ met. greater n met (shows p a colour n)) e in
          let not_less = is_not_less n m (shows p a colour n) (omega (arith, same, some)) in
          let other : (m ≡ n → ⊥) = λ e'. not_itself (subst (λ k. Meets p.board (n / 4) (n % 4) (k / 4) (k % 4)) e' told) in
          let w = is_met colour n m lt told not_less.1 in
          let there = ap (λ met. lesser m met (shows p a colour m)) w.back ∙ less_than m n (shows p a colour m) not_less.0 other in
          let shown = ap (λ c. shows p a c m) own in
          (m, w.m_in, told, omega (arith, same, there, shown, w.shown, shows_few p a colour n, not_less.2))

  pub inner_mates : (colour : ℕ) → mate_of p (mate_of p colour) ≡ colour → total (λ n. inner (partner n) (shows p a colour n)) sides ≡ total (λ n. inner (partner n) (shows p a (mate_of p colour) n)) sides
  inner_mates colour back =
      let le = inner_le colour in
      let ge = inner_le (mate_of p colour) in
      let same = ap (λ c. total (λ n. inner (partner n) (shows p a c n)) sides) back in
      omega (arith, le, ge, same)

  pub inner_even : (colour : ℕ) → mate_of p colour ≡ colour → total (λ n. inner (partner n) (shows p a colour n)) sides ≡ 2 * total (λ n. lesser n (partner n) (shows p a colour n)) sides
  inner_even colour own =
      let both = total_both (λ n. inner (partner n) (shows p a colour n)) (λ n. lesser n (partner n) (shows p a colour n)) (λ n. greater n (partner n) (shows p a colour n)) sides (λ n. lesser_or_greater n (partner n) (shows p a colour n)) in
      omega (arith, both, lesser_le colour own, greater_le colour own)
