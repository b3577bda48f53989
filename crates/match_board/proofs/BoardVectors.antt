-- Small boards and words, worked out.
use Rattle.std.proofs.Common.{◌≡◌, ◌<◌, ◌≤◌, ℕ, zero, suc, [], ◌∷◌, arith, refl, inl, inr}
use Rattle.std.proofs.lemmas.Bool.{cases_lt}
use Rattle.match_board.specs.Board.{cell_count, StandsAt, Meets, IsBorderPair}
use Rattle.match_board.specs.declared.figures.Figure.TheVariants.{Rectangle, Triangle, Hexagon}
use Rattle.match_board.specs.Turns.{shown, IsSameAfter, IsPeriod}
use Rattle.match_board.proofs.Places.{met_place}

hexagon_of_6 : cell_count (Hexagon 1) ≡ 6
hexagon_of_6 = refl

hexagon_of_24 : cell_count (Hexagon 2) ≡ 24
hexagon_of_24 = refl

hexagon_of_96 : cell_count (Hexagon 4) ≡ 96
hexagon_of_96 = refl

hexagon_of_150 : cell_count (Hexagon 5) ≡ 150
hexagon_of_150 = refl

triangle_of_100 : cell_count (Triangle 10) ≡ 100
triangle_of_100 = refl

-- The hexagon of side 2 has rows of 5, 7, 7 and 5 cells.
hexagon_2_met_0_1 : Meets (Hexagon 2) 0 1 6 1
hexagon_2_met_0_1 = record {
  row = 0;
  place = 0;
  row' = 1;
  place' = 1;
  here = record { row_in = omega arith; place_in = omega arith; filled = tt; number = refl };
  there = record { row_in = omega arith; place_in = omega arith; filled = tt; number = refl };
  against = inl (inr (inr (inl (omega arith, refl), refl, refl, refl, inl (omega arith, refl))));
}

hexagon_2_met_5_1 : Meets (Hexagon 2) 5 1 12 1
hexagon_2_met_5_1 = record {
  row = 1;
  place = 0;
  row' = 2;
  place' = 0;
  here = record { row_in = omega arith; place_in = omega arith; filled = tt; number = refl };
  there = record { row_in = omega arith; place_in = omega arith; filled = tt; number = refl };
  against = inl (inr (inr (inl (omega arith, refl), refl, refl, refl, inr (inl (refl, refl)))));
}

hexagon_2_met_13_1 : Meets (Hexagon 2) 13 1 19 1
hexagon_2_met_13_1 = record {
  row = 2;
  place = 1;
  row' = 3;
  place' = 0;
  here = record { row_in = omega arith; place_in = omega arith; filled = tt; number = refl };
  there = record { row_in = omega arith; place_in = omega arith; filled = tt; number = refl };
  against = inl (inr (inr (inr (omega arith, refl), refl, refl, refl, inr (inr (omega arith, refl)))));
}

hexagon_2_border_0_2 : IsBorderPair (Hexagon 2) 0 2
hexagon_2_border_0_2 = record {
  cell_in = omega arith;
  side_in = omega arith;
  meets_nothing = λ cell' side' meets.
      let at : StandsAt (Hexagon 2) 0 0 0 = record { row_in = omega arith; place_in = omega arith; filled = tt; number = refl } in
      let to = met_place meets at in
      grind (arith, to.3);
}

hexagon_2_border_1_1 : IsBorderPair (Hexagon 2) 1 1
hexagon_2_border_1_1 = record {
  cell_in = omega arith;
  side_in = omega arith;
  meets_nothing = λ cell' side' meets.
      let at : StandsAt (Hexagon 2) 1 0 1 = record { row_in = omega arith; place_in = omega arith; filled = tt; number = refl } in
      let to = met_place meets at in
      grind (arith, to.3);
}

-- The hexagon of side 1: twelve sides meet, and six are border pairs.
hexagon_1_met_0_0 : Meets (Hexagon 1) 0 0 1 0
hexagon_1_met_0_0 = record {
  row = 0;
  place = 0;
  row' = 0;
  place' = 1;
  here = record { row_in = omega arith; place_in = omega arith; filled = tt; number = refl };
  there = record { row_in = omega arith; place_in = omega arith; filled = tt; number = refl };
  against = inl (inl (inl (omega arith, refl), refl, refl, refl, refl));
}

hexagon_1_met_1_2 : Meets (Hexagon 1) 1 2 2 2
hexagon_1_met_1_2 = record {
  row = 0;
  place = 1;
  row' = 0;
  place' = 2;
  here = record { row_in = omega arith; place_in = omega arith; filled = tt; number = refl };
  there = record { row_in = omega arith; place_in = omega arith; filled = tt; number = refl };
  against = inl (inr (inl (inl (omega arith, refl), refl, refl, refl, refl)));
}

hexagon_1_met_0_1 : Meets (Hexagon 1) 0 1 3 1
hexagon_1_met_0_1 = record {
  row = 0;
  place = 0;
  row' = 1;
  place' = 0;
  here = record { row_in = omega arith; place_in = omega arith; filled = tt; number = refl };
  there = record { row_in = omega arith; place_in = omega arith; filled = tt; number = refl };
  against = inl (inr (inr (inl (omega arith, refl), refl, refl, refl, inr (inl (refl, refl)))));
}

hexagon_1_met_2_1 : Meets (Hexagon 1) 2 1 5 1
hexagon_1_met_2_1 = record {
  row = 0;
  place = 2;
  row' = 1;
  place' = 2;
  here = record { row_in = omega arith; place_in = omega arith; filled = tt; number = refl };
  there = record { row_in = omega arith; place_in = omega arith; filled = tt; number = refl };
  against = inl (inr (inr (inl (omega arith, refl), refl, refl, refl, inr (inl (refl, refl)))));
}

hexagon_1_met_3_2 : Meets (Hexagon 1) 3 2 4 2
hexagon_1_met_3_2 = record {
  row = 1;
  place = 0;
  row' = 1;
  place' = 1;
  here = record { row_in = omega arith; place_in = omega arith; filled = tt; number = refl };
  there = record { row_in = omega arith; place_in = omega arith; filled = tt; number = refl };
  against = inl (inr (inl (inr (omega arith, refl), refl, refl, refl, refl)));
}

hexagon_1_met_4_0 : Meets (Hexagon 1) 4 0 5 0
hexagon_1_met_4_0 = record {
  row = 1;
  place = 1;
  row' = 1;
  place' = 2;
  here = record { row_in = omega arith; place_in = omega arith; filled = tt; number = refl };
  there = record { row_in = omega arith; place_in = omega arith; filled = tt; number = refl };
  against = inl (inl (inr (omega arith, refl), refl, refl, refl, refl));
}

hexagon_1_border_0_2 : IsBorderPair (Hexagon 1) 0 2
hexagon_1_border_0_2 = record {
  cell_in = omega arith;
  side_in = omega arith;
  meets_nothing = λ cell' side' meets.
      let at : StandsAt (Hexagon 1) 0 0 0 = record { row_in = omega arith; place_in = omega arith; filled = tt; number = refl } in
      let to = met_place meets at in
      grind (arith, to.3);
}

hexagon_1_border_1_1 : IsBorderPair (Hexagon 1) 1 1
hexagon_1_border_1_1 = record {
  cell_in = omega arith;
  side_in = omega arith;
  meets_nothing = λ cell' side' meets.
      let at : StandsAt (Hexagon 1) 1 0 1 = record { row_in = omega arith; place_in = omega arith; filled = tt; number = refl } in
      let to = met_place meets at in
      grind (arith, to.3);
}

hexagon_1_border_2_0 : IsBorderPair (Hexagon 1) 2 0
hexagon_1_border_2_0 = record {
  cell_in = omega arith;
  side_in = omega arith;
  meets_nothing = λ cell' side' meets.
      let at : StandsAt (Hexagon 1) 2 0 2 = record { row_in = omega arith; place_in = omega arith; filled = tt; number = refl } in
      let to = met_place meets at in
      grind (arith, to.3);
}

hexagon_1_border_3_0 : IsBorderPair (Hexagon 1) 3 0
hexagon_1_border_3_0 = record {
  cell_in = omega arith;
  side_in = omega arith;
  meets_nothing = λ cell' side' meets.
      let at : StandsAt (Hexagon 1) 3 1 0 = record { row_in = omega arith; place_in = omega arith; filled = tt; number = refl } in
      let to = met_place meets at in
      grind (arith, to.3);
}

hexagon_1_border_4_1 : IsBorderPair (Hexagon 1) 4 1
hexagon_1_border_4_1 = record {
  cell_in = omega arith;
  side_in = omega arith;
  meets_nothing = λ cell' side' meets.
      let at : StandsAt (Hexagon 1) 4 1 1 = record { row_in = omega arith; place_in = omega arith; filled = tt; number = refl } in
      let to = met_place meets at in
      grind (arith, to.3);
}

hexagon_1_border_5_2 : IsBorderPair (Hexagon 1) 5 2
hexagon_1_border_5_2 = record {
  cell_in = omega arith;
  side_in = omega arith;
  meets_nothing = λ cell' side' meets.
      let at : StandsAt (Hexagon 1) 5 1 2 = record { row_in = omega arith; place_in = omega arith; filled = tt; number = refl } in
      let to = met_place meets at in
      grind (arith, to.3);
}

-- The triangle of side 2: the cell in the middle points down.
triangle_2_met_2_0 : Meets (Triangle 2) 2 0 1 0
triangle_2_met_2_0 = record {
  row = 1;
  place = 1;
  row' = 1;
  place' = 0;
  here = record { row_in = omega arith; place_in = omega arith; filled = tt; number = refl };
  there = record { row_in = omega arith; place_in = omega arith; filled = tt; number = refl };
  against = inr (inl (refl, refl, refl, refl, refl));
}

triangle_2_met_2_1 : Meets (Triangle 2) 2 1 0 1
triangle_2_met_2_1 = record {
  row = 1;
  place = 1;
  row' = 0;
  place' = 0;
  here = record { row_in = omega arith; place_in = omega arith; filled = tt; number = refl };
  there = record { row_in = omega arith; place_in = omega arith; filled = tt; number = refl };
  against = inr (inr (inr (refl, refl, refl, refl, refl)));
}

triangle_2_met_2_2 : Meets (Triangle 2) 2 2 3 2
triangle_2_met_2_2 = record {
  row = 1;
  place = 1;
  row' = 1;
  place' = 2;
  here = record { row_in = omega arith; place_in = omega arith; filled = tt; number = refl };
  there = record { row_in = omega arith; place_in = omega arith; filled = tt; number = refl };
  against = inl (inr (inl (refl, refl, refl, refl, refl)));
}

-- The rectangle of two columns and two rows.
rectangle_2_2_met_0_1 : Meets (Rectangle 2 2) 0 1 1 3
rectangle_2_2_met_0_1 = record {
  row = 0;
  place = 0;
  row' = 0;
  place' = 1;
  here = record { row_in = omega arith; place_in = omega arith; filled = tt; number = refl };
  there = record { row_in = omega arith; place_in = omega arith; filled = tt; number = refl };
  against = inl (inl (refl, refl, refl, refl));
}

rectangle_2_2_met_0_2 : Meets (Rectangle 2 2) 0 2 2 0
rectangle_2_2_met_0_2 = record {
  row = 0;
  place = 0;
  row' = 1;
  place' = 0;
  here = record { row_in = omega arith; place_in = omega arith; filled = tt; number = refl };
  there = record { row_in = omega arith; place_in = omega arith; filled = tt; number = refl };
  against = inl (inr (refl, refl, refl, refl));
}

-- each number below three, or below four, at its turn
below_three : (P : ℕ → Type 0) → P 0 → P 1 → P 2 → (k : ℕ) → k < 3 → P k
below_three P a b c zero lt = a
below_three P a b c (suc zero) lt = b
below_three P a b c (suc (suc zero)) lt = c
below_three P a b c (suc (suc (suc k))) lt = absurd (omega (arith, lt))

below_four : (P : ℕ → Type 0) → P 0 → P 1 → P 2 → P 3 → (k : ℕ) → k < 4 → P k
below_four P a b c d zero lt = a
below_four P a b c d (suc zero) lt = b
below_four P a b c d (suc (suc zero)) lt = c
below_four P a b c d (suc (suc (suc zero))) lt = d
below_four P a b c d (suc (suc (suc (suc k)))) lt = absurd (omega (arith, lt))

period_of_aaaa : IsPeriod (0 ∷ 0 ∷ 0 ∷ 0 ∷ []) 1
unfolding IsSameAfter shown
period_of_aaaa = record {
  some = omega arith;
  same = λ side lt. below_four (λ k. shown (0 ∷ 0 ∷ 0 ∷ 0 ∷ []) 1 k ≡ shown (0 ∷ 0 ∷ 0 ∷ 0 ∷ []) 0 k) refl refl refl refl side lt;
  least = λ fewer some same. elim (cases_lt fewer 4) [
    | inl lt ↦ below_four (λ k. 1 ≤ k → IsSameAfter (0 ∷ 0 ∷ 0 ∷ 0 ∷ []) k → 1 ≤ k)
        (λ some same. absurd (omega (arith, some)))
        (λ some same. omega arith)
        (λ some same. omega arith)
        (λ some same. omega arith)
        fewer lt some same
    | inr le ↦ omega (arith, le)
  ];
}

period_of_abab : IsPeriod (0 ∷ 1 ∷ 0 ∷ 1 ∷ []) 2
unfolding IsSameAfter shown
period_of_abab = record {
  some = omega arith;
  same = λ side lt. below_four (λ k. shown (0 ∷ 1 ∷ 0 ∷ 1 ∷ []) 2 k ≡ shown (0 ∷ 1 ∷ 0 ∷ 1 ∷ []) 0 k) refl refl refl refl side lt;
  least = λ fewer some same. elim (cases_lt fewer 4) [
    | inl lt ↦ below_four (λ k. 1 ≤ k → IsSameAfter (0 ∷ 1 ∷ 0 ∷ 1 ∷ []) k → 2 ≤ k)
        (λ some same. absurd (omega (arith, some)))
        (λ some same. absurd (let differs : 1 ≡ 0 = same 0 (omega arith) in omega (arith, differs)))
        (λ some same. omega arith)
        (λ some same. omega arith)
        fewer lt some same
    | inr le ↦ omega (arith, le)
  ];
}

period_of_abcd : IsPeriod (0 ∷ 1 ∷ 2 ∷ 3 ∷ []) 4
unfolding IsSameAfter shown
period_of_abcd = record {
  some = omega arith;
  same = λ side lt. below_four (λ k. shown (0 ∷ 1 ∷ 2 ∷ 3 ∷ []) 4 k ≡ shown (0 ∷ 1 ∷ 2 ∷ 3 ∷ []) 0 k) refl refl refl refl side lt;
  least = λ fewer some same. elim (cases_lt fewer 4) [
    | inl lt ↦ below_four (λ k. 1 ≤ k → IsSameAfter (0 ∷ 1 ∷ 2 ∷ 3 ∷ []) k → 4 ≤ k)
        (λ some same. absurd (omega (arith, some)))
        (λ some same. absurd (let differs : 1 ≡ 0 = same 0 (omega arith) in omega (arith, differs)))
        (λ some same. absurd (let differs : 2 ≡ 0 = same 0 (omega arith) in omega (arith, differs)))
        (λ some same. absurd (let differs : 3 ≡ 0 = same 0 (omega arith) in omega (arith, differs)))
        fewer lt some same
    | inr le ↦ omega (arith, le)
  ];
}

period_of_aab : IsPeriod (0 ∷ 0 ∷ 1 ∷ []) 3
unfolding IsSameAfter shown
period_of_aab = record {
  some = omega arith;
  same = λ side lt. below_three (λ k. shown (0 ∷ 0 ∷ 1 ∷ []) 3 k ≡ shown (0 ∷ 0 ∷ 1 ∷ []) 0 k) refl refl refl side lt;
  least = λ fewer some same. elim (cases_lt fewer 3) [
    | inl lt ↦ below_three (λ k. 1 ≤ k → IsSameAfter (0 ∷ 0 ∷ 1 ∷ []) k → 3 ≤ k)
        (λ some same. absurd (omega (arith, some)))
        (λ some same. absurd (let differs : 1 ≡ 0 = same 1 (omega arith) in omega (arith, differs)))
        (λ some same. absurd (let differs : 1 ≡ 0 = same 0 (omega arith) in omega (arith, differs)))
        fewer lt some same
    | inr le ↦ omega (arith, le)
  ];
}
