-- Sides that meet.
use Rattle.std.proofs.Common.{◌≡◌, ◌<◌, ◌+◌, ◌*◌, ◌/◌, ◌%◌, ◌==◌, ℕ, zero, suc, Option, Some, None, cond, arith, sym, subst, inl, inr, ⊎_elim}
use Rattle.std.proofs.lemmas.Bool.{cond-true, cond-false}
use Rattle.std.proofs.lemmas.Bool.Decides.{eqb_tells}
use Rattle.match_board.specs.Board.{LiesAgainst, Meets}
use Rattle.match_board.specs.declared.figures.Figure.{Figure}
use Rattle.match_board.specs.declared.figures.Figure.TheVariants.{Rectangle, Triangle, Hexagon, Shape}
use Rattle.match_board.proofs.Places.{met_place, one_place, one_number, Meets-turned}
use Rattle.match_puzzle.proofs.ArrangementLemmas.{side_in_range}
use Rattle.match_puzzle.proofs.Words.{few_sides}

-- What lies against a side is one place and side.
abbrev AreOne : (r q k r' q' k' : ℕ) → Type 0
AreOne r q k r' q' k' = (r ≡ r') × (q ≡ q') × (k ≡ k')

one_in_triangles : (size row place side r q k r' q' k' : ℕ) → LiesAgainst (Triangle size) row place side r q k → LiesAgainst (Triangle size) row place side r' q' k' → AreOne r q k r' q' k'
one_in_triangles size row place side r q k r' q' k' (inl (inl b)) h = (grind arith, grind arith, grind arith)
one_in_triangles size row place side r q k r' q' k' (inl (inr (inl b))) h = (grind arith, grind arith, grind arith)
one_in_triangles size row place side r q k r' q' k' (inl (inr (inr b))) h = (grind arith, grind arith, grind arith)
one_in_triangles size row place side r q k r' q' k' (inr (inl b)) h = (grind arith, grind arith, grind arith)
one_in_triangles size row place side r q k r' q' k' (inr (inr (inl b))) h = (grind arith, grind arith, grind arith)
one_in_triangles size row place side r q k r' q' k' (inr (inr (inr b))) h = (grind arith, grind arith, grind arith)

one_in_hexagons : (size row place side r q k r' q' k' : ℕ) → LiesAgainst (Hexagon size) row place side r q k → LiesAgainst (Hexagon size) row place side r' q' k' → AreOne r q k r' q' k'
one_in_hexagons size row place side r q k r' q' k' (inl (inl b)) h = (grind arith, grind arith, grind arith)
one_in_hexagons size row place side r q k r' q' k' (inl (inr (inl b))) h = (grind arith, grind arith, grind arith)
one_in_hexagons size row place side r q k r' q' k' (inl (inr (inr b))) h = (grind arith, grind arith, grind arith)
one_in_hexagons size row place side r q k r' q' k' (inr (inl b)) h = (grind arith, grind arith, grind arith)
one_in_hexagons size row place side r q k r' q' k' (inr (inr (inl b))) h = (grind arith, grind arith, grind arith)
one_in_hexagons size row place side r q k r' q' k' (inr (inr (inr b))) h = (grind arith, grind arith, grind arith)

-- one side lies against one other at most
one_against : (s : Figure) (row place side r q k r' q' k' : ℕ) → LiesAgainst s row place side r q k → LiesAgainst s row place side r' q' k' → AreOne r q k r' q' k'
one_against (Rectangle width height) row place side r q k r' q' k' h h' = (grind arith, grind arith, grind arith)
one_against (Triangle size) row place side r q k r' q' k' h h' = one_in_triangles size row place side r q k r' q' k' h h'
one_against (Hexagon size) row place side r q k r' q' k' h h' = one_in_hexagons size row place side r q k r' q' k' h h'
one_against (Shape width height mask) row place side r q k r' q' k' h h' = (grind arith, grind arith, grind arith)

-- a side meets one other at most
pub one_met : {s : Figure} {cell side c k c' k' : ℕ} → Meets s cell side c k → Meets s cell side c' k' → (c ≡ c') × (k ≡ k')
one_met {s} {cell} {side} {c} {k} {c'} {k'} m m' =
    let there = met_place m' m.here in
    let same = one_against s m.row m.place side m.row' m.place' k there.0 there.1 k' m.against there.3 in
    (one_number m.there there.2 same.0 same.1, same.2)

-- no side lies against itself
not_against : (s : Figure) (row place side r q k : ℕ) → r ≡ row → q ≡ place → LiesAgainst s row place side r q k → ⊥
not_against (Rectangle width height) row place side r q k e f h = grind arith
not_against (Triangle size) row place side r q k e f h = grind arith
not_against (Hexagon size) row place side r q k e f h = grind arith
not_against (Shape width height mask) row place side r q k e f h = grind arith

-- no cell meets itself
pub not_itself : {s : Figure} {cell side k : ℕ} → Meets s cell side cell k → ⊥
not_itself {s} {cell} {side} {k} m =
    let same = one_place m.there m.here in
    not_against s m.row m.place side m.row' m.place' k same.0 same.1 m.against

-- ---- sides by number, four to a cell

-- the sides with these numbers meet
abbrev pub MeetNumbered : Figure → (n m : ℕ) → Type 0
MeetNumbered s n m = Meets s (n / 4) (n % 4) (m / 4) (m % 4)

-- What is said of a side, what it meets or that it meets nothing, is so.
abbrev pub TellsOf : Figure → (n : ℕ) → Option ℕ → Type 0
TellsOf s n None = (c k : ℕ) → Meets s (n / 4) (n % 4) c k → ⊥
TellsOf s n (Some m) = MeetNumbered s n m

-- Of the first so many sides it is said what they meet.
abbrev pub TellsUpTo : Figure → (count : ℕ) → (ℕ → Option ℕ) → Type 0
TellsUpTo s count partner = (n : ℕ) → n < count → TellsOf s n (partner n)

-- the number of a side
pub of_number : (c k : ℕ) → k < 4 → ((4 * c + k) / 4 ≡ c) × ((4 * c + k) % 4 ≡ k)
of_number c k lt = (omega arith, omega arith)

one_number_more : (s : Figure) (count : ℕ) (partner : ℕ → Option ℕ) (met : Option ℕ) → TellsUpTo s count partner → TellsOf s count met → TellsUpTo s (suc count) (λ n. cond (n == count) met (partner n))
one_number_more s count partner met tells is n lt =
    ⊎_elim
    (λ same. subst (TellsOf s n) (sym (cond-true (n == count) met (partner n) same.0)) (subst (λ i. TellsOf s i met) (sym same.1) is))
    (λ other. subst (TellsOf s n) (sym (cond-false (n == count) met (partner n) other.0)) (tells n (below other.1)))
    (eqb_tells n count)
  where
    below : (n ≡ count → ⊥) → n < count
    below other = grind arith

-- It isn't so that nothing says of each side what it meets.
pub some_partner : (s : Figure) (count : ℕ) → ((partner : ℕ → Option ℕ) → TellsUpTo s count partner → ⊥) → ⊥
some_partner s zero never = never (λ n. None) (λ n lt. absurd (omega arith))
some_partner s (suc count) never = some_partner s count (λ partner tells. by_side partner tells (λ met is. never (λ n. cond (n == count) met (partner n)) (one_number_more s count partner met tells is)))
  where
    by_side : (partner : ℕ → Option ℕ) → TellsUpTo s count partner → ((met : Option ℕ) → TellsOf s count met → ⊥) → ⊥
    by_side partner tells neither = neither None (λ c k m.
        let small : k < 4 = omega (arith, side_in_range (Meets-turned m), few_sides s) in
        let at = of_number c k small in
        neither (Some (4 * c + k)) (subst (λ i. Meets s (count / 4) (count % 4) i ((4 * c + k) % 4)) (sym at.0) (subst (λ i. Meets s (count / 4) (count % 4) c i) (sym at.1) m)))
