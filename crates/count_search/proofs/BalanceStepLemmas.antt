-- How the numbers of a balance change, one side after the other.
use Rattle.std.proofs.Common.{◌≡◌, ◌<◌, ◌≤◌, ◌+◌, ◌==◌, ℕ, zero, suc, Bool, List, length, get_or, set, sym, ap, ◌∙◌, arith, ⊎_elim, eq-eqb, get_or-set_same, get_or-set_other}
use Rattle.std.proofs.lemmas.Bool.{ne_eqb}
use Rattle.std.proofs.lemmas.Bool.Decides.{eqb_tells}
use Rattle.match_limits.specs.declared.TheConstants.{MOST_COLOURS}
use Rattle.count_search.specs.Balance.{place_of, surplus}
use Rattle.count_search.proofs.TotalSums.{one_if}

-- One number is greater by one, and the others are the same.
pub record IsOneMore (place : ℕ) (low high : List ℕ) : Type 0 where
  pub more : get_or high place 0 ≡ get_or low place 0 + 1
  pub others : (n : ℕ) → (n ≡ place → ⊥) → get_or high n 0 ≡ get_or low n 0

pub one_more_set : (xs : List ℕ) (n : ℕ) → n < length xs → IsOneMore n xs (set xs n (get_or xs n 0 + 1))
one_more_set xs n lt = record { more = get_or-set_same xs n (get_or xs n 0 + 1) 0 lt; others = λ m other. get_or-set_other xs n m (get_or xs n 0 + 1) 0 other }

-- by how much a number is greater
delta : (place : ℕ) (low high : List ℕ) → IsOneMore place low high → (n : ℕ) → get_or high n 0 ≡ get_or low n 0 + one_if (n == place)
delta place low high more n =
    ⊎_elim
    (λ same.
    let one = ap one_if same.0 in
    let here = ap (λ m. get_or high m 0) same.1 in
    let there = ap (λ m. get_or low m 0) same.1 in
    omega (arith, one, here, there, more.more))
    (λ other.
    let none = ap one_if other.0 in
    let kept = more.others n other.1 in
    omega (arith, none, kept))
    (eqb_tells n place)

-- ---- sides with colours

-- What the first so many sides give is counted. What a side gives is counted in the row that `row` names for it.
abbrev pub Adds : (row : ℕ → ℕ) (gives : ℕ → ℕ → Bool) (sides : ℕ) (before after : List ℕ) → Type 0
Adds row gives sides before after = (s k : ℕ) → s < 4 → k < MOST_COLOURS
    → (row s < sides → get_or after (place_of s k) 0 ≡ get_or before (place_of s k) 0 + one_if (gives (row s) k))
    × (sides ≤ row s → get_or after (place_of s k) 0 ≡ get_or before (place_of s k) 0)

-- where each side has its own row, and the next one gives this colour
module _ (gives : ℕ → ℕ → Bool) (side : ℕ) (before after : List ℕ) (adds : Adds (λ s. s) gives side before after) (colour : ℕ) (colour_few : colour < MOST_COLOURS) (one : (k : ℕ) → gives side k ≡ (colour == k)) where
  -- what is greater by one is so just where the side and its colour are counted
  at_its_row : (s k : ℕ) → k < MOST_COLOURS → s ≡ side → one_if (place_of s k == place_of side colour) ≡ one_if (gives s k)
  at_its_row s k few same =
      ap one_if
      (⊎_elim
      (λ is. eq-eqb (place_of s k) (place_of side colour) (omega (arith, same, is.1)) ∙ sym is.0)
      (λ other. ne_eqb (place_of s k) (place_of side colour) (λ e. other.1 (omega (arith, same, e))) ∙ sym other.0)
      (eqb_tells colour k) ∙ sym (one k) ∙ ap (λ r. gives r k) (sym same))

  at_other_rows : (s k : ℕ) → k < MOST_COLOURS → (s ≡ side → ⊥) → one_if (place_of s k == place_of side colour) ≡ 0
  at_other_rows s k few other = ap one_if (ne_eqb (place_of s k) (place_of side colour) (λ e. other (omega (arith, e, few, colour_few))))

  pub adds_one : (after' : List ℕ) → IsOneMore (place_of side colour) after after' → Adds (λ s. s) gives (side + 1) before after'
  adds_one after' more s k lt few =
      let more_here = delta (place_of side colour) after after' more (place_of s k) in
      ⊎_elim
      (λ same.
      let its = at_its_row s k few same.1 in
      let old = (adds s k lt few).1 (omega (arith, same.1)) in
      (λ less. omega (arith, more_here, its, old), λ le. absurd (omega (arith, le, same.1))))
      (λ other.
      let none = at_other_rows s k few other.1 in (
        λ less. let old = (adds s k lt few).0 (omega (arith, less, other.1)) in omega (arith, more_here, none, old),
        λ le. let old = (adds s k lt few).1 (omega (arith, le)) in omega (arith, more_here, none, old),
      ))
      (eqb_tells s side)

-- ---- free sides

-- Of the first so many sides those that are outer ones are free before, and not after.
abbrev pub Fills : (outer : ℕ → Bool) (sides : ℕ) (before after : List ℕ) → Type 0
Fills outer sides before after = (s : ℕ) → s < 4
    → (s < sides → get_or before s 0 ≡ get_or after s 0 + one_if (outer s)) × (sides ≤ s → get_or before s 0 ≡ get_or after s 0)

-- ---- surplus

pub surplus_le : (sides : List ℕ) (side count most : ℕ) → count ≤ most → surplus sides side count ≤ surplus sides side most
surplus_le sides side count zero le = omega (arith, ap (surplus sides side) (zero_is count le))
  where
    zero_is : (n : ℕ) → n ≤ 0 → n ≡ 0
    zero_is n le = omega (arith, le)
surplus_le sides side count (suc most) le =
    ⊎_elim
    (λ same. omega (arith, ap (surplus sides side) same.1))
    (λ other. let rest = surplus_le sides side count most (omega (arith, le, other.1)) in omega (arith, rest))
    (eqb_tells count (suc most))
