-- How many numbers of a set are of a tile, four to a tile.
use Rattle.std.proofs.Common.{◌≡◌, ◌≢◌, ◌<◌, ◌+◌, ◌*◌, ◌/◌, ◌%◌, ◌==◌, ℕ, zero, suc, Bool, cond, List, [], ◌∷◌, Contains, length, get_or, count_ones, arith, refl, ap, subst, ⊎_elim}
use Rattle.std.specs.Int.{bit_at}
use Rattle.std.proofs.lemmas.Bool.Decides.{eqb_tells}
use Rattle.std.proofs.lemmas.Nat.Bits.{bit_at-lt as bit_at_lt}
use lib.Count.{ones, ones_step}
use Rattle.match_limits.proofs.Listings.{contains_none, in_front}
use Rattle.match_limits.specs.NumberSets.{IsGroup}
use Rattle.match_limits.specs.NumberSets.{count_of_group}
use Rattle.match_limits.proofs.NumberSetLemmas.{behind, rising_asymmetric}

-- one where a test is true
abbrev pub one_if : Bool → ℕ
one_if b = cond b 1 0

pub one_if_same : (m n : ℕ) → m ≡ n → one_if (m == n) ≡ 1
one_if_same m n e = ⊎_elim (λ same. ap one_if same.0) (λ other. absurd (other.1 e)) (eqb_tells m n)

pub none_if_other : (m n : ℕ) → m ≢ n → one_if (m == n) ≡ 0
none_if_other m n ne = ⊎_elim (λ same. absurd (ne same.1)) (λ other. ap one_if other.0) (eqb_tells m n)

-- ---- none

in_first : (x : ℕ) (xs : List ℕ) (n : ℕ) → x ≡ n → Contains (x ∷ xs) n
in_first x xs n e = (0, omega arith, e)

-- ---- how often one number occurs

abbrev count_of : List ℕ → (number : ℕ) → ℕ
count_of [] number = 0
count_of (x ∷ xs) number = count_of xs number + one_if (x == number)

not_counted : (xs : List ℕ) (n : ℕ) → (Contains xs n → ⊥) → count_of xs n ≡ 0
not_counted [] n none = refl
not_counted (x ∷ xs) n none =
    let rest = not_counted xs n (λ c. none (behind x xs n c)) in
    let here = none_if_other x n (λ e. none (in_first x xs n e)) in
    omega (arith, rest, here)

abbrev pub IsRising : List ℕ → Type 0
IsRising xs = (i j d : ℕ) → i < j → j < length xs → get_or xs i d < get_or xs j d

not_again : (x : ℕ) (xs : List ℕ) (n : ℕ) → IsRising (x ∷ xs) → x ≡ n → Contains xs n → ⊥
not_again x xs n rises e c =
    let first = rises 0 (suc c.0) n (omega arith) (omega (arith, c.1)) in
    let at = c.2 in
    omega (arith, first, at, e)

counted : (xs : List ℕ) (n : ℕ) → IsRising xs → Contains xs n → count_of xs n ≡ 1
counted [] n rises c = absurd (contains_none n c)
counted (x ∷ xs) n rises c =
    ⊎_elim
    (λ same.
    let e = same.1 in
    let rest = not_counted xs n (not_again x xs n rises e) in
    let here = one_if_same x n e in
    omega (arith, rest, here))
    (λ other.
    let ne = other.1 in
    let rest = counted xs n (λ i j d lt in_range. rises (suc i) (suc j) d (omega arith) (omega (arith, in_range))) (⊎_elim (λ e. absurd (ne e)) (λ later. later) (in_front ◌<◌ rising_asymmetric x xs n c)) in
    let here = none_if_other x n ne in
    omega (arith, rest, here))
    (eqb_tells x n)

-- ---- the four numbers of a tile

-- one number is of the tile just if it is one of four
one_of_four : (x tile : ℕ) → one_if (x / 4 == tile) ≡ one_if (x == 4 * tile) + one_if (x == 4 * tile + 1) + one_if (x == 4 * tile + 2) + one_if (x == 4 * tile + 3)
one_of_four x tile =
    ⊎_elim
    (λ same. by_turn (x % 4) (omega arith) (let e = same.1 in omega (arith, e)))
    (λ other.
    let ne = other.1 in
    let none = none_if_other (x / 4) tile ne in
    let a = none_if_other x (4 * tile) (λ e. ne (omega (arith, e))) in
    let b = none_if_other x (4 * tile + 1) (λ e. ne (omega (arith, e))) in
    let c = none_if_other x (4 * tile + 2) (λ e. ne (omega (arith, e))) in
    let d = none_if_other x (4 * tile + 3) (λ e. ne (omega (arith, e))) in
    omega (arith, none, a, b, c, d))
    (eqb_tells (x / 4) tile)
  where
    by_turn : (turn : ℕ) → turn < 4 → x ≡ 4 * tile + turn → one_if (x / 4 == tile) ≡ one_if (x == 4 * tile) + one_if (x == 4 * tile + 1) + one_if (x == 4 * tile + 2) + one_if (x == 4 * tile + 3)
    by_turn zero lt e =
        let one = one_if_same (x / 4) tile (omega (arith, e)) in
        let a = one_if_same x (4 * tile) (omega (arith, e)) in
        let b = none_if_other x (4 * tile + 1) (λ f. omega (arith, e, f)) in
        let c = none_if_other x (4 * tile + 2) (λ f. omega (arith, e, f)) in
        let d = none_if_other x (4 * tile + 3) (λ f. omega (arith, e, f)) in
        omega (arith, one, a, b, c, d)
    by_turn (suc zero) lt e =
        let one = one_if_same (x / 4) tile (omega (arith, e)) in
        let a = none_if_other x (4 * tile) (λ f. omega (arith, e, f)) in
        let b = one_if_same x (4 * tile + 1) (omega (arith, e)) in
        let c = none_if_other x (4 * tile + 2) (λ f. omega (arith, e, f)) in
        let d = none_if_other x (4 * tile + 3) (λ f. omega (arith, e, f)) in
        omega (arith, one, a, b, c, d)
    by_turn (suc (suc zero)) lt e =
        let one = one_if_same (x / 4) tile (omega (arith, e)) in
        let a = none_if_other x (4 * tile) (λ f. omega (arith, e, f)) in
        let b = none_if_other x (4 * tile + 1) (λ f. omega (arith, e, f)) in
        let c = one_if_same x (4 * tile + 2) (omega (arith, e)) in
        let d = none_if_other x (4 * tile + 3) (λ f. omega (arith, e, f)) in
        omega (arith, one, a, b, c, d)
    by_turn (suc (suc (suc zero))) lt e =
        let one = one_if_same (x / 4) tile (omega (arith, e)) in
        let a = none_if_other x (4 * tile) (λ f. omega (arith, e, f)) in
        let b = none_if_other x (4 * tile + 1) (λ f. omega (arith, e, f)) in
        let c = none_if_other x (4 * tile + 2) (λ f. omega (arith, e, f)) in
        let d = one_if_same x (4 * tile + 3) (omega (arith, e)) in
        omega (arith, one, a, b, c, d)
    by_turn (suc (suc (suc (suc turn)))) lt e = absurd (omega (arith, lt))

four_counts : (xs : List ℕ) (tile : ℕ) → count_of_group xs tile ≡ count_of xs (4 * tile) + count_of xs (4 * tile + 1) + count_of xs (4 * tile + 2) + count_of xs (4 * tile + 3)
four_counts [] tile = refl
four_counts (x ∷ xs) tile =
    let rest = four_counts xs tile in
    let here = one_of_four x tile in
    omega (arith, rest, here)

-- the ones of a number below 16
ones_of_four : (digits : ℕ) → digits < 16 → count_ones digits ≡ bit_at digits 0 + bit_at digits 1 + bit_at digits 2 + bit_at digits 3
unfolding ones
ones_of_four digits few =
    let a = ones_step digits in
    let b = ones_step (digits / 2) in
    let c = ones_step (digits / 2 / 2) in
    let d = ones_step (digits / 2 / 2 / 2) in
    let none : digits / 2 / 2 / 2 / 2 ≡ 0 = omega arith in
    let e = ap ones none in
    omega (arith, a, b, c, d, e)

-- As many numbers are of a tile as there are ones among the digits of its group.
pub ones_of_group : (numbers : List ℕ) (tile digits : ℕ) → IsRising numbers → digits < 16 → IsGroup numbers tile digits → count_ones digits ≡ count_of_group numbers tile
ones_of_group numbers tile digits rises few group =
    let all = ones_of_four digits few in
    let each = four_counts numbers tile in
    let first : 4 * tile + 0 ≡ 4 * tile = omega arith in
    let a = subst (λ n. count_of numbers n ≡ bit_at digits 0) first (digit 0 (omega arith)) in
    let b = digit 1 (omega arith) in
    let c = digit 2 (omega arith) in
    let d = digit 3 (omega arith) in
    omega (arith, all, each, a, b, c, d)
  where
    digit : (turn : ℕ) → turn < 4 → count_of numbers (4 * tile + turn) ≡ bit_at digits turn
    digit turn lt =
        ⊎_elim
        (λ e.
        let one = e.1 in
        let there = counted numbers (4 * tile + turn) rises ((group turn lt).0 one) in
        omega (arith, one, there))
        (λ ne.
        let other = ne.1 in
        let small = bit_at_lt digits turn in
        let nowhere = not_counted numbers (4 * tile + turn) (λ c. other ((group turn lt).1 c)) in
        omega (arith, other, small, nowhere))
        (eqb_tells (bit_at digits turn) 1)
