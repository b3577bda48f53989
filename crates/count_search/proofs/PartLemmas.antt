-- Branches that are dealt to parts.
use Rattle.std.proofs.Common.{◌≡◌, ◌<◌, ◌≤◌, ◌+◌, ◌-◌, ◌++◌, ◌∷◌, ◌∙◌, [], ℕ, zero, suc, List, Some, Contains, drop, get_or, length, length-append, slice_get, sum, arith, refl, ap, sym, subst, ⊎_elim}
use Rattle.std.proofs.lemmas.List.{drop-drop, drop_all, drop_more}
use Rattle.std.proofs.lemmas.List.Sums.{sum_by-cons, sum_by-append}
use Rattle.match_limits.proofs.ListLemmas.{contains_cons, contains_none, pushed_place}
use Rattle.xcc_form.specs.Options.{Compiled}
use Rattle.count_search.specs.Branches.{WeightedBranch, HaveTogether, AllChoose, every}

module _ {X : Type 0} (step : ℕ) where
  every_behind : (passed : ℕ) (xs : List X) → every step passed xs ≡ every step 0 (drop passed xs)
  every_behind zero [] = refl
  every_behind (suc passed) [] = refl
  every_behind zero (x ∷ xs) = refl
  every_behind (suc passed) (x ∷ xs) = every_behind passed xs

  -- what is dealt stands behind the elements that are passed over
  pub every_begins : (passed : ℕ) (xs : List X) → every step 0 (drop passed xs) ≡ every step passed xs
  every_begins passed xs = sym (every_behind passed xs)

  -- the next element is dealt, and then one of every so many behind it
  pub every_from : (next : ℕ) (xs : List X) (x : X) → 0 < step → next < length xs → get_or xs next x ≡ x → every step 0 (drop next xs) ≡ x ∷ every step 0 (drop (next + step) xs)
  every_from next xs x some lt is =
      let behind : (next + 1) + (step - 1) ≡ next + step = omega arith in
      ap (every step 0) (drop_more xs next x lt)
      ∙ ap (λ (y : X). y ∷ every step (step - 1) (drop (next + 1) xs)) is
      ∙ ap (λ (ys : List X). x ∷ ys) (every_behind (step - 1) (drop (next + 1) xs) ∙ ap (every step 0) (drop-drop (step - 1) (next + 1) xs ∙ ap (λ (n : ℕ). drop n xs) behind))

  -- behind the last nothing is dealt
  pub every_ends : (next : ℕ) (xs : List X) → length xs ≤ next → every step 0 (drop next xs) ≡ []
  every_ends next xs past = ap (every step 0) (drop_all next xs past)

contains_first : {X : Type 0} (y : X) (xs : List X) (x : X) → y ≡ x → Contains (y ∷ xs) x
contains_first y xs x e = (0, omega arith, e)

contains_later : {X : Type 0} (y : X) (xs : List X) (x : X) → Contains xs x → Contains (y ∷ xs) x
contains_later y xs x c = let lt = c.1 in (suc c.0, omega (arith, lt), c.2)

-- what is dealt to a part is one of all
every_within : {X : Type 0} (step passed : ℕ) (xs : List X) (x : X) → Contains (every step passed xs) x → Contains xs x
every_within step zero [] x c = absurd (contains_none x c)
every_within step (suc passed) [] x c = absurd (contains_none x c)
every_within step zero (y ∷ xs) x c =
    ⊎_elim (λ e. contains_first y xs x e) (λ later. contains_later y xs x (every_within step (step - 1) xs x later)) (contains_cons y (every step (step - 1) xs) x c)
every_within step (suc passed) (y ∷ xs) x c = contains_later y xs x (every_within step passed xs x c)

pub part_chooses : (Is : List ℕ → Type 0) (step passed : ℕ) (branches : List WeightedBranch) → AllChoose Is branches → AllChoose Is (every step passed branches)
part_chooses Is step passed branches are b among = are b (every_within step passed branches b among)

pub every_fewer : {X : Type 0} (step passed : ℕ) (xs : List X) → length (every step passed xs) ≤ length xs
every_fewer step zero [] = omega arith
every_fewer step (suc passed) [] = omega arith
every_fewer step zero (y ∷ xs) = let le = every_fewer step (step - 1) xs in omega (arith, le)
every_fewer step (suc passed) (y ∷ xs) = let le = every_fewer step passed xs in omega (arith, le)

-- ---- the numbers of parts

-- Each number is what the part beside it has.
abbrev AreEach : Compiled → List WeightedBranch → List ℕ → Type 0
AreEach x branches numbers = (part number : ℕ) → slice_get numbers part ≡ Some number → HaveTogether x (every (length numbers) part branches) number

none_in_all : (numbers : List ℕ) → ((part number : ℕ) → slice_get numbers part ≡ Some number → number ≡ 0) → sum numbers ≡ 0
none_in_all [] each = refl
none_in_all (n ∷ numbers) each = let e = each 0 n refl in let rest = none_in_all numbers (λ part number at. each (suc part) number at) in let sums = sum_by-cons (λ k. k) n numbers in omega (arith, e, rest, sums)

sum_push : (numbers : List ℕ) (n : ℕ) → sum (numbers ++ n ∷ []) ≡ sum numbers + n
sum_push numbers n = let h = sum_by-append (λ k. k) numbers (n ∷ []) in let e = sum_by-cons (λ k. k) n [] in omega (arith, h, e)

-- together they have what the whole has
pub parts_have_all : (x : Compiled) (branches : List WeightedBranch) (numbers : List ℕ) → 0 < length numbers → AreEach x branches numbers → HaveTogether x branches (sum numbers)
parts_have_all x [] numbers some each = none_in_all numbers each
parts_have_all x (b ∷ branches) [] some each = absurd (omega (arith, some))
parts_have_all x (b ∷ branches) (n ∷ numbers) some each =
    let first = each 0 n refl in
    let long = length-append numbers (first.1 ∷ []) in
    let same : length (numbers ++ first.1 ∷ []) ≡ length (n ∷ numbers) = omega (arith, long) in
    let rest = parts_have_all x branches (numbers ++ first.1 ∷ []) (omega (arith, long)) (λ part number at.
    subst (λ step. HaveTogether x (every step part branches) number) (sym same)
    (⊎_elim
    (λ here. each (suc part) number here)
    (λ last. subst (λ k. HaveTogether x (every (length (n ∷ numbers)) k branches) number) (omega (arith, last.0))
    (subst (HaveTogether x (every (length (n ∷ numbers)) (length (n ∷ numbers) - 1) branches)) last.1 first.3))
    (pushed_place numbers first.1 part number at))) in
    let sums = sum_push numbers first.1 in
    let e = first.4 in
    let all = sum_by-cons (λ k. k) n numbers in
    (first.0, sum (numbers ++ first.1 ∷ []), first.2, rest, omega (arith, sums, e, all))
