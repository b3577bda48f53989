-- A total that grows branch by branch, and totals of parts.
use Rattle.std.proofs.Common.{◌≡◌, ◌<◌, ◌≤◌, ◌+◌, ◌-◌, ◌*◌, ◌/◌, ◌++◌, ◌∷◌, [], ℕ, suc, List, Option, None, Some, MatchOption, length, slice_get, get_or, take, drop, arith, refl, ap, sym, ◌∙◌, subst}
use Rattle.std.proofs.Math.Nat.{mul_comm, mul-add, mul-le-mul_left, lt-div-mul-add, div-mul-le_self}
use Rattle.std.proofs.Math.Seq.{drop-cons}
use Rattle.std.proofs.lemmas.List.{take-append-drop}
use Rattle.std.proofs.lemmas.List.Elements.{Contains-append_right}
use Rattle.match_limits.proofs.ListLemmas.{taken_more}
use Rattle.match_puzzle.specs.Arrangement.{IsArrangement, HasArrangements}
use Rattle.match_puzzle.specs.Numbers.{AreMoreThan}
use Rattle.xcc_form.specs.Options.{Compiled}
use Rattle.count_search.specs.OptionExtensions.{HasOptions, HaveOptions}
use Rattle.count_search.specs.Branches.{WeightedBranch, HaveTogether, HaveMoreTogether, IsSplit, AllChoose}
use Rattle.xcc_form.specs.Chosen.{IsSelection}
use Rattle.count_search.proofs.BranchLemmas.{together_join, together_cut}
use Rattle.count_search.proofs.ExistenceLemmas.{some_number}
use Rattle.count_search.proofs.OneNumberLemmas.{more_are_fewer, one_together}

-- a multiple of a number that is below a quotient is below the dividend
pub within_share : (left weight count : ℕ) → count ≤ left / weight → weight * count ≤ left
within_share left weight count le =
    let some = mul-le-mul_left weight le in
    let all = div-mul-le_self left weight in
    let turned = mul_comm weight (left / weight) in
    omega (arith, some, all, turned)

-- and of one past the quotient past it
pub past_share : (left weight count : ℕ) → 1 ≤ weight → left / weight < count → left < weight * count
past_share left weight count some lt =
    let next : left / weight + 1 ≤ count = omega (arith, lt) in
    let past = lt-div-mul-add {a = left} {b = weight} (omega (arith, some)) in
    let more = mul-le-mul_left weight next in
    let sums = mul-add weight (left / weight) 1 in
    let turned = mul_comm weight (left / weight) in
    omega (arith, past, more, sums, turned)

module _ (x : Compiled) where
  -- one branch more
  one_more_together : (these : List WeightedBranch) (b : WeightedBranch) (total count : ℕ) → HaveTogether x these total → HaveOptions x b.chosen count → HaveTogether x (these ++ b ∷ []) (total + b.weight * count)
  one_more_together these b total count old new =
      subst (λ n. HaveTogether x (these ++ b ∷ []) (total + n)) (omega arith) (together_join x these (b ∷ []) total (b.weight * count + 0) old (count, 0, new, refl, refl))

  -- what is read of a list, and what stands before and behind
  cut_at : (branches : List WeightedBranch) (i : ℕ) (b : WeightedBranch) → i < length branches → b ≡ get_or branches i b → branches ≡ take i branches ++ (b ∷ drop (suc i) branches)
  cut_at branches i b lt is = sym (take-append-drop i branches) ∙ ap (λ rest. take i branches ++ rest) (drop-cons branches i b lt ∙ ap (λ c. c ∷ drop (suc i) branches) (sym is))

  -- the next branch of a list
  pub one_more_taken : (branches : List WeightedBranch) (i : ℕ) (b : WeightedBranch) (weight total count : ℕ) → slice_get branches i ≡ Some b → weight ≡ b.weight → HaveTogether x (take i branches) total → HaveOptions x b.chosen count
      → HaveTogether x (take (i + 1) branches) (total + weight * count)
  one_more_taken branches i b weight total count at weighs old new =
      subst (λ these. HaveTogether x these (total + weight * count)) (sym (taken_more branches i b at))
      (subst (λ w. HaveTogether x (take i branches ++ b ∷ []) (total + w * count)) (sym weighs) (one_more_together (take i branches) b total count old new))

  -- a branch that has more than its share is one too many
  more_by_one : (these those : List WeightedBranch) (b : WeightedBranch) (total most : ℕ) → HaveTogether x these total → total ≤ most → 1 ≤ b.weight → AreMoreThan ((most - total) / b.weight) (HasOptions x b.chosen) → HaveMoreTogether x (these ++ b ∷ those) most
  more_by_one these those b total most old le some more all t =
      let r = together_cut x these (b ∷ those) all t in
      let same = one_together x these total r.0 old r.2 in
      let here = r.3 in
      let past = past_share (most - total) b.weight here.0 some (more_are_fewer (HasOptions x b.chosen) here.0 here.2 ((most - total) / b.weight) more) in
      let e = r.4 in
      let e' = here.4 in
      omega (arith, le, past, same, e, e')

pub more_than_share : (x : Compiled) (branches : List WeightedBranch) (i : ℕ) (b : WeightedBranch) (weight total most : ℕ) → i < length branches → b ≡ get_or branches i b → weight ≡ b.weight → 1 ≤ weight → HaveTogether x (take i branches) total → total ≤ most
    → AreMoreThan ((most - total) / weight) (HasOptions x b.chosen) → HaveMoreTogether x branches most
more_than_share x branches i b weight total most lt is weighs some old le more all t =
    more_by_one x (take i branches) (drop (suc i) branches) b total most old le (subst (λ w. 1 ≤ w) weighs some) (subst (λ w. AreMoreThan ((most - total) / w) (HasOptions x b.chosen)) weighs more) all
    (subst (λ these. HaveTogether x these all) (cut_at x branches i b lt is) t)

-- ---- numbers that there are

-- Branches have a number together.
pub some_together : (x : Compiled) (branches : List WeightedBranch) → AllChoose (IsSelection x) branches → (total : ℕ) × HaveTogether x branches total
some_together x [] are = (0, refl)
some_together x (b ∷ branches) are =
    let count = some_number (record { compiled = x; chosen = b.chosen }) (are b (0, omega arith, refl)) in
    let rest = some_together x branches (λ c within. are c (Contains-append_right (b ∷ []) branches c within)) in
    (b.weight * count.0 + rest.0, (count.0, rest.0, count.1, rest.1, refl))

-- of a split it is told of all arrangements what is told of the branches
pub told_of_split : (x : Compiled) (branches : List WeightedBranch) (most : ℕ) (said : Option ℕ) → IsSplit x branches → AllChoose (IsSelection x) branches → MatchOption said (HaveMoreTogether x branches most) (HaveTogether x branches)
    → MatchOption said (AreMoreThan most (IsArrangement x.puzzle)) (HasArrangements x.puzzle)
told_of_split x branches most None split are more =
    let total = some_together x branches are in
    let all = split total.0 total.1 in
    let past = more total.0 total.1 in
    record { found = all.all; once = all.once; more = let e = all.counted in omega (arith, past, e); each = λ a c. (all.just a).0 c }
told_of_split x branches most (Some total) split are have = split total have
