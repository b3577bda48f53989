-- Where parts of lemmas begin, one behind the other.
use Rattle.std.proofs.Common.{◌≡◌, ◌≤◌, ◌<◌, ◌+◌, ◌-◌, ◌++◌, ℕ, zero, suc, List, [], ◌∷◌, length, arith, refl, sym, ap, subst, ◌∙◌, ⊎_elim}
use Rattle.std.proofs.lemmas.List.{length-append, get_or_append_left, get_or_push}
use Rattle.match_limits.proofs.Listings.{lt_or_le}
use Rattle.cert_text.specs.LemmaParts.{part_start, AreStarts}

-- Parts begin there, at most at the lemma with this number.
pub record AreFirstStarts (number : ℕ) (starts : List ℕ) : Type 0 where
  pub some : 1 ≤ length starts
  pub few : length starts ≤ 1024
  pub from_first : part_start starts 0 ≡ 0
  pub rising : (n : ℕ) → n + 1 < length starts → part_start starts n ≤ part_start starts (n + 1)
  pub within : (n : ℕ) → n < length starts → part_start starts n ≤ number

-- the first part begins at the first lemma
first_alone : AreFirstStarts 0 (0 ∷ [])
first_alone = record {
  some = omega arith;
  few = omega arith;
  from_first = refl;
  rising = λ n lt. absurd (omega (arith, lt));
  within = at_first;
}
  where
    at_first : (n : ℕ) → n < 1 → part_start (0 ∷ []) n ≤ 0
    at_first zero lt = omega arith
    at_first (suc n) lt = absurd (omega (arith, lt))

pub first_start : (starts : List ℕ) → starts ≡ 0 ∷ [] → AreFirstStarts 0 starts
first_start starts is = subst (AreFirstStarts 0) (sym is) first_alone

-- the same up to a later lemma
pub later_starts : (number next : ℕ) (starts : List ℕ) → number ≤ next → AreFirstStarts number starts → AreFirstStarts next starts
later_starts number next starts le are = record {
  some = are.some;
  few = are.few;
  from_first = are.from_first;
  rising = are.rising;
  within = λ n lt. let w = are.within n lt in omega (arith, w, le);
}

-- a part more begins at the number
module _ (number : ℕ) (starts longer : List ℕ) (are : AreFirstStarts number starts) (is : longer ≡ starts ++ number ∷ []) where
  pub long : length longer ≡ length starts + 1
  long = ap length is ∙ length-append starts (number ∷ [])

  same_start : (n : ℕ) → n < length starts → part_start longer n ≡ part_start starts n
  same_start n lt = ap (λ xs. part_start xs n) is ∙ get_or_append_left starts (number ∷ []) 0 n lt

  pub last_one : (n : ℕ) → n ≡ length starts → part_start longer n ≡ number
  last_one n e = ap (λ xs. part_start xs n) is ∙ get_or_push starts number 0 n (sym e)

  pub more_from_first : part_start longer 0 ≡ 0
  more_from_first = same_start 0 (let some = are.some in omega (arith, some)) ∙ are.from_first

  pub more_rising : (n : ℕ) → n + 1 < length longer → part_start longer n ≤ part_start longer (n + 1)
  more_rising n lt =
      let here = same_start n (omega (arith, lt, long)) in
      ⊎_elim
      (λ before. let r = are.rising n before in let next = same_start (n + 1) before in omega (arith, here, next, r))
      (λ behind. let w = are.within n (omega (arith, lt, long)) in let last = last_one (n + 1) (omega (arith, lt, long, behind)) in omega (arith, here, last, w))
      (lt_or_le (n + 1) (length starts))

  pub more_within : (n : ℕ) → n < length longer → part_start longer n ≤ number
  more_within n lt =
      ⊎_elim
      (λ before. let w = are.within n before in let here = same_start n before in omega (arith, here, w))
      (λ behind. let last = last_one n (omega (arith, lt, long, behind)) in omega (arith, last))
      (lt_or_le n (length starts))

  pub one_start_more : length starts < 1024 → AreFirstStarts number longer
  one_start_more few = record {
    some = omega (arith, long);
    few = omega (arith, long, few);
    from_first = more_from_first;
    rising = more_rising;
    within = more_within;
  }

  pub all_starts : AreStarts number longer
  all_starts = record {
    some = omega (arith, long);
    few = let f = are.few in omega (arith, long, f);
    from_first = more_from_first;
    to_last = last_one (length longer - 1) (omega (arith, long));
    rising = more_rising;
    within = more_within;
  }
