-- Counts of parts, so far as each is there.
use Rattle.std.proofs.Common.{◌≡◌, ◌∙◌, ◌<◌, ◌≤◌, inl, inr, ◌+◌, ◌++◌, ◌∷◌, [], ℕ, List, Option, Some, length, map, take, slice_get, sum, arith, ap, sym, true, false, eqb, eq-eqb, eqb-true}
use Rattle.std.proofs.lemmas.Bool.{cases_eq}
use Rattle.std.proofs.lemmas.List.Sums.{sum_by_push}
use Rattle.std.proofs.lemmas.List.{length-take-le, map-append}
use Rattle.match_limits.proofs.ListLemmas.{mapped_at, member_at, taken_at, taken_more}

pub counted_before : (counts : List (Option ℕ)) (numbers : List ℕ) (place earlier : ℕ) → place ≤ length counts → earlier < place → take place counts ≡ map (λ n. Some n) numbers → (count : ℕ) × (slice_get counts earlier ≡ Some (Some count))
counted_before counts numbers place earlier within before is =
    let long : length (take place counts) ≡ place = length-take-le place counts within in
    let here = member_at (take place counts) earlier (omega (arith, long, before)) in
    let mapped = mapped_at (λ n. Some n) numbers earlier here.0 (ap (λ cs. slice_get cs earlier) (sym is) ∙ here.1) in
    (mapped.0, taken_at counts place earlier (Some mapped.0) (here.1 ∙ ap (λ o. Some o) mapped.2))

-- one count more
pub counted_more : (counts : List (Option ℕ)) (numbers : List ℕ) (place count : ℕ) → take place counts ≡ map (λ n. Some n) numbers → slice_get counts place ≡ Some (Some count) → take (place + 1) counts ≡ map (λ n. Some n) (numbers ++ count ∷ [])
counted_more counts numbers place count is here =
    taken_more counts place (Some count) here ∙ ap (λ (cs : List (Option ℕ)). cs ++ Some count ∷ []) is ∙ sym (map-append (λ n. Some n) numbers (count ∷ []))

pub summed_more : (numbers : List ℕ) (total count : ℕ) → total ≡ sum numbers → total + count ≡ sum (numbers ++ count ∷ [])
summed_more numbers total count is = ap (λ n. n + count) is ∙ sym (sum_by_push (λ n. n) numbers count)

true_is_false : true ≡ false → ⊥
true_is_false e = absurd cc

pub some_there : (n : ℕ) → false ≡ eqb n 0 → 0 < n
some_there n e = elim (cases_eq n 0) [ inl none ↦ absurd (true_is_false (sym (eq-eqb n 0 none) ∙ sym e)) | inr some ↦ omega arith ]

pub none_there : (n : ℕ) → true ≡ eqb n 0 → n ≡ 0
none_there n e = eqb-true n 0 (sym e)
