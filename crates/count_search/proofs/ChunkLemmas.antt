-- Branches that are counted chunk by chunk.
use Rattle.std.proofs.Common.{◌≡◌, ◌<◌, ◌≤◌, ◌+◌, ◌-◌, ◌*◌, ◌/◌, ◌%◌, ◌^◌, ◌++◌, ℕ, List, Option, None, Some, MatchOption, Contains, length, length-drop, take, drop, min, arith, ap, sym, ◌∙◌, subst, ⊎_elim}
use Rattle.std.specs.Fork.{slice_chunk}
use Rattle.std.proofs.Math.Nat.{add-mul, one-mul, mul-one, mul-le-mul_left, mul-le-mul_right}
use Rattle.std.specs.Int.{div_ceil}
use Rattle.std.proofs.lemmas.Grind.{div_ceil_times}
use Rattle.std.proofs.Math.Seq.{take-add}
use Rattle.std.proofs.lemmas.List.{take-append-drop, take_all}
use Rattle.std.proofs.lemmas.List.Elements.{Contains-append_left, Contains-append_right}
use Rattle.match_limits.proofs.Listings.{lt_or_le}
use Rattle.xcc_form.specs.Options.{Compiled}
use Rattle.count_search.specs.Branches.{WeightedBranch, HaveTogether, HaveMoreTogether, AllChoose, IsTotal}
use Rattle.xcc_form.specs.Chosen.{IsSelection}
use Rattle.count_search.proofs.BranchLemmas.{together_join, together_cut}
use Rattle.count_search.proofs.OneNumberLemmas.{one_together}

take_least : (size : ℕ) (xs : List WeightedBranch) → take (min size (length xs)) xs ≡ take size xs
take_least size xs =
    ⊎_elim
    (λ lt. ap (λ k. take k xs) (omega (arith, lt)))
    (λ le. ap (λ k. take k xs) (omega (arith, le)) ∙ take_all (length xs) xs (omega arith) ∙ sym (take_all size xs le))
    (lt_or_le size (length xs))

-- what a job takes of the branches
pub chunk_is : (branches : List WeightedBranch) (first size many : ℕ) → many ≡ min size (length (take (length branches - first) (drop first branches))) → take many (take (length branches - first) (drop first branches)) ≡ take size (drop first branches)
chunk_is branches first size many e =
    let long = length-drop first branches in
    let all = take_all (length branches - first) (drop first branches) (omega (arith, long)) in
    ap (λ k. take k (take (length branches - first) (drop first branches))) e ∙ ap (λ xs. take (min size (length xs)) xs) all ∙ take_least size (drop first branches)

pub chunk_selections : (x : Compiled) (branches : List WeightedBranch) (first size : ℕ) → AllChoose (IsSelection x) branches → AllChoose (IsSelection x) (take size (drop first branches))
chunk_selections x branches first size all b c =
    all b (subst (λ these. Contains these b) (take-append-drop first branches) (Contains-append_right (take first branches) (drop first branches) b
    (subst (λ these. Contains these b) (take-append-drop size (drop first branches)) (Contains-append_left (take size (drop first branches)) (drop size (drop first branches)) b c))))

-- what is told where most is the greatest number of 64 bits
pub told : (x : Compiled) (branches : List WeightedBranch) (most : ℕ) (o : Option ℕ) → most + 1 ≡ 2 ^ 64 → MatchOption o (HaveMoreTogether x branches most) (HaveTogether x branches) → IsTotal x branches o
told x branches most None e more = λ total t. let lt = more total t in omega (arith, lt, e)
told x branches most (Some total) e t = t

module _ (x : Compiled) (branches : List WeightedBranch) (size n : ℕ) where
  abbrev front : List WeightedBranch
  front = take (n * size) branches

  abbrev chunk : List WeightedBranch
  chunk = slice_chunk branches size n

  abbrev behind : List WeightedBranch
  behind = drop size (drop (n * size) branches)

  one_more_chunk : take ((n + 1) * size) branches ≡ front ++ chunk
  one_more_chunk = ap (λ k. take k branches) (add-mul n 1 size ∙ ap (λ k. n * size + k) (one-mul size)) ∙ take-add (n * size) size branches

  cut_by_chunk : branches ≡ front ++ (chunk ++ behind)
  cut_by_chunk = sym (take-append-drop (n * size) branches) ∙ ap (λ rest. front ++ rest) (sym (take-append-drop size (drop (n * size) branches)))

  pub chunk_more : (m total : ℕ) → HaveTogether x front m → HaveTogether x chunk total → HaveTogether x (take ((n + 1) * size) branches) (m + total)
  chunk_more m total old new = subst (λ these. HaveTogether x these (m + total)) (sym one_more_chunk) (together_join x front chunk m total old new)

  -- a chunk that has too many
  pub too_many_there : IsTotal x chunk None → IsTotal x branches None
  too_many_there more total t =
      let r = together_cut x front (chunk ++ behind) total (subst (λ these. HaveTogether x these total) cut_by_chunk t) in
      let q = together_cut x chunk behind r.1 r.3 in
      let past = more q.0 q.2 in
      let e = r.4 in
      let e' = q.4 in
      omega (arith, past, e, e')

  -- too many with those before
  pub too_many_with : (m some : ℕ) → HaveTogether x front m → HaveTogether x chunk some → 2 ^ 64 ≤ m + some → IsTotal x branches None
  too_many_with m some old new past total t =
      let r = together_cut x front (chunk ++ behind) total (subst (λ these. HaveTogether x these total) cut_by_chunk t) in
      let q = together_cut x chunk behind r.1 r.3 in
      let one = one_together x front m r.0 old r.2 in
      let two = one_together x chunk some q.0 new q.2 in
      let e = r.4 in
      let e' = q.4 in
      omega (arith, past, one, two, e, e')

-- after the last chunk
pub all_chunks : (x : Compiled) (branches : List WeightedBranch) (size many n total : ℕ) → length branches ≤ many * size → many ≤ n → HaveTogether x (take (n * size) branches) total → HaveTogether x branches total
all_chunks x branches size many n total all le t =
    let most = mul-le-mul_right size le in
    subst (λ these. HaveTogether x these total) (take_all (n * size) branches (omega (arith, all, most))) t

-- a chunk with this number is not behind the last
pub chunk_within : (length size n : ℕ) → 1 ≤ size → n < div_ceil length size → n * size < length
chunk_within length size n some lt =
    let bounds = div_ceil_times length size (omega (arith, some)) in
    let next : n + 1 ≤ length / size + min 1 (length % size) = omega (arith, lt) in
    let le = mul-le-mul_right size next in
    let sums = add-mul n 1 size in
    let one = one-mul size in
    let past = bounds.1 in
    omega (arith, le, sums, one, past)

pub chunks_all : (length size : ℕ) → 1 ≤ size → length ≤ div_ceil length size * size
chunks_all length size some = (div_ceil_times length size (omega (arith, some))).0

pub few_chunks : (length size most : ℕ) → 1 ≤ size → length ≤ most → div_ceil length size ≤ most
few_chunks length size most some le =
    let bounds = div_ceil_times length size (omega (arith, some)) in
    let less = bounds.1 in
    ⊎_elim
    (λ lt.
    let next : length + 1 ≤ div_ceil length size = omega (arith, lt) in
    let more = mul-le-mul_right size next in
    let sums = add-mul length 1 size in
    let one = one-mul size in
    let each = mul-le-mul_left length some in
    let same = mul-one length in
    absurd (omega (arith, less, more, sums, one, each, same)))
    (λ few. omega (arith, few, le))
    (lt_or_le length (div_ceil length size))
