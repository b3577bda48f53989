-- There is one number of arrangements.
use Rattle.std.proofs.Common.{◌≡◌, ◌<◌, ◌≤◌, ◌+◌, ◌*◌, ◌∷◌, [], ℕ, List, Some, Contains, length, slice_get, arith, sym, ◌∙◌, subst, ap}
use Rattle.std.proofs.lemmas.Option.{slice_get_within}
use Rattle.match_puzzle.specs.Arrangement.{AreDistinct}
use Rattle.match_puzzle.specs.declared.placements.Placement.{Placement}
use Rattle.match_puzzle.proofs.Prefixes.{inside}
use Rattle.match_puzzle.specs.Numbers.{AreSoMany, AreMoreThan}
use Rattle.xcc_form.specs.Options.{Compiled}
use Rattle.xcc_form.proofs.OptionLemmas.{contains_at, place_of, read_in}
use Rattle.xcc_form.proofs.WholeLemmas.{list_from}
use Rattle.xcc_dance.proofs.RoomLemmas.{few_different}
use Rattle.count_search.specs.Branches.{WeightedBranch, HaveTogether}

-- different things that are all in another list are no more than that has
pub no_more : {X : Type 0} (xs ys : List X) → AreDistinct xs → ((x : X) → Contains xs x → Contains ys x) → length xs ≤ length ys
no_more {X} xs ys once all =
    let places = list_from (length xs) (λ (i k : ℕ). (x : X) × (slice_get xs i ≡ Some x) × (slice_get ys k ≡ Some x))
    (λ i lt. let x = read_in xs i lt in let at = place_of ys x.0 (all x.0 (contains_at xs i x.0 x.1)) in (at.0, (x.0, x.1, at.1))) in
    let few = few_different places.0 (length ys)
    (λ i j k at at'.
    let here = places.2 i k at in
    let there = places.2 j k at' in
    once i j here.0 here.1 (subst (λ x. slice_get xs j ≡ Some x) (inside (sym there.2 ∙ here.2)) there.1))
    (λ i k at. let there = places.2 i k at in slice_get_within ys k there.0 there.2) in
    let long = places.1 in
    omega (arith, few, long)

module _ (Is : List Placement → Type 0) (count : ℕ) (so : AreSoMany Is count) where
  no_fewer : (other : ℕ) → AreSoMany Is other → count ≤ other
  no_fewer other so' =
      let le = no_more so.all so'.all so.once (λ a c. (so'.just a).1 ((so.just a).0 c)) in
      let e = so.counted in
      let e' = so'.counted in
      omega (arith, le, e, e')

  -- more than so many are fewer than all
  pub more_are_fewer : (most : ℕ) → AreMoreThan most Is → most < count
  more_are_fewer most more =
      let le = no_more more.found so.all more.once (λ a c. (so.just a).1 (more.each a c)) in
      let e = so.counted in
      let lt = more.more in
      omega (arith, le, e, lt)

pub one_number : (Is : List Placement → Type 0) (m n : ℕ) → AreSoMany Is m → AreSoMany Is n → m ≡ n
one_number Is m n so so' = let le = no_fewer Is m so n so' in let le' = no_fewer Is n so' m so in omega (arith, le, le')

pub one_together : (x : Compiled) (branches : List WeightedBranch) (m n : ℕ) → HaveTogether x branches m → HaveTogether x branches n → m ≡ n
one_together x [] m n e e' = e ∙ sym e'
one_together x (b ∷ branches) m n w v =
    let count = one_number _ w.0 v.0 w.2 v.2 in
    let rest = one_together x branches w.1 v.1 w.3 v.3 in
    w.4 ∙ ap (λ k. b.weight * k + w.1) count ∙ ap (λ k. b.weight * v.0 + k) rest ∙ sym v.4
