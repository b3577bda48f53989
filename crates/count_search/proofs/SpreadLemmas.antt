-- Branches in another order.
use Rattle.std.proofs.Common.{◌≤◌, ◌+◌, ◌^◌, ◌++◌, ◌∷◌, [], ℕ, List, Option, None, Some, Result, Ok, Err, IfOk, arith, subst}
use Rattle.std.proofs.lemmas.List.Elements.{Contains-append_left, Contains-append_right}
use Rattle.xcc_form.specs.Options.{Compiled}
use Rattle.count_search.specs.Branches.{WeightedBranch, HaveTogether, StandFor, AllChoose, IsTotal, IsSplit}
use Rattle.xcc_form.specs.Chosen.{IsSelection}
use Rattle.count_search.proofs.BranchLemmas.{together_join, together_cut, both_choose}
use Rattle.count_search.proofs.OneNumberLemmas.{one_together}
use Rattle.count_search.proofs.TotalLemmas.{some_together}

-- what is so of a value is so of it
pub ok_then : {T E : Type 0} (P Q : T → Type 0) → ((t : T) → P t → Q t) → (r : Result T E) → IfOk r P → IfOk r Q
ok_then P Q f (Ok t) p = f t p
ok_then P Q f (Err e) p = tt

module _ (x : Compiled) where
  -- the next branch goes behind these, and the others come first
  pub stand_next : (these others rest all : List WeightedBranch) (b : WeightedBranch) → StandFor x ((these ++ others) ++ (b ∷ rest)) all → StandFor x ((others ++ (these ++ b ∷ [])) ++ rest) all
  stand_next these others rest all b stand total t =
      let w = together_cut x (others ++ (these ++ b ∷ [])) rest total t in
      let r = together_cut x others (these ++ b ∷ []) w.0 w.2 in
      let q = together_cut x these (b ∷ []) r.1 r.3 in
      let both = together_join x these others q.0 r.0 q.2 r.2 in
      let behind = together_join x (b ∷ []) rest q.1 w.1 q.3 w.3 in
      let e = w.4 in
      let f = r.4 in
      let g = q.4 in
      stand total (subst (HaveTogether x ((these ++ others) ++ (b ∷ rest))) (omega (arith, e, f, g)) (together_join x (these ++ others) (b ∷ rest) (q.0 + r.0) (q.1 + w.1) both behind))

  first_of : (these those : List WeightedBranch) → AllChoose (IsSelection x) (these ++ those) → AllChoose (IsSelection x) these
  first_of these those are c within = are c (Contains-append_left these those c within)

  last_of : (these those : List WeightedBranch) → AllChoose (IsSelection x) (these ++ those) → AllChoose (IsSelection x) those
  last_of these those are c within = are c (Contains-append_right these those c within)

  pub selections_next : (these others rest : List WeightedBranch) (b : WeightedBranch) → AllChoose (IsSelection x) ((these ++ others) ++ (b ∷ rest)) → AllChoose (IsSelection x) ((others ++ (these ++ b ∷ [])) ++ rest)
  selections_next these others rest b are =
      let before = first_of (these ++ others) (b ∷ rest) are in
      let behind = last_of (these ++ others) (b ∷ rest) are in
      both_choose (IsSelection x) (others ++ (these ++ b ∷ [])) rest
      (both_choose (IsSelection x) others (these ++ b ∷ []) (last_of these others before) (both_choose (IsSelection x) these (b ∷ []) (first_of these others before) (first_of (b ∷ []) rest behind)))
      (last_of (b ∷ []) rest behind)

  -- what is told of branches that stand for others is told of those
  pub total_of : (these those : List WeightedBranch) (r : Option ℕ) → StandFor x these those → AllChoose (IsSelection x) these → IsTotal x these r → IsTotal x those r
  total_of these those None stand are many = λ total t.
      let other = some_together x these are in
      let same = one_together x those other.0 total (stand other.0 other.1) t in
      subst (λ n. 2 ^ 64 ≤ n) same (many other.0 other.1)
  total_of these those (Some total) stand are have = stand total have

  pub split_of : (these those : List WeightedBranch) → StandFor x these those → IsSplit x those → IsSplit x these
  split_of these those stand split total t = split total (stand total t)
