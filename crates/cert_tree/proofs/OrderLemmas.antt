-- In what order pieces come makes no difference to their assembly.
use Rattle.std.proofs.Common.{◌≡◌, ◌<◌, ℕ, suc, List, [], ◌∷◌, length, Some, Result, Ok, Err, refl, sym, ap, subst, ◌∙◌, arith, inl, inr}
use Rattle.std.specs.Prelude.{Contains, slice_get}
use Rattle.std.specs.List.Sorted.{IsPermutation}
use Rattle.std.proofs.lemmas.List.Sorted.{IsPermutation-sym, sum_by-IsPermutation, All-permutation}
use Rattle.std.proofs.lemmas.List.Elements.{All-contains_itself}
use Rattle.std.proofs.lemmas.Bool.{cases_lt}
use Rattle.match_limits.specs.First.{AtMost, IsFirst}
use Rattle.match_limits.proofs.ListLemmas.{member_at}
use Rattle.cert_tree.specs.declared.faults.AssembleFault.{AssembleFault}
use Rattle.cert_tree.specs.declared.faults.AssembleFault.TheVariants.{Stranger, Double, Missing, Memory}
use Rattle.cert_tree.specs.Assembly.{how_often, IsAssembly, AssemblyFails, assembly_rank, Assembles, IsSettled, IsOneInAnyOrder}
use Rattle.cert_tree.proofs.AssemblyLemmas.{only_contained}

contains_permuted : {X : Type 0} (pieces others : List X) → IsPermutation pieces others → (x : X) → Contains pieces x → Contains others x
contains_permuted pieces others moved x at =
    let back = All-permutation (Contains others) others pieces (IsPermutation-sym pieces others moved) (All-contains_itself others) in
    subst (Contains others) at.2 (back at.0 x at.1)

same_at_each : {X : Type 0} (xs ys : List X) → length xs ≡ length ys → ((n : ℕ) (x y : X) → slice_get xs n ≡ Some x → slice_get ys n ≡ Some y → x ≡ y) → xs ≡ ys
same_at_each [] [] long same = refl
same_at_each [] (y ∷ ys) long same = absurd (omega (arith, long))
same_at_each (x ∷ xs) [] long same = absurd (omega (arith, long))
same_at_each (x ∷ xs) (y ∷ ys) long same = ap (λ z. z ∷ xs) (same 0 x y refl refl) ∙ ap (λ zs. y ∷ zs) (same_at_each xs ys (omega (arith, long)) (λ n a b at at'. same (suc n) a b at at'))

module _ {X : Type 0} (number_of : X → ℕ) (count : ℕ) (pieces others : List X) (moved : IsPermutation pieces others) where
  same_often : (n : ℕ) → how_often number_of others n ≡ how_often number_of pieces n
  same_often n = sum_by-IsPermutation _ pieces others moved

  same_fails : (fault : AssembleFault) → AssemblyFails number_of count others fault → AssemblyFails number_of count pieces fault
  same_fails (Stranger n) fails = (fails.0, λ none. fails.1 (same_often n ∙ none))
  same_fails (Double n) fails = omega (arith, fails, same_often n)
  same_fails (Missing n) fails = (fails.0, sym (same_often n) ∙ fails.1)
  same_fails Memory fails = fails

  same_fails_back : (fault : AssembleFault) → AssemblyFails number_of count pieces fault → AssemblyFails number_of count others fault
  same_fails_back (Stranger n) fails = (fails.0, λ none. fails.1 (sym (same_often n) ∙ none))
  same_fails_back (Double n) fails = omega (arith, fails, same_often n)
  same_fails_back (Missing n) fails = (fails.0, same_often n ∙ fails.1)
  same_fails_back Memory fails = fails

  -- where the pieces are assembled each number below the count stands once
  once_below : (xs : List X) → IsAssembly number_of count pieces xs → (n : ℕ) → n < count → how_often number_of pieces n ≡ 1
  once_below xs all n lt = let x = member_at xs n (omega (arith, lt, all.many)) in (all.only n x.0 x.1).once

  -- and there is no fault
  no_fault : (xs : List X) → IsAssembly number_of count pieces xs → (fault : AssembleFault) → AssemblyFails number_of count pieces fault → ⊥
  no_fault xs all (Stranger n) fails = fails.1 (all.no_stranger n fails.0)
  no_fault xs all (Double n) fails = elim (cases_lt n count) [
    | inl lt ↦ omega (arith, once_below xs all n lt, fails)
    | inr past ↦ omega (arith, all.no_stranger n past, fails)
  ]
  no_fault xs all (Missing n) fails = omega (arith, once_below xs all n fails.0, fails.1)
  no_fault xs all Memory fails = fails

  one_assembly : (xs ys : List X) → IsAssembly number_of count pieces xs → IsAssembly number_of count others ys → xs ≡ ys
  one_assembly xs ys a b = same_at_each xs ys (a.many ∙ sym b.many) (λ n x y at at'.
      let first = a.only n x at in
      let second = b.only n y at' in
      only_contained number_of others n x y second.once (contained_permuted x first.among) second.among first.number second.number)
    where
      contained_permuted : (x : X) → Contains pieces x → Contains others x
      contained_permuted x at = contains_permuted pieces others moved x at

  one_fault : (f g : AssembleFault) → IsFirst assembly_rank (AssemblyFails number_of count pieces) f → IsFirst assembly_rank (AssemblyFails number_of count others) g → f ≡ g
  one_fault f g a b = of_rank f g (a.first g (same_fails g b.occurs)) (b.first f (same_fails_back f a.occurs))
    where
      of_rank : (f g : AssembleFault) → AtMost (assembly_rank f) (assembly_rank g) → AtMost (assembly_rank g) (assembly_rank f) → f ≡ g
      of_rank (Stranger n) (Stranger m) up down = ap Stranger (omega (arith, up.second refl, down.second refl))
      of_rank (Double n) (Double m) up down = ap Double (omega (arith, up.second refl, down.second refl))
      of_rank (Missing n) (Missing m) up down = ap Missing (omega (arith, up.second refl, down.second refl))
      of_rank Memory Memory up down = refl
      of_rank _ _ up down = absurd (omega (arith, up.first, down.first))

module _ {X : Type 0} (number_of : X → ℕ) (count : ℕ) (pieces others : List X) (moved : IsPermutation pieces others) where
  abbrev First : List X → AssembleFault → Type 0
  First xs fault = IsFirst assembly_rank (AssemblyFails number_of count xs) fault

  first_of : (xs : List X) (fault : AssembleFault) → IsSettled {X = List X} (Err fault) → Assembles number_of count xs (Err fault) → First xs fault
  first_of xs (Stranger n) settled is = is
  first_of xs (Double n) settled is = is
  first_of xs (Missing n) settled is = is
  first_of xs Memory settled is = absurd (settled refl)

  pub one_outcome : (a b : Result (List X) AssembleFault) → IsSettled a → IsSettled b → Assembles number_of count pieces a → Assembles number_of count others b → a ≡ b
  one_outcome (Ok xs) (Ok ys) s t a b = ap Ok (one_assembly number_of count pieces others moved xs ys a b)
  one_outcome (Ok xs) (Err g) s t a b = absurd (no_fault number_of count pieces others moved xs a g (same_fails number_of count pieces others moved g (first_of others g t b).occurs))
  one_outcome (Err f) (Ok ys) s t a b = absurd (no_fault number_of count others pieces (IsPermutation-sym pieces others moved) ys b f (same_fails_back number_of count pieces others moved f (first_of pieces f s a).occurs))
  one_outcome (Err f) (Err g) s t a b = ap Err (one_fault number_of count pieces others moved f g (first_of pieces f s a) (first_of others g t b))

pub one_in_any_order : {X : Type 0} (number_of : X → ℕ) → IsOneInAnyOrder number_of
one_in_any_order number_of count pieces others a b moved = one_outcome number_of count pieces others moved a b
