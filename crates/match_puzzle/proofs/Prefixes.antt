-- Prefixes with a placement more or less.
use Rattle.std.proofs.Common.{◌∷◌, [], zero, suc, ap, ◌≡◌, ◌≢◌, ◌⊎◌, ◌<◌, ◌≤◌, ℕ, List, Option, Some, None, length, length-set, get_or, replicate, set, slice_get, arith, refl, sym, ◌∙◌, subst, inl, inr, ⊎_elim}
use Rattle.std.proofs.lemmas.Option.{slice_get_cases, slice_get-get_or, slice_get_past, slice_get_within, slice_get_read}
use Rattle.std.proofs.lemmas.List.{get_or-set_same, get_or-set_other, get_or-replicate, length-replicate}
use Rattle.std.proofs.lemmas.Bool.Decides.{eqb_tells}
use Rattle.match_puzzle.specs.Prefix.{Prefix, Has, IsFree, with_pair, without_cell}
use Rattle.match_puzzle.specs.declared.placements.Placement.{Placement}

pub inside : {X : Type 0} {x y : X} → Some x ≡ Some y → x ≡ y
inside e = cc

pub slice_get-set_same : {X : Type 0} (xs : List X) (i : ℕ) (y : X) → i < length xs → slice_get (set xs i y) i ≡ Some y
slice_get-set_same xs i y lt = slice_get-get_or (set xs i y) i y (omega (arith, length-set xs i y)) ∙ ap Some (get_or-set_same xs i y y lt)

pub slice_get-set_other : {X : Type 0} (xs : List X) (i j : ℕ) (y : X) → j ≢ i → slice_get (set xs i y) j ≡ slice_get xs j
slice_get-set_other {X} xs i j y ne = ⊎_elim within past (slice_get_cases xs j).1
  where
    within : (x : X) × (j < length xs) × (slice_get xs j ≡ Some x) × (get_or xs j x ≡ x) → slice_get (set xs i y) j ≡ slice_get xs j
    within w = slice_get-get_or (set xs i y) j y (omega (arith, length-set xs i y, w.1)) ∙ ap Some (get_or-set_other xs i j y y ne) ∙ sym (slice_get-get_or xs j y w.1)

    past : (length xs ≤ j) × (slice_get xs j ≡ None) → slice_get (set xs i y) j ≡ slice_get xs j
    past w = slice_get_past (set xs i y) j (omega (arith, length-set xs i y, w.0)) ∙ sym w.1

pub slice_get-replicate : {X : Type 0} (n i : ℕ) (a x : X) → slice_get (replicate n a) i ≡ Some x → x ≡ a
slice_get-replicate n i a x e =
    let lt : i < n = omega (arith, slice_get_within (replicate n a) i x e, length-replicate n a) in
    inside (sym e ∙ slice_get-get_or (replicate n a) i a (omega (arith, length-replicate n a, lt)) ∙ ap Some (get_or-replicate n i a a lt))

none≢some : {X : Type 0} {x : X} → None ≡ Some x → ⊥
none≢some e = cc

-- something stands at a cell, or nothing
pub free_or_has : (q : Prefix) (cell : ℕ) → cell < length q → IsFree q cell ⊎ ((x : Placement) × Has q cell x)
free_or_has [] cell lt = absurd (omega (arith, lt))
free_or_has (y ∷ q) zero lt = standing y
  where
    standing : (z : Option Placement) → IsFree (z ∷ q) zero ⊎ ((x : Placement) × Has (z ∷ q) zero x)
    standing None = inl refl
    standing (Some x) = inr (x, refl)
free_or_has (y ∷ q) (suc cell) lt = free_or_has q cell (omega (arith, lt))

-- what stands after a placement
pub has_placed : (q : Prefix) (cell : ℕ) (x : Placement) (cell' : ℕ) (y : Placement) → IsFree q cell → Has (with_pair q cell x) cell' y → ((cell' ≡ cell) × (y ≡ x)) ⊎ ((cell' ≢ cell) × Has q cell' y)
has_placed q cell x cell' y free has =
    ⊎_elim
    (λ e. inl (e.1, inside (inside (sym (subst (λ k. Has (with_pair q cell x) k y) e.1 has) ∙ slice_get-set_same q cell (Some x) (slice_get_within q cell None free)))))
    (λ e. inr (e.1, sym (slice_get-set_other q cell cell' (Some x) e.1) ∙ has))
    (eqb_tells cell' cell)

pub has_new : (q : Prefix) (cell : ℕ) (x : Placement) → IsFree q cell → Has (with_pair q cell x) cell x
has_new q cell x free = slice_get-set_same q cell (Some x) (slice_get_within q cell None free)

pub has_still : (q : Prefix) (cell : ℕ) (x : Placement) (cell' : ℕ) (y : Placement) → IsFree q cell → Has q cell' y → Has (with_pair q cell x) cell' y
has_still q cell x cell' y free has =
    let ne : cell' ≢ cell = λ e. none≢some (inside (sym free ∙ subst (λ k. Has q k y) e has)) in
    slice_get-set_other q cell cell' (Some x) ne ∙ has

-- what stands after a placement is taken away
pub has_lifted : (q : Prefix) (cell cell' : ℕ) (x y : Placement) → Has q cell x → Has (set q cell None) cell' y → (cell' ≢ cell) × Has q cell' y
has_lifted q cell cell' x y here has =
    ⊎_elim
    (λ e. absurd (none≢some (inside (sym (slice_get-set_same q cell None (slice_get_within q cell (Some x) here)) ∙ subst (λ k. Has (set q cell None) k y) e.1 has))))
    (λ e. (e.1, sym (slice_get-set_other q cell cell' None e.1) ∙ has))
    (eqb_tells cell' cell)

pub has_kept : (q : Prefix) (cell cell' : ℕ) (y : Placement) → cell' ≢ cell → Has q cell' y → Has (set q cell None) cell' y
has_kept q cell cell' y ne has = slice_get-set_other q cell cell' None ne ∙ has

-- what was read where something stands
pub read_has : (q : Prefix) (cell : ℕ) (x y : Placement) (r : Option Placement) → Has q cell x → r ≡ get_or q cell r → r ≡ Some y → Has q cell y
read_has q cell x y r has read is = slice_get_read q (length q) cell r refl (slice_get_within q cell (Some x) has) read ∙ ap Some is

-- a placement that was put and taken away
pub lifted_is : (q : Prefix) (cell : ℕ) (x : Placement) → IsFree q cell → without_cell (with_pair q cell x) cell ≡ q
lifted_is [] cell x free = refl
lifted_is (y ∷ q) zero x free = ap (λ z. z ∷ q) (inside_some (sym free))
  where
    inside_some : {X : Type 0} {a b : X} → Some a ≡ Some b → a ≡ b
    inside_some e = cc
lifted_is (y ∷ q) (suc cell) x free = ap (λ z. y ∷ z) (lifted_is q cell x free)
