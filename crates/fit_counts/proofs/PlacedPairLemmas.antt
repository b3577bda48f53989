-- Pairs that are placed one after the other: one more, one less.
use Rattle.std.proofs.Common.{◌≡◌, ◌⊎◌, ◌++◌, ◌∷◌, [], ℕ, zero, suc, List, Some, length, length-append, slice_get, take, arith, refl, ap, inl, inr, sym, ◌∙◌, subst, ⊎_elim}
use Rattle.std.proofs.Math.Seq.{take-append_seam}
use Rattle.std.proofs.lemmas.List.{take-append-le, get_or_push}
use Rattle.std.proofs.lemmas.Option.{slice_get_within, slice_get-get_or, none-some}
use Rattle.match_puzzle.specs.Puzzle.{Task}
use Rattle.match_puzzle.specs.Prefix.{Has, empty_prefix, with_pair, without_cell}
use Rattle.match_puzzle.specs.Fitting.{Fits}
use Rattle.fit_counts.specs.Placing.{FitInTurn, prefix_of}
use Rattle.match_puzzle.specs.declared.placements.Pair.{Pair}
use Rattle.match_puzzle.proofs.Prefixes.{inside, has_new, lifted_is}
use Rattle.match_puzzle.proofs.PairLemmas.{with_pairs-append}

-- what stands at a place of a list with one more
pub pushed_at : {X : Type 0} (xs : List X) (z : X) (i : ℕ) (x : X) → slice_get (xs ++ z ∷ []) i ≡ Some x → (slice_get xs i ≡ Some x) ⊎ ((i ≡ length xs) × (x ≡ z))
pushed_at [] z zero x at = inr (refl, sym (inside at))
pushed_at [] z (suc i) x at = absurd (none-some x at)
pushed_at (y ∷ xs) z zero x at = inl at
pushed_at (y ∷ xs) z (suc i) x at = ⊎_elim (λ e. inl e) (λ e. inr (omega (arith, e.0), e.1)) (pushed_at xs z i x at)

-- the last of a list
pub at_end : {X : Type 0} (xs : List X) (y : X) → slice_get (xs ++ y ∷ []) (length xs) ≡ Some y
at_end xs y =
    let long = length-append xs (y ∷ []) in
    slice_get-get_or (xs ++ y ∷ []) (length xs) y (omega (arith, long)) ∙ ap Some (get_or_push xs y y (length xs) refl)

-- the prefix of one pair more
pub prefix_pushed : (p : Task) (pairs : List Pair) (y : Pair) → prefix_of p (pairs ++ y ∷ []) ≡ with_pair (prefix_of p pairs) y.cell y.placement
prefix_pushed p pairs y = with_pairs-append pairs (y ∷ []) (empty_prefix p)

-- one pair more that fits
pub fit_pushed : (p : Task) (pairs : List Pair) (y : Pair) → FitInTurn p pairs → Fits p (prefix_of p pairs) y.cell y.placement → FitInTurn p (pairs ++ y ∷ [])
fit_pushed p pairs y fit fits place z at =
    ⊎_elim
    (λ old.
    let within = slice_get_within pairs place z old in
    subst (λ ps. Fits p (prefix_of p ps) z.cell z.placement) (sym (take-append-le place pairs (y ∷ []) (omega (arith, within)))) (fit place z old))
    (λ new.
    subst (λ (q : Pair). Fits p (prefix_of p (take place (pairs ++ y ∷ []))) q.cell q.placement) (sym new.1)
    (subst (λ ps. Fits p (prefix_of p ps) y.cell y.placement) (sym (ap (λ n. take n (pairs ++ y ∷ [])) new.0 ∙ take-append_seam pairs (y ∷ []))) fits))
    (pushed_at pairs y place z at)

module _ (p : Task) (pairs : List Pair) (y : Pair) (fit : FitInTurn p (pairs ++ y ∷ [])) where
  -- the last pair fits the others
  pub last_fits : Fits p (prefix_of p pairs) y.cell y.placement
  last_fits = subst (λ ps. Fits p (prefix_of p ps) y.cell y.placement) (take-append_seam pairs (y ∷ [])) (fit (length pairs) y (at_end pairs y))

  -- the others fit in turn
  pub fit_popped : FitInTurn p pairs
  fit_popped place z at =
      let within = slice_get_within pairs place z at in
      subst (λ ps. Fits p (prefix_of p ps) z.cell z.placement) (take-append-le place pairs (y ∷ []) (omega (arith, within)))
      (fit place z (slice_get_left pairs place z at))
    where
      slice_get_left : (xs : List Pair) (i : ℕ) (x : Pair) → slice_get xs i ≡ Some x → slice_get (xs ++ y ∷ []) i ≡ Some x
      slice_get_left [] i x at = absurd (none-some x at)
      slice_get_left (z ∷ xs) zero x at = at
      slice_get_left (z ∷ xs) (suc i) x at = slice_get_left xs i x at

  -- the last pair stands
  pub last_has : Has (prefix_of p (pairs ++ y ∷ [])) y.cell y.placement
  last_has = subst (λ q. Has q y.cell y.placement) (sym (prefix_pushed p pairs y)) (has_new (prefix_of p pairs) y.cell y.placement last_fits.free)

  -- without it the others stand
  pub last_taken : without_cell (prefix_of p (pairs ++ y ∷ [])) y.cell ≡ prefix_of p pairs
  last_taken = ap (λ q. without_cell q y.cell) (prefix_pushed p pairs y) ∙ lifted_is (prefix_of p pairs) y.cell y.placement last_fits.free
