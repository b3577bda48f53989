-- Rows of which all but those of some cells are empty.
use Rattle.std.proofs.Common.{◌≡◌, ◌≢◌, ◌⊎◌, ◌<◌, ℕ, List, [], ◌∷◌, Contains, length, length-set, set, get_or, arith, refl, ap, sym, ◌∙◌, subst, inl, inr, ⊎_elim}
use Rattle.std.proofs.lemmas.Bool.Decides.{eqb_tells}
use Rattle.std.proofs.lemmas.List.{get_or_default, get_or-set_same, get_or-set_other}
use Rattle.match_limits.specs.Listing.{IsListing}
use Rattle.match_limits.proofs.Listings.{contains_none}
use Rattle.fit_counts.specs.FitRows.{AreOpenRows}

-- what was read at a place, whatever is read past the end
pub entry_read : {X : Type 0} (xs : List X) (place at : ℕ) (past read : X) → at < length xs → place ≡ at → read ≡ get_or xs place read → get_or xs at past ≡ read
entry_read xs place at past read lt same is = get_or_default xs at past read lt ∙ ap (λ k. get_or xs k read) (sym same) ∙ sym is

none_in : (row : List ℕ) → ((n : ℕ) → Contains row n → ⊥) → row ≡ []
none_in [] none = refl
none_in (n ∷ row) none = absurd (none n (0, omega arith, refl))

module _ (rows : List (List ℕ)) (cells : List ℕ) (are : AreOpenRows rows cells) (cell : ℕ) (lt : cell < length rows) where
  -- One row is written, and the cells are others.
  row_written : (row cells' : List ℕ) → ((n : ℕ) → Contains cells' n → n < length rows) → ((Contains cells' cell → ⊥) → row ≡ []) → ((n : ℕ) → n ≢ cell → (Contains cells' n → ⊥) → Contains cells n → ⊥) → AreOpenRows (set rows cell row) cells'
  row_written row cells' within here others = record {
    most = let long = length-set rows cell row in let most = are.most in omega (arith, long, most);
    within = λ n c. let long = length-set rows cell row in let less = within n c in omega (arith, long, less);
    others = λ n none.
        ⊎_elim
        (λ e. subst (λ k. get_or (set rows cell row) k [] ≡ []) (sym e.1) (get_or-set_same rows cell row [] lt ∙ here (subst (λ k. Contains cells' k → ⊥) e.1 none)))
        (λ ne. get_or-set_other rows cell n row [] ne.1 ∙ are.others n (others n ne.1 none))
        (eqb_tells n cell);
  }

  -- the row is emptied
  pub row_cleared : (cells' : List ℕ) → IsListing ◌<◌ (λ n. Contains cells n × (n ≢ cell)) cells' → AreOpenRows (set rows cell []) cells'
  row_cleared cells' removed = row_written [] cells' (λ n c. are.within n (removed.only n c).0) (λ none. refl) (λ n ne none c. none (removed.all n (c, ne)))

  -- some of the row is kept
  pub row_kept : (kept row : List ℕ) → IsListing ◌<◌ (λ n. Contains (get_or rows cell []) n × Contains kept n) row → AreOpenRows (set rows cell row) cells
  row_kept kept row both =
      row_written row cells are.within
      (λ none. none_in row (λ n c. contains_none n (subst (λ xs. Contains xs n) (are.others cell none) (both.only n c).0)))
      (λ n ne none. none)

  -- the row is made
  pub row_made : (row cells' : List ℕ) → IsListing ◌<◌ (λ n. Contains cells n ⊎ (n ≡ cell)) cells' → AreOpenRows (set rows cell row) cells'
  row_made row cells' put =
      row_written row cells'
      (λ n c. ⊎_elim (λ old. are.within n old) (λ e. subst (λ k. k < length rows) (sym e) lt) (put.only n c))
      (λ none. absurd (none (put.all cell (inr refl))))
      (λ n ne none c. none (put.all n (inl c)))
