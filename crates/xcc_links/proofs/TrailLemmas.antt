-- What was hidden is put back.
use Rattle.std.proofs.Common.{◌≡◌, ◌≤◌, ℕ, List, [], ◌∷◌, ◌++◌, length, take, drop, refl, ap, sym, ◌∙◌, append_assoc}
use Rattle.std.proofs.lemmas.List.{append-nil, drop-append-le, take-append-le}
use Rattle.xcc_links.specs.Trails.{Arrays, back, LeadsBack}

module _ (step : ℕ → Arrays → Arrays) where
  pub back_append : (xs ys : List ℕ) (a : Arrays) → back step (xs ++ ys) a ≡ back step xs (back step ys a)
  back_append [] ys a = refl
  back_append (s ∷ xs) ys a = ap (step s) (back_append xs ys a)

  pub goes_none : (a : Arrays) (trail : List ℕ) → LeadsBack step a trail a trail
  goes_none a trail = record { more = []; longer = sym (append-nil trail); back_to = refl }

  pub goes_on : (a : Arrays) (t : List ℕ) (a' : Arrays) (t' : List ℕ) (a'' : Arrays) (t'' : List ℕ) → LeadsBack step a t a' t' → LeadsBack step a' t' a'' t'' → LeadsBack step a t a'' t''
  goes_on a t a' t' a'' t'' f g = record {
    more = f.more ++ g.more;
    longer = g.longer ∙ ap (λ x. x ++ g.more) f.longer ∙ append_assoc t f.more g.more;
    back_to = back_append f.more g.more a'' ∙ ap (back step f.more) g.back_to ∙ f.back_to;
  }

  -- What stood before a mark stands after all is put back to the mark.
  pub goes_back : (a : Arrays) (t : List ℕ) (a' : Arrays) (t' : List ℕ) (mark : ℕ) → LeadsBack step a t a' t' → mark ≤ length t → back step (drop mark t') a' ≡ back step (drop mark t) a
  goes_back a t a' t' mark g le =
      ap (λ x. back step (drop mark x) a') g.longer
      ∙ ap (λ x. back step x a') (drop-append-le mark t g.more le)
      ∙ back_append (drop mark t) g.more a'
      ∙ ap (back step (drop mark t)) g.back_to

  pub goes_take : (a : Arrays) (t : List ℕ) (a' : Arrays) (t' : List ℕ) (mark : ℕ) → LeadsBack step a t a' t' → mark ≤ length t → take mark t' ≡ take mark t
  goes_take a t a' t' mark g le = ap (take mark) g.longer ∙ take-append-le mark t g.more le

  -- One step back.
  module _ (a : Arrays) (trail rest : List ℕ) (s : ℕ) (mark : ℕ) (last : trail ≡ rest ++ s ∷ []) (le : mark ≤ length rest) where
    pub back_one : back step (drop mark rest) (step s a) ≡ back step (drop mark trail) a
    back_one = sym (ap (λ t. back step (drop mark t) a) last ∙ ap (λ t. back step t a) (drop-append-le mark rest (s ∷ []) le) ∙ back_append (drop mark rest) (s ∷ []) a)

    pub take_one : take mark rest ≡ take mark trail
    take_one = sym (ap (take mark) last ∙ take-append-le mark rest (s ∷ []) le)
