-- A state as it stood before several choices.
use Rattle.std.proofs.Common.{◌≡◌, ◌<◌, ◌-◌, ◌∷◌, [], ℕ, suc, length, length-append, arith, ap, sym, ◌∙◌}
use Rattle.std.proofs.lemmas.List.{length-take-le}
use Rattle.xcc_form.specs.Chosen.{Selection, with_option, without_last, before_last, before_any}

module _ (S : Type 0) (selection : S → Selection) (taken_back : S → S) where
  -- before one choice more, all is as it was before the others
  pub one_back : (s chosen : S) (option : ℕ) → selection chosen ≡ with_option (selection s) option → taken_back chosen ≡ s → before_any selection taken_back chosen ≡ before_any selection taken_back s
  one_back s chosen option e back =
      let long = ap (λ (v : Selection). length v.chosen) e ∙ length-append (selection s).chosen (option ∷ []) in
      let one : length (selection chosen).chosen ≡ suc (length (selection s).chosen) = omega (arith, long) in
      ap (λ n. before_last taken_back n chosen) one ∙ ap (before_last taken_back (length (selection s).chosen)) back

  -- nor is it another where the last choice is taken back
  pub back_from : ((s : S) → selection (taken_back s) ≡ without_last (selection s)) → (s : S) → 0 < length (selection s).chosen → before_any selection taken_back (taken_back s) ≡ before_any selection taken_back s
  back_from all_but_last s some =
      let long = ap (λ (v : Selection). length v.chosen) (all_but_last s) in
      let cut : length (selection (taken_back s)).chosen ≡ length (selection s).chosen - 1 = omega (arith, long, length-take-le (length (selection s).chosen - 1) (selection s).chosen (omega arith)) in
      let one : length (selection s).chosen ≡ suc (length (selection s).chosen - 1) = omega (arith, some) in
      ap (λ n. before_last taken_back n (taken_back s)) cut ∙ sym (ap (λ n. before_last taken_back n s) one)

  -- where nothing is chosen, nothing is to be taken back
  pub none_back : (s : S) → length (selection s).chosen ≡ 0 → before_any selection taken_back s ≡ s
  none_back s none = ap (λ n. before_last taken_back n s) none
