-- Partial solutions with one option more, and with fewer.
use Rattle.std.proofs.Common.{◌<◌, ◌++◌, ◌∷◌, [], ℕ, List, length, take, arith, sym, ◌∙◌, subst, ⊎_elim}
use Rattle.std.proofs.lemmas.List.{get_or-take, length-take}
use Rattle.std.proofs.lemmas.List.Elements.{Contains-push_cases}
use Rattle.std.proofs.lemmas.Option.{slice_get_within}
use Rattle.match_puzzle.proofs.PairLemmas.{taken_at}
use Rattle.fit_counts.proofs.PlacedPairLemmas.{pushed_at}
use Rattle.xcc_form.proofs.OptionLemmas.{contains_at}
use Rattle.xcc_form.specs.ExactCover.{Cover}
use Rattle.xcc_form.specs.Clashes.{Clash, IsOpen, IsPartialSolution}

module _ (x : Cover) (chosen : List ℕ) (partial : IsPartialSolution x chosen) where
  pub one_more : (option : ℕ) → IsOpen x chosen option → IsPartialSolution x (chosen ++ option ∷ [])
  one_more option is_open = record {
    real = λ o c. ⊎_elim (λ old. partial.real o old) (λ e. subst (λ n. n < length x.options) e is_open.real) (Contains-push_cases chosen option o c);
    apart = λ place place' o p lt at at' clash.
        ⊎_elim
        (λ here.
        ⊎_elim
        (λ there. partial.apart place place' o p lt here there clash)
        (λ last. is_open.free o (contains_at chosen place o here) (subst (Clash x o) last.1 clash))
        (pushed_at chosen option place' p at'))
        (λ last. let within = ⊎_elim (λ there. let w = slice_get_within chosen place' p there in omega (arith, w, lt, last.0)) (λ end. omega (arith, end.0, lt, last.0)) (pushed_at chosen option place' p at') in absurd within)
        (pushed_at chosen option place o at);
  }

  pub fewer : (n : ℕ) → IsPartialSolution x (take n chosen)
  fewer n = record {
    real = λ o c.
        let within = c.1 in
        let long = length-take n chosen in
        partial.real o (c.0, omega (arith, within, long), sym (get_or-take n chosen c.0 o (omega (arith, within, long))) ∙ c.2);
    apart = λ place place' o p lt at at' clash. partial.apart place place' o p lt (taken_at chosen n place o at).1 (taken_at chosen n place' p at').1 clash;
  }
