-- What a solve of a puzzle comes to.
use Rattle.std.proofs.Common.{◌≡◌, ◌≢◌, ◌<◌, ◌+◌, ℕ, List, Some, sym, subst, ap, ◌∙◌, take, arith}
use mathlib.Core.Logic.{dite}
use native.Mathlib.Decide.{ℕ_discrete}
use Rattle.std.specs.List.{slice_get}
use Rattle.match_puzzle.specs.Puzzle.{Task}
use Rattle.match_puzzle.specs.Fitting.{Fits}
use Rattle.match_puzzle.specs.declared.placements.Pair.{Pair}
use Rattle.match_puzzle.specs.Arrangement.{IsArrangement}
use Rattle.fit_counts.specs.Placing.{prefix_of}
use Rattle.match_limits.proofs.ListLemmas.{contains_at}
use Rattle.xcc_form.specs.Chosen.{Selection}
use Rattle.xcc_dance.specs.Outcome.{IsPackedOutcome, SearchState}
use Rattle.xcc_dance.specs.declared.searches.PackedOutcome.{PackedOutcome}
use Rattle.xcc_dance.specs.declared.searches.PackedOutcome.TheVariants as packed
use Rattle.solver.specs.Solving.{IsFoundIn}

-- each of the first pairs fits those before it
abbrev pub FitUpTo : Task → List Pair → ℕ → Type 0
FitUpTo p pairs n = (place : ℕ) (x : Pair) → place < n → slice_get pairs place ≡ Some x → Fits p (prefix_of p (take place pairs)) x.cell x.placement

some_is : {A : Type 0} {x y : A} → Some x ≡ Some y → x ≡ y
some_is e = cc

-- one more fits
pub fit_more : (p : Task) (pairs : List Pair) (i : ℕ) (x : Pair) → slice_get pairs i ≡ Some x → FitUpTo p pairs i → Fits p (prefix_of p (take i pairs)) x.cell x.placement → FitUpTo p pairs (i + 1)
fit_more p pairs i x there before fits place y lt at = dite (ℕ_discrete place i)
    (λ (e : place ≡ i). let same : y ≡ x = some_is (sym at ∙ ap (slice_get pairs) e ∙ there) in
    subst (λ k. Fits p (prefix_of p (take k pairs)) y.cell y.placement) (sym e) (subst (λ (z : Pair). Fits p (prefix_of p (take i pairs)) z.cell z.placement) (sym same) fits))
    (λ (ne : place ≢ i). before place y (omega arith) at)

-- what a search of the puzzle comes to
pub found_by : (p : Task) (before after : SearchState Selection) (prefix : List Pair) (fuel : ℕ) (outcome : PackedOutcome) → after.engine.compiled.puzzle ≡ p → IsPackedOutcome (λ (v : Selection). v) before after prefix fuel outcome → IsFoundIn p outcome
found_by p before after prefix fuel (packed.Done tree found) same is = (λ number a at. subst (λ (q : Task). IsArrangement q a) same (is.0.found_are a (contains_at found.items number a at)).arrangement, is.0.within)
found_by p before after prefix fuel packed.GaveUp same is = tt
