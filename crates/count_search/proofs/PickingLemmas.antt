-- Chosen options are chosen anew, one after the other.
use Rattle.std.proofs.Common.{◌≡◌, ◌++◌, [], ℕ, List, ap, ◌∙◌}
use Rattle.xcc_form.specs.Options.{Compiled}
use Rattle.xcc_form.specs.Chosen.{Selection}
use Rattle.count_search.specs.Branches.{WeightedBranch}

-- the selection of these options
abbrev selected : Compiled → (chosen : List ℕ) → Selection
selected x chosen = record { compiled = x; chosen = chosen }

-- a branch is chosen where nothing is chosen before
pub chosen_for : (v s : Selection) (b : WeightedBranch) (options : List ℕ) → v ≡ s → s.chosen ≡ [] → options ≡ b.chosen → selected v.compiled (v.chosen ++ options) ≡ selected s.compiled b.chosen
chosen_for v s b options same none chosen =
    ap (λ (t : Selection). selected t.compiled (t.chosen ++ options)) same
    ∙ ap (λ cs. selected s.compiled (cs ++ options)) none
    ∙ ap (selected s.compiled) chosen
