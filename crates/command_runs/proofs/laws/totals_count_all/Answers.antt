use Rattle.std.proofs.Common.{◌≡◌, ◌+◌, ◌-◌, ℕ, List, sum, length, arith, sym, subst}
use Rattle.match_puzzle.specs.Arrangement.{HasArrangements}
use Rattle.count_search.specs.Branches.{HaveTogether, every}
use Rattle.count_search.proofs.PartLemmas.{parts_have_all}
use Rattle.command_runs.proofs.laws.totals_count_all.Goals as goal

pub returns : goal.returns
returns c = λ x branches told total split true_of have.
    let counts = have.counts in
    subst (HasArrangements x.puzzle) (sym have.is) (split (sum counts) (parts_have_all x branches counts have.are_counts.some (λ part number at.
    let same : part + 1 - 1 ≡ part = omega arith in
    subst (λ earlier. HaveTogether x (every (length counts) earlier branches) number) same (true_of _ (have.are_counts.each part number at)))))
