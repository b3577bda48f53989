use Rattle.std.proofs.Common.{◌≡◌, [], List, refl, ap, sym, subst, ◌∙◌}
use Rattle.match_puzzle.specs.Puzzle.{Task, IsPuzzle}
use Rattle.match_puzzle.specs.Prefix.{Layout, empty_prefix}
use Rattle.match_puzzle.specs.declared.placements.Pair.{Pair}
use Rattle.fit_counts.specs.Placing.{Placing}
use Rattle.fit_counts.specs.FitSizes.{AreKeptBeside}
use Rattle.fit_counts.proofs.KeptCountLemmas.{kept_none}
use Rattle.fit_counts.proofs.fit_counts.FitCounts.new.Goals as goal

pub new_sizes-requires-clause-empty : goal.new_sizes-requires-clause-empty
new_sizes-requires-clause-empty c = subst (λ (v : Layout). v.placed ≡ empty_prefix v.puzzle) (sym c.in_ok-partial.ensures.empty) refl

pub new_sizes-requires-clause-rows : goal.new_sizes-requires-clause-rows
new_sizes-requires-clause-rows c = c.in_ok-rows.ensures

pub invariant_of-result : goal.invariant_of-result
invariant_of-result c =
    let p = c.in_ok-partial.partial.puzzle in
    let q = c.in_ok-partial.partial.placed in
    let rows = c.in_ok-rows.rows in
    let sizes = c.in_ok-sizes.sizes.items in
    let is = c.in_ok-partial.ensures.empty in
    let puzzle = subst (λ (v : Layout). IsPuzzle v.puzzle) (sym is) c.in_ok-partial.ensures.puzzle in
    let empty = subst (λ (v : Layout). v.placed ≡ empty_prefix v.puzzle) (sym is) refl in
    let none = kept_none p q rows sizes puzzle empty c.in_ok-rows.ensures c.in_ok-sizes.ensures in
    subst (λ ps. AreKeptBeside p ps q rows sizes c.new-4.result.items) (sym c.new-3.ensures.items)
    (subst (AreKeptBeside p [] q rows sizes) (sym c.new-4.ensures.items) none)

pub returns-clause-empty : goal.returns-clause-empty
returns-clause-empty c =
    let placing : Task → List Pair → Placing = λ p pairs. record { puzzle = p; pairs = pairs } in
    ap (λ (v : Layout). placing v.puzzle c.new-3.result.items) c.in_ok-partial.ensures.empty ∙ ap (placing c.args.puzzle.now) c.new-3.ensures.items

pub returns-clause-puzzle : goal.returns-clause-puzzle
returns-clause-puzzle c = c.in_ok-partial.ensures.puzzle
