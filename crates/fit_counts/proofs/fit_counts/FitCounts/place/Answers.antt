use Rattle.std.proofs.Common.{◌++◌, ◌∷◌, [], List, ap, sym, subst, ◌∙◌}
use Rattle.match_puzzle.specs.Puzzle.{Task}
use Rattle.match_puzzle.specs.Prefix.{Layout, with_pair}
use Rattle.match_puzzle.specs.Fitting.{Fits}
use Rattle.match_puzzle.specs.declared.placements.Pair.{Pair}
use Rattle.fit_counts.specs.Placing.{Placing, placed_by, with_next}
use Rattle.fit_counts.specs.FitSizes.{AreKeptBeside}
use Rattle.fit_counts.proofs.KeptCountLemmas.{kept_pushed}
use Rattle.fit_counts.proofs.fit_counts.FitCounts.place.Goals as goal
use Rattle.fit_counts.proofs.fit_counts.FitCounts.place.Goals.{After-reserve}

-- the pair fits those that are kept
pair_fits : (c : After-reserve) → Fits c.self.inside.partial.puzzle c.self.inside.partial.placed c.args.pair.cell c.args.pair.placement
pair_fits c =
    let pair = c.args.pair in
    subst (λ q. Fits c.self.inside.partial.puzzle q pair.cell pair.placement) (sym c.self.invariant.placed)
    (subst (λ (v : Placing). Fits v.puzzle (placed_by v) pair.cell pair.placement) (sym c.self.view_is) c.requires)

pub invariant_of-self-2 : goal.invariant_of-self-2
invariant_of-self-2 c =
    let i = c.self.inside in
    let p = i.partial.puzzle in
    let q = i.partial.placed in
    let kept = c.self.invariant in
    let pair = c.args.pair in
    let rows = c.take_out.new.self.rows in
    let sizes = c.take_out.new.self.sizes.items in
    let fits = pair_fits (goal.at.invariant_of-self-2 c).After-reserve in
    let pairs = c.push_reserved.ensures.items ∙ ap (λ ps. ps ++ pair ∷ []) c.reserve.ensures.items in
    let saved = c.in_ok-extend_from_slice.ensures.items ∙ ap (λ s. i.saved.items ++ s) c.deref.ensures.value in
    let all = kept_pushed p i.pairs.items pair q i.counts.rows i.counts.sizes.items i.saved.items kept fits rows sizes c.take_out.ensures.rows c.take_out.ensures.sizes in
    let after = with_pair q pair.cell pair.placement in
    subst (λ (v : Layout). AreKeptBeside v.puzzle c.push_reserved.new.self.items v.placed rows sizes c.extend_from_slice.new.self.items) (sym c.place.ensures)
    (subst (λ s. AreKeptBeside p c.push_reserved.new.self.items after rows sizes s) (sym saved) (subst (λ ps. AreKeptBeside p ps after rows sizes (i.saved.items ++ i.counts.sizes.items)) (sym pairs) all))

pub invariant_of-self : goal.invariant_of-self
invariant_of-self c =
    let i = c.self.inside in
    subst (λ ps. AreKeptBeside i.partial.puzzle ps i.partial.placed i.counts.rows i.counts.sizes.items i.saved.items) (sym c.reserve.ensures.items) c.self.invariant

pub invariant_of-self-in_err-extend_from_slice : goal.invariant_of-self-in_err-extend_from_slice
invariant_of-self-in_err-extend_from_slice c =
    let i = c.self.inside in
    let same = c.in_err-extend_from_slice.ensures.items in
    subst (AreKeptBeside i.partial.puzzle c.reserve.new.self.items i.partial.placed i.counts.rows i.counts.sizes.items) (sym same)
    (subst (λ ps. AreKeptBeside i.partial.puzzle ps i.partial.placed i.counts.rows i.counts.sizes.items i.saved.items) (sym c.reserve.ensures.items) c.self.invariant)

pub take_out-requires-clause-fits : goal.take_out-requires-clause-fits
take_out-requires-clause-fits c = pair_fits (goal.at.take_out-requires-clause-fits c).After-reserve

pub take_out-requires-clause-counts : goal.take_out-requires-clause-counts
take_out-requires-clause-counts c = record { rows = c.self.invariant.rows; sizes = c.self.invariant.sizes }

pub place-requires-clause-legal : goal.place-requires-clause-legal
place-requires-clause-legal c = (pair_fits (goal.at.place-requires-clause-legal c).After-reserve).legal

pub place-requires-clause-free : goal.place-requires-clause-free
place-requires-clause-free c = (pair_fits (goal.at.place-requires-clause-free c).After-reserve).free

pub place-requires-clause-unused : goal.place-requires-clause-unused
place-requires-clause-unused c = (pair_fits (goal.at.place-requires-clause-unused c).After-reserve).unused

pub returns-clause-placed : goal.returns-clause-placed
returns-clause-placed c =
    let i = c.self.inside in
    let placing : Task → List Pair → Placing = λ p pairs. record { puzzle = p; pairs = pairs } in
    let pairs = c.push_reserved.ensures.items ∙ ap (λ ps. ps ++ c.args.pair ∷ []) c.reserve.ensures.items in
    ap (λ (v : Layout). placing v.puzzle c.push_reserved.new.self.items) c.place.ensures ∙ ap (placing i.partial.puzzle) pairs ∙ ap (λ v. with_next v c.args.pair) c.self.view_is
