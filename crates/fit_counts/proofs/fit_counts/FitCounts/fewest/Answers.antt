use Rattle.std.proofs.Common.{◌%◌, length, arith, ap, sym, subst, ⊎_elim}
use Rattle.match_board.specs.Board.{cell_count}
use Rattle.match_puzzle.specs.Puzzle.{Task}
use Rattle.match_puzzle.specs.Fitting.{IsNumberOf}
use Rattle.fit_counts.specs.Placing.{placed_by}
use Rattle.fit_counts.specs.FitSizes.{AreSizes, AreToSettle}
use Rattle.fit_counts.proofs.CountedLemmas.{kept_sizes, none_open, fewest_at}
use Rattle.fit_counts.proofs.fit_counts.FitCounts.fewest.Goals as goal
use Rattle.fit_counts.proofs.fit_counts.FitCounts.fewest.Goals.{After-least_size-least}

are_sizes : (c : After-least_size-least) → AreSizes c.args.self.now.puzzle (placed_by c.args.self.now) c.deref.result.now
are_sizes c =
    subst (AreSizes c.args.self.now.puzzle (placed_by c.args.self.now)) (sym c.deref.ensures.value)
    (kept_sizes c.self.inside.partial.puzzle c.self.inside.pairs.items c.self.inside.partial.placed c.self.inside.counts.rows c.self.inside.counts.sizes.items c.self.inside.saved.items c.self.invariant c.args.self.now c.self.view_is)

sees : (c : After-least_size-least) → AreToSettle c.args.self.now.puzzle c.deref.result.now c.sizes_to_settle.result.now
sees c = subst (λ (t : Task). AreToSettle t c.deref.result.now c.sizes_to_settle.result.now) c.puzzle.ensures.same c.sizes_to_settle.ensures

pub sizes_to_settle-requires : goal.sizes_to_settle-requires
sizes_to_settle-requires c =
    let i = c.self.inside in
    let kept = kept_sizes i.partial.puzzle i.pairs.items i.partial.placed i.counts.rows i.counts.sizes.items i.saved.items c.self.invariant c.args.self.now c.self.view_is in
    let long = kept.open_items.long in
    let cells = ap (λ (t : Task). cell_count t.board) c.puzzle.ensures.same in
    let same = ap length c.deref.ensures.value in
    omega (arith, long, cells, same)

pub returns-then-least : goal.returns-then-least
returns-then-least c =
    let there = (goal.at.returns-then-least c).After-least_size-least in
    none_open c.args.self.now.puzzle (placed_by c.args.self.now) c.cells-cells.ensures.puzzle c.cells-cells.ensures.prefix c.deref.result.now (are_sizes there) c.sizes_to_settle.result.now (sees there) c.least_size-least.result c.least_size-least.ensures.least
    c.if-least.true c.least_size-least.ensures.range

pub returns : goal.returns
returns c =
    let p = c.args.self.now.puzzle in
    let q = placed_by c.args.self.now in
    let least = c.least_size-least.result in
    let there = (goal.at.returns c).After-least_size-least in
    ⊎_elim
    (λ e. absurd (c.if-least.false e))
    (λ w.
    fewest_at p q c.cells-cells.ensures.puzzle c.cells-cells.ensures.prefix c.deref.result.now (are_sizes there) c.sizes_to_settle.result.now (sees there) least c.least_size-least.ensures.least w.0 w.1 w.2 c.if-least.false c.numbered.result
    (subst (λ n. IsNumberOf n (least % 1024) c.numbered.result) c.cells-cells.ensures.count c.numbered.ensures))
    c.least_size-least.ensures.one
