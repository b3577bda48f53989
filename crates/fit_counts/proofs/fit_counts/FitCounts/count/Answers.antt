use Rattle.std.proofs.Common.{◌<◌, ◌/◌, length, get_or, arith, sym, ap, ◌∙◌}
use Rattle.std.proofs.lemmas.List.{get_or_read}
use Rattle.fit_counts.specs.Placing.{placed_by}
use Rattle.fit_counts.specs.FitSizes.{AreSizes}
use Rattle.fit_counts.proofs.CountedLemmas.{kept_sizes, open_parts, open_is_item, place_within, count_of_entry}
use Rattle.fit_counts.proofs.fit_counts.FitCounts.count.Goals as goal
use Rattle.fit_counts.proofs.fit_counts.FitCounts.count.Goals.{After-place_of}

are_sizes : (c : After-place_of) → AreSizes c.args.self.now.puzzle (placed_by c.args.self.now) c.self.inside.counts.sizes.items
are_sizes c = kept_sizes c.self.inside.partial.puzzle c.self.inside.pairs.items c.self.inside.partial.placed c.self.inside.counts.rows c.self.inside.counts.sizes.items c.self.inside.saved.items c.self.invariant c.args.self.now c.self.view_is

within : (c : After-place_of) → c.place_of.result < length c.self.inside.counts.sizes.items
within c =
    let p = c.args.self.now.puzzle in
    let q = placed_by c.args.self.now in
    let e = c.place_of.ensures in
    place_within p q e.puzzle e.prefix c.self.inside.counts.sizes.items (are_sizes c) c.args.item (open_is_item p q e.puzzle e.prefix c.args.item (open_parts p q c.args.item c.requires).0) c.place_of.result e.place

pub index-requires : goal.index-requires
index-requires c = let lt = within (goal.at.index-requires c).After-place_of in omega (arith, lt)

pub returns : goal.returns
returns c =
    let p = c.args.self.now.puzzle in
    let q = placed_by c.args.self.now in
    let e = c.place_of.ensures in
    let a = (goal.at.returns c).After-place_of in
    let sizes = c.self.inside.counts.sizes.items in
    let read = get_or_read sizes c.place_of.result c.index.result.now (within a) c.index.ensures 0 ∙ ap (λ n. get_or sizes n 0) e.place in
    let w = count_of_entry p q e.puzzle e.prefix sizes (are_sizes a) c.args.item (open_parts p q c.args.item c.requires).0 in
    (w.0, w.1, w.2 ∙ ap (λ n. n / 1024) (sym read))
