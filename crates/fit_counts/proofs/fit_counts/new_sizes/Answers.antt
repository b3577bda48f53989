use Rattle.std.proofs.Common.{◌≡◌, ◌+◌, ◌*◌, length, arith, sym, subst, ap, ◌∙◌}
use Rattle.std.proofs.lemmas.List.{length_push}
use Rattle.match_board.specs.Board.{cell_count}
use Rattle.match_puzzle.specs.Puzzle.{Task}
use Rattle.match_puzzle.specs.Fitting.{IsItem, IsNumberOf}
use Rattle.fit_counts.proofs.NewSizeLemmas.{AreEntriesBelow, entries_more, all_entries, item_within, counted_in, has_rows_of}
use Rattle.fit_counts.proofs.fit_counts.new_sizes.Goals as goal
use Rattle.fit_counts.proofs.fit_counts.new_sizes.Goals.{After-cells-cells, After-numbered}

cells_are : (c : After-cells-cells) → c.cells-cells.result ≡ cell_count c.args.partial.now.puzzle.board
cells_are c = c.cells-cells.ensures.count ∙ ap cell_count c.board.ensures.value ∙ ap (λ (t : Task). cell_count t.board) c.puzzle-puzzle.ensures.same

item_is : (c : After-numbered) → IsItem c.args.partial.now.puzzle c.numbered.result
item_is c =
    let p = c.args.partial.now.puzzle in
    let cells : c.cells-cells.result ≡ cell_count p.board = c.cells-cells.ensures.count ∙ ap cell_count c.board.ensures.value ∙ ap (λ (t : Task). cell_count t.board) c.puzzle-puzzle.ensures.same in
    let tiles : c.tile_count.result ≡ length p.words = c.tile_count.ensures.count ∙ ap (λ (t : Task). length t.words) c.puzzle-puzzle.ensures.same in
    item_within p c.loop-place.place c.numbered.result (subst (λ n. IsNumberOf n c.loop-place.place c.numbered.result) cells c.numbered.ensures)
    (omega (arith, cells, tiles, c.loop-place-test.true))

pub count_in-count-requires : goal.count_in-count-requires
count_in-count-requires c =
    has_rows_of c.args.partial.now.puzzle c.args.partial.now.placed c.puzzle-puzzle.ensures.puzzle c.requires.empty c.args.rows.now c.requires.rows
    c.numbered.result (item_is (goal.at.count_in-count-requires c).After-numbered)

pub loop-place-preserved : goal.loop-place-preserved
loop-place-preserved c =
    let p = c.args.partial.now.puzzle in
    let q = c.args.partial.now.placed in
    let inv = c.loop-place.invariant in
    let sizes = c.loop-place.sizes.items in
    let place = c.loop-place.place in
    let entry = 1024 * c.from-in-loop-place.result + place in
    let items = c.in_ok-push.ensures.items in
    let w = counted_in p q c.puzzle-puzzle.ensures.puzzle c.requires.empty c.args.rows.now c.requires.rows
    c.numbered.result c.count_in-count.result (item_is (goal.at.loop-place-preserved c).After-numbered) c.count_in-count.ensures in
    let many = w.2 in
    let same = c.from-in-loop-place.ensures in
    let long = inv.long in
    let number = subst (λ n. IsNumberOf n place c.numbered.result) (cells_are (goal.at.loop-place-preserved c).After-cells-cells) c.numbered.ensures in
    record {
      long = ap length items ∙ length_push sizes entry ∙ ap (λ n. n + 1) long;
      entries = subst (λ s. AreEntriesBelow p q s (place + 1)) (sym items) (entries_more p q sizes place entry c.numbered.result long inv.entries number (w.0, w.1, omega (arith, many, same)));
    }

pub returns : goal.returns
returns c =
    let p = c.args.partial.now.puzzle in
    let q = c.args.partial.now.placed in
    let inv = c.loop-place.invariant in
    let long = inv.long in
    let cells = cells_are (goal.at.returns c).After-cells-cells in
    let tiles : c.tile_count.result ≡ length p.words = c.tile_count.ensures.count ∙ ap (λ (t : Task). length t.words) c.puzzle-puzzle.ensures.same in
    let end : c.loop-place.place ≡ cell_count p.board + length p.words = omega (arith, cells, tiles, c.loop-place-test.false, c.loop-place.auto) in
    all_entries p q c.loop-place.sizes.items c.puzzle-puzzle.ensures.puzzle c.requires.empty (long ∙ end) (subst (AreEntriesBelow p q c.loop-place.sizes.items) end inv.entries)
