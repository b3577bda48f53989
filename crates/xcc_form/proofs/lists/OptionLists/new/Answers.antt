use Rattle.std.proofs.Common.{◌≡◌, ◌<◌, ◌++◌, ◌∙◌, List, arith, ap, length, length-append, subst, sym}
use Rattle.match_board.specs.Board.{cell_count}
use Rattle.match_puzzle.specs.Prefix.{Layout, empty_prefix}
use Rattle.match_puzzle.specs.Fitting.{AreFitting}
use Rattle.match_puzzle.specs.declared.items.Item.TheVariants.{Cell}
use Rattle.match_puzzle.specs.declared.placements.Pair.{Pair}
use Rattle.xcc_form.specs.Layout.{AreLaidOut}
use Rattle.xcc_form.proofs.PairsLemmas.{no_pairs, one_cell_more, legal_fitting, all_cells}
use Rattle.xcc_form.proofs.LayoutLemmas.{laid_out_none}
use Rattle.xcc_form.proofs.lists.OptionLists.new.Goals as goal

pub loop-cell-init : goal.loop-cell-init
loop-cell-init c =
    rw (c.new-2.ensures.items, c.new-3.ensures.items, c.in_ok-vec.ensures.items)
    (record {
      pairs = no_pairs c.args.puzzle.now;
      laid_out = laid_out_none c.args.puzzle.now c.args.shared.now;
      short = omega arith;
    })

pub add_all-requires : goal.add_all-requires
add_all-requires c =
    let p = c.args.puzzle.now in
    let xs : List Pair = c.fitting-fitting.result in
    let fitting : AreFitting p (empty_prefix p) (Cell c.loop-cell.cell) xs = subst (λ (q : Layout). AreFitting q.puzzle q.placed (Cell c.loop-cell.cell) xs) c.in_ok-nothing.ensures.empty c.fitting-fitting.ensures in
    let before = c.loop-cell.invariant in
    let kept = c.in_ok-reserve.ensures.items in
    let as_long = ap length kept in
    record {
      legal = legal_fitting p c.loop-cell.cell xs fitting;
      shared = c.requires.shared;
      few = c.requires.few;
      laid_out = subst (λ (pairs : List Pair). AreLaidOut p c.args.shared.now pairs c.loop-cell.lists.starts.items c.loop-cell.lists.edges.items) (sym kept) before.laid_out;
      short = omega (arith, as_long, before.short, c.len.ensures.count, c.len.ensures.few, c.loop-cell-test.true, c.cells-cell-end.ensures.most);
    }

pub loop-cell-preserved : goal.loop-cell-preserved
loop-cell-preserved c =
    let p = c.args.puzzle.now in
    let cell = c.loop-cell.cell in
    let xs : List Pair = c.fitting-fitting.result in
    let fitting : AreFitting p (empty_prefix p) (Cell cell) xs = subst (λ (q : Layout). AreFitting q.puzzle q.placed (Cell cell) xs) c.in_ok-nothing.ensures.empty c.fitting-fitting.ensures in
    let before = c.loop-cell.invariant in
    let added = c.in_ok-add_all.ensures in
    let all : c.add_all.new.self.pairs.items ≡ c.loop-cell.lists.pairs.items ++ xs = added.pairs ∙ ap (λ (zs : List Pair). zs ++ xs) c.in_ok-reserve.ensures.items in
    let within : cell < cell_count p.board = omega (arith, c.loop-cell-test.true, c.cells-cell-end.ensures.count, ap cell_count c.board.ensures.value) in
    record {
      pairs = one_cell_more p cell c.loop-cell.lists.pairs.items xs c.add_all.new.self.pairs.items within before.pairs fitting all;
      laid_out = added.laid_out;
      short =
          let longer = ap length all in
          let both = length-append c.loop-cell.lists.pairs.items xs in
          omega (arith, longer, both, before.short, c.len.ensures.count, c.len.ensures.few);
    }

pub returns-clause-pairs : goal.returns-clause-pairs
returns-clause-pairs c =
    let p = c.args.puzzle.now in
    all_cells p c.loop-cell.cell c.loop-cell.lists.pairs.items (omega (arith, c.loop-cell-test.false, c.cells-cell-end.ensures.count, ap cell_count c.board.ensures.value)) c.loop-cell.invariant.pairs
