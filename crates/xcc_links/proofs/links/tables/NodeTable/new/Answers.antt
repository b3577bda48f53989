use Rattle.std.proofs.Common.{◌≡◌, ◌≤◌, ◌+◌, ◌*◌, length, arith, ap, subst}
use Rattle.std.proofs.lemmas.Option.{slice_get_within}
use Rattle.match_limits.specs.declared.TheConstants.{MOST_CELLS}
use Rattle.match_puzzle.specs.Puzzle.{Task}
use Rattle.xcc_form.specs.Options.{item_count}
use Rattle.xcc_links.specs.TableLayout.{IsLaidOutTo}
use Rattle.xcc_links.proofs.TableLemmas.{laid_table}
use Rattle.xcc_links.proofs.links.tables.NodeTable.new.Goals as goal

pub returns : goal.returns
returns c =
    let x = c.args.xcc.now in
    let takable = c.from.result + c.from-2.result in
    let items = takable + c.secondaries.result + 1 in
    let options = c.options-options.result in
    let entries = c.add_roots.new.entries.items in
    let starts = c.add_roots.new.starts.items in
    let cells = c.cells.ensures in
    let tiles = c.tile_count.ensures in
    let count : takable ≡ item_count x.puzzle = omega (arith, c.from.ensures, cells.count, c.from-2.ensures, tiles.count, ap (λ (p : Task). length p.words) c.puzzle.ensures.value) in
    let few : takable ≤ 2 * MOST_CELLS = omega (arith, c.from.ensures, cells.most, c.from-2.ensures, tiles.few) in
    let s = c.secondaries.ensures in
    let o = c.options-options.ensures in
    let e = c.entries.ensures in
    let last : c.loop-option.option ≡ options = omega arith in
    let before = subst (λ n. IsLaidOutTo x items n 0 c.loop-option.entries.items c.loop-option.starts.items) last c.loop-option.invariant in
    let laid : IsLaidOutTo x items options takable entries starts = c.in_ok-add_roots.ensures x before in
    let is_items : items ≡ item_count x.puzzle + length x.shared + 1 = omega (arith, count, s.count) in
    record {
      primaries = c.primaries-primaries.ensures.count;
      takable = count;
      items = is_items;
      options = o.count;
      table = laid_table x c.requires takable items options entries starts laid count is_items o.count (omega (arith, few, s.few, e.count, e.few, laid.long)) (omega (arith, few, o.few));
      own = laid.own;
      nodes = λ option d at. laid.nodes option d (let lt = slice_get_within x.options option d at in omega (arith, lt, o.count)) at;
      root = laid.root;
    }
