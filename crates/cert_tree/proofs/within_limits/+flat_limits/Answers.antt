use Rattle.std.proofs.Common.{◌≡◌, ◌+◌, ◌-◌, ◌≤◌, suc, refl, ap, sym, subst, ◌∙◌, arith}
use Rattle.match_puzzle.specs.declared.items.Item.TheVariants as items
use Rattle.cert_tree.specs.Tree.{branch, more, count}
use Rattle.cert_tree.specs.Heads.{first, front, past}
use Rattle.cert_tree.specs.Limits.{IsTreeWithin, AreTreesWithin}
use Rattle.cert_tree.proofs.HeadLemmas.{count-front, front_first, past_first, count_first}
use Rattle.cert_tree.proofs.TreeLimitLemmas.{branch_by_children}
use Rattle.cert_tree.proofs.within_limits.+flat_limits.Goals as goal

pub are_first_within-returns-then-children-most-clause-within :
    goal.are_first_within-returns-then-children-most-clause-within
are_first_within-returns-then-children-most-clause-within t c = λ within.
    let many = count-front c.args.children c.args.trees.now c.requires in
    let over = c.if-children-most.true in
    omega (arith, within.1, many, over, c.from.ensures)

pub are_first_within-loop-preserved : goal.are_first_within-loop-preserved
are_first_within-loop-preserved t c =
    let room = c.args.room in
    let n = c.args.children in
    let i = c.loop.counter in
    let trees = c.loop.trees in
    let left = n - (i + 1) in
    let less : n - i ≡ suc left = omega arith in
    let split : front (n - i) trees ≡ more (first trees) (front left (past 1 trees)) = front_first (n - i) left trees less c.loop.invariant.counted in
    let gone : c.is_first_within.new.trees ≡ past 1 trees = c.if-not-is_first_within.ensures.past refl in
    let one : IsTreeWithin c.args.cells room (first trees) = c.if-not-is_first_within.ensures.within in
    record {
      back = λ others. c.loop.invariant.back (subst (AreTreesWithin c.args.cells room) (sym split) (one, subst (λ ts. AreTreesWithin c.args.cells room (front left ts)) gone others));
      on = λ all. subst (λ ts. AreTreesWithin c.args.cells room (front left ts)) (sym gone) (subst (AreTreesWithin c.args.cells room) split (c.loop.invariant.on all)).1;
      past = ap (past left) gone ∙ sym (past_first (n - i) left trees less c.loop.invariant.counted) ∙ c.loop.invariant.past;
      counted = subst (λ ts. left ≤ count ts) (sym gone) (count_first (n - i) left trees less c.loop.invariant.counted);
    }

pub are_first_within-returns-clause-within : goal.are_first_within-returns-clause-within
are_first_within-returns-clause-within t c =
    let many = count-front c.args.children c.args.trees.now c.requires in
    let zero : c.args.children - c.loop.counter ≡ 0 = omega arith in
    (omega (arith, many, c.if-children-eq0.false), omega (arith, many, c.if-children-most.false, c.from.ensures), c.loop.invariant.back (subst (λ k. AreTreesWithin c.args.cells c.args.room (front k c.loop.trees)) (sym zero) tt))

pub is_first_within-returns-then-cell-cells-clause-within :
    goal.is_first_within-returns-then-cell-cells-clause-within
is_first_within-returns-then-cell-cells-clause-within t c =
    let children = front c.in-Cell.children c.next.new.self in
    let is : first c.args.trees.now ≡ branch (items.Cell c.in-Cell.cell) children = sym (ap first c.in-Cell.ensures.first) in
    let checked = c.are_first_within in
    rw is (branch_by_children c.args.cells c.args.room (items.Cell c.in-Cell.cell) children checked.result c.if-room-eq0.false c.if-cell-cells.true checked.ensures.within)

pub is_first_within-returns-then-cell-cells-clause-past :
    goal.is_first_within-returns-then-cell-cells-clause-past
is_first_within-returns-then-cell-cells-clause-past t c = λ within. c.are_first_within.ensures.past within ∙ ap (past 1) c.in-Cell.ensures.first

pub is_first_within-returns-then-tile-cells-clause-within :
    goal.is_first_within-returns-then-tile-cells-clause-within
is_first_within-returns-then-tile-cells-clause-within t c =
    let children = front c.in-Tile.children c.next.new.self in
    let is : first c.args.trees.now ≡ branch (items.Tile c.in-Tile.tile) children = sym (ap first c.in-Tile.ensures.first) in
    let checked = c.are_first_within-then-tile-cells in
    rw is (branch_by_children c.args.cells c.args.room (items.Tile c.in-Tile.tile) children checked.result c.if-room-eq0.false c.if-tile-cells.true checked.ensures.within)

pub is_first_within-returns-then-tile-cells-clause-past :
    goal.is_first_within-returns-then-tile-cells-clause-past
is_first_within-returns-then-tile-cells-clause-past t c = λ within. c.are_first_within-then-tile-cells.ensures.past within ∙ ap (past 1) c.in-Tile.ensures.first
