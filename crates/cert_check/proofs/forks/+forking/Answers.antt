use Rattle.std.proofs.Common.{arith, IfOk, refl, sym, subst}
use Rattle.std.proofs.lemmas.Result.{IfOk-from_err, IfOk-weaker}
use Rattle.std.specs.Option.{option_or}
use Rattle.match_puzzle.specs.Puzzle.{Task}
use Rattle.cert_tree.specs.Heads.{first}
use Rattle.cert_check.specs.NodeRules.{IsBranch}
use Rattle.cert_check.specs.Walk.{Tells, TellsOfPart, below}
use Rattle.cert_check.proofs.WalkLemmas.{branch_told}
use Rattle.cert_check.proofs.ForkLemmas.{along_begin, along_some, along_trees, turn_fits, turn_fault, turn_has, turn_lifted, turn_more, branch_said, branch_has}
use Rattle.cert_check.specs.declared.forks.Part.{Part}
use Rattle.cert_check.proofs.forks.+forking.Goals as goal

pub forked_branch-returns-in-Some : goal.forked_branch-returns-in-Some
forked_branch-returns-in-Some g t c =
    let at = c.args.at.now in
    let (of_node, is, fails) = c.in-Some.ensures.fault in
    branch_told c.args.setting.now c.args.partial.now at.item at.children at.trees of_node _ c.requires.made c.requires.counted fails is

pub walk_children-loop-number-init : goal.walk_children-loop-number-init
walk_children-loop-number-init g t c =
    let part = c.args.part.now in
    let found = c.pairs_from-pairs.ensures in
    record {
      own = c.requires.own;
      along = along_begin part.setting.now part.item part.partial.now part.trees.now part.start part.end c.trees_from-rest.result c.pairs_from-pairs.result found.0 c.requires.part.children c.requires.part.range found.1 found.2 c.trees_from-rest.ensures;
    }

pub walk_children-place_first-pair-requires-clause-some : goal.walk_children-place_first-pair-requires-clause-some
walk_children-place_first-pair-requires-clause-some g t c =
    let l = c.loop-number in
    along_some l.invariant.along c.loop-number-test.true

pub walk_children-place_first-pair-requires-clause-fits : goal.walk_children-place_first-pair-requires-clause-fits
walk_children-place_first-pair-requires-clause-fits g t c = λ pair rest took.
    let l = c.loop-number in
    turn_fits l.invariant.along l.invariant.own took c.requires.part.children.made c.loop-number-test.true

pub walk_children-forked_walk-requires-clause-some : goal.walk_children-forked_walk-requires-clause-some
walk_children-forked_walk-requires-clause-some g t c κs within =
    let l = c.loop-number in
    along_trees l.invariant.along c.loop-number-test.true

pub walk_children-returns-in-Some : goal.walk_children-returns-in-Some
walk_children-returns-in-Some g t c =
    let l = c.loop-number in
    let of_child = c.in-Some.fault in
    let fails = subst (Tells c.args.part.now.setting.now (first l.rest) c.place_first-pair.new.partial.placed) c.in-Some.is c.in_ok-fault.ensures.tells in
    let told = turn_fault l.invariant.along l.invariant.own c.place_first-pair.ensures.taken c.requires.part.children.made c.loop-number-test.true c.place_first-pair.new.partial c.place_first-pair.ensures.placed of_child (below l.number of_child) fails refl refl in
    IfOk-weaker c.of_parent.result _ _ (λ found is. subst (TellsOfPart c.args.part.now) (sym is) told) c.of_parent.ensures

pub walk_children-lift-requires : goal.walk_children-lift-requires
walk_children-lift-requires g t c =
    let l = c.loop-number in
    (c.place_first-pair.result.placement, turn_has l.invariant.along l.invariant.own c.place_first-pair.ensures.taken c.requires.part.children.made c.loop-number-test.true c.place_first-pair.new.partial c.place_first-pair.ensures.placed c.forked_walk.new.partial (c.in_ok-fault.ensures.restored c.in_default.is))

pub walk_children-skip-requires : goal.walk_children-skip-requires
walk_children-skip-requires g t c =
    let l = c.loop-number in
    along_trees l.invariant.along c.loop-number-test.true

pub walk_children-loop-number-preserved : goal.walk_children-loop-number-preserved
walk_children-loop-number-preserved g t c =
    let l = c.loop-number in
    let none = c.in_default.is in
    let holds = subst (Tells c.args.part.now.setting.now (first l.rest) c.place_first-pair.new.partial.placed) none c.in_ok-fault.ensures.tells in
    record {
      own = turn_lifted l.invariant.along l.invariant.own c.place_first-pair.ensures.taken c.requires.part.children.made c.loop-number-test.true c.place_first-pair.new.partial c.place_first-pair.ensures.placed c.forked_walk.new.partial (c.in_ok-fault.ensures.restored none) c.lift.new.self c.lift.ensures;
      along = turn_more l.invariant.along l.invariant.own c.place_first-pair.ensures.taken c.requires.part.children.made c.loop-number-test.true c.place_first-pair.new.partial c.place_first-pair.ensures.placed holds c.skip.new.self c.skip.ensures;
    }

pub forked_branch-walk_halves-requires-after_bounds : goal.forked_branch-walk_halves-requires-after_bounds
forked_branch-walk_halves-requires-after_bounds g t c κs within =
    let at = c.args.at.now in
    let said = c.in_default.ensures in
    let (pairs, is) = said.right refl in
    record {
      children = branch_has c.args.setting.now c.args.partial.now at.item at.trees at.children pairs c.requires.made is (said.item refl) c.requires.counted (said.few refl);
      range = omega arith;
    }

pub forked_branch-returns : goal.forked_branch-returns
forked_branch-returns g t c =
    let s = c.args.setting.now in
    let q = c.args.partial.now.placed in
    let at = c.args.at.now in
    let (pairs, right) = c.in_default.ensures.right refl in
    let is = subst (λ (p : Task). IsBranch p q at.item at.children pairs) c.requires.made right in
    IfOk-weaker c.walk_halves.result _ _ (λ said told. branch_said s at.item q at.children at.trees pairs said c.requires.counted is told) c.walk_halves.ensures

pub walk_halves-returns : goal.walk_halves-returns
walk_halves-returns g t c =
    IfOk-weaker c.at_once.result _ _ (λ found both.
    let (x, y, is, left, right) = both in
    let left_told = subst (λ (p : Part). TellsOfPart p x) left.shows left.says.met in
    let right_told = subst (λ (p : Part). TellsOfPart p y) right.shows right.says.met in
    subst (TellsOfPart c.args.part.now) {x = option_or x y} (sym {b = option_or x y} is) (c.halves.ensures.both x y left_told right_told))
    c.at_once.ensures

pub forked_walk-returns-in_default-clause-tells : goal.forked_walk-returns-in_default-clause-tells
forked_walk-returns-in_default-clause-tells g t c = c.plain_walk.ensures.tells

pub forked_walk-returns-in_default-clause-restored : goal.forked_walk-returns-in_default-clause-restored
forked_walk-returns-in_default-clause-restored g t c = c.plain_walk.ensures.restored

pub forked_walk-returns-clause-tells : goal.forked_walk-returns-clause-tells
forked_walk-returns-clause-tells g t c =
    subst (λ tree. IfOk c.forked_branch.result (Tells c.args.setting.now tree c.args.partial.now.placed)) (sym c.in-Some.ensures.tree) c.forked_branch.ensures

pub forked_walk-returns-clause-restored : goal.forked_walk-returns-clause-restored
forked_walk-returns-clause-restored g t c = IfOk-weaker c.forked_branch.result _ _ (λ _ _ _. refl) c.forked_branch.ensures

pub walk_part-returns-in_err-own : goal.walk_part-returns-in_err-own
walk_part-returns-in_err-own g t c = IfOk-from_err _ _ c.from_residual.ensures.0

pub walk_children-returns-in_err-fault : goal.walk_children-returns-in_err-fault
walk_children-returns-in_err-fault g t c = IfOk-from_err _ _ c.from_residual.ensures.0
