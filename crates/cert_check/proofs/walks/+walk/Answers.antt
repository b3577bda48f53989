use Rattle.std.proofs.Common.{◌≡◌, ◌<◌, ◌≤◌, ◌+◌, ◌-◌, ℕ, suc, IfOk, None, MatchBool, ◌≢◌, map, arith, ap, sym, ◌∙◌, refl, subst}
use Rattle.std.proofs.lemmas.Result.{IfOk-from_err}
use Rattle.match_puzzle.specs.Puzzle.{Task}
use Rattle.match_puzzle.specs.Prefix.{Layout}
use Rattle.match_puzzle.specs.Fitting.{numbered_pair}
use Rattle.cert_tree.specs.Tree.{branch, count}
use Rattle.cert_tree.specs.Heads.{first, front, past}
use Rattle.cert_tree.proofs.HeadLemmas.{count-front, past_first, count_first}
use Rattle.cert_check.specs.NodeRules.{IsBranch}
use Rattle.cert_check.specs.Walk.{Tells}
use Rattle.cert_check.proofs.WalkLemmas.{branch_told, Going, going_start, going_done, some_left, turn_of, turn_some, turn_fits, turn_placed, turn_fewer, turn_said, still_some, turn_has, turn_lifted, turn_more}
use Rattle.cert_check.proofs.walks.+walk.Goals as goal

pub walk_branch-returns-in-Some-clause-tells : goal.walk_branch-returns-in-Some-clause-tells
walk_branch-returns-in-Some-clause-tells t c =
    branch_told c.args.setting.now c.args.partial.now c.args.item c.args.children c.args.trees.now c.in-Some.of_node _ c.requires.made c.requires.counted c.in-Some.ensures.fault c.at_top.ensures.fault

pub walk_branch-loop-number-init : goal.walk_branch-loop-number-init
walk_branch-loop-number-init t c =
    let s = c.args.setting.now in
    let q = c.args.partial.now.placed in
    let trees = front c.args.children c.args.trees.now in
    let many = count-front c.args.children c.args.trees.now c.requires.counted in
    let pairs = map (numbered_pair c.args.item) c.branch_fault.new.numbers in
    let is = subst (λ (p : Task). IsBranch p q c.args.item c.args.children pairs) c.requires.made c.in_default.ensures.fault in
    let all : c.args.children ≡ c.args.children - 0 = omega arith in
    record {
      partial = refl;
      going = subst (λ xs. Going s c.args.item q trees 0 (front (c.args.children - 0) c.args.trees.now) xs) (sym c.of-pairs.ensures) (subst (λ n. Going s c.args.item q trees 0 (front n c.args.trees.now) pairs) all (going_start s c.args.item q trees pairs (subst (λ n. IsBranch s.puzzle q c.args.item n pairs) (sym many) is)));
      past = ap (λ n. past n c.args.trees.now) (sym all);
      no_fault = c.requires.no_fault;
      counted = let h = c.requires.counted in omega arith;
    }

-- the children that are left at a turn, one and the others
less : (i n : ℕ) → i < n → n - i ≡ suc (n - (i + 1))
less i n below = omega arith

pub walk_branch-place_first-pair-requires-clause-some : goal.walk_branch-place_first-pair-requires-clause-some
walk_branch-place_first-pair-requires-clause-some t c =
    let l = c.loop-number in
    turn_some l.trees l.invariant.partial l.invariant.going l.invariant.counted c.loop-number-test.true

pub walk_branch-place_first-pair-requires-clause-fits : goal.walk_branch-place_first-pair-requires-clause-fits
walk_branch-place_first-pair-requires-clause-fits t c = λ pair rest took.
    let l = c.loop-number in
    turn_fits (turn_of l.trees l.invariant.partial l.invariant.going l.invariant.counted c.loop-number-test.true pair rest took) c.requires.made

pub walk_branch-walk-requires : goal.walk_branch-walk-requires
walk_branch-walk-requires t c =
    let l = c.loop-number in
    let n = c.args.children in
    let turn = turn_of c.loop-number.trees c.loop-number.invariant.partial c.loop-number.invariant.going c.loop-number.invariant.counted c.loop-number-test.true c.place_first-pair.result c.place_first-pair.new.pairs c.place_first-pair.ensures.taken in
    let fewer = turn_fewer turn c.place_first-pair.new.partial c.place_first-pair.ensures.placed in
    let placed = turn_placed turn c.place_first-pair.new.partial c.place_first-pair.ensures.placed in
    let some : 0 < n - l.number = let below = c.loop-number-test.true in omega arith in
    (omega (arith, c.decreases, fewer), (ap (λ (u : Layout). u.puzzle) placed ∙ c.requires.made, (some_left (n - l.number) l.trees some l.invariant.counted, l.invariant.no_fault)))

pub walk_branch-returns-then-not-branch-clause-holds : goal.walk_branch-returns-then-not-branch-clause-holds
walk_branch-returns-then-not-branch-clause-holds t c =
    let said = c.walk.new.fault in
    let some = subst (λ b. MatchBool b (said ≡ None) (said ≢ None)) c.if-not-branch.true c.in_ok-walk.ensures.holds in
    still_some c.loop-number.number said c.put_below.new.fault some c.in_ok-put_below.ensures

pub walk_branch-returns-then-not-branch-clause-tells : goal.walk_branch-returns-then-not-branch-clause-tells
walk_branch-returns-then-not-branch-clause-tells t c =
    let turn = turn_of c.loop-number.trees c.loop-number.invariant.partial c.loop-number.invariant.going c.loop-number.invariant.counted c.loop-number-test.true c.place_first-pair.result c.place_first-pair.new.pairs c.place_first-pair.ensures.taken in
    let said = c.walk.new.fault in
    let some = subst (λ b. MatchBool b (said ≡ None) (said ≢ None)) c.if-not-branch.true c.in_ok-walk.ensures.holds in
    turn_said turn c.place_first-pair.new.partial c.place_first-pair.ensures.placed said c.put_below.new.fault some c.in_ok-walk.ensures.tells c.in_ok-put_below.ensures

pub walk_branch-returns-clause-holds : goal.walk_branch-returns-clause-holds
walk_branch-returns-clause-holds t c = c.loop-number.invariant.no_fault

pub walk_branch-returns-clause-tells : goal.walk_branch-returns-clause-tells
walk_branch-returns-clause-tells t c =
    let s = c.args.setting.now in
    let q = c.args.partial.now.placed in
    let l = c.loop-number in
    let trees = front c.args.children c.args.trees.now in
    let none_left : c.args.children - l.number ≡ 0 = let at_end = c.loop-number-test.false in omega (arith, at_end) in
    subst (Tells s (branch c.args.item trees) q) (sym l.invariant.no_fault)
    (going_done s c.args.item q trees l.number l.pairs (subst (λ n. Going s c.args.item q trees l.number (front n l.trees) l.pairs) none_left l.invariant.going))

pub walk_branch-lift-requires : goal.walk_branch-lift-requires
walk_branch-lift-requires t c =
    let turn = turn_of c.loop-number.trees c.loop-number.invariant.partial c.loop-number.invariant.going c.loop-number.invariant.counted c.loop-number-test.true c.place_first-pair.result c.place_first-pair.new.pairs c.place_first-pair.ensures.taken in
    let said = c.walk.new.fault in
    let none = subst (λ b. MatchBool b (said ≡ None) (said ≢ None)) c.if-not-branch.false c.in_ok-walk.ensures.holds in
    (c.place_first-pair.result.placement, turn_has turn c.place_first-pair.new.partial c.place_first-pair.ensures.placed c.walk.new.partial (c.in_ok-walk.ensures.restored none))

pub walk_branch-loop-number-preserved : goal.walk_branch-loop-number-preserved
walk_branch-loop-number-preserved t c =
    let s = c.args.setting.now in
    let w = c.args.partial.now in
    let l = c.loop-number in
    let i = l.number in
    let n = c.args.children in
    let all = front n c.args.trees.now in
    let child = first l.trees in
    let fewer = less i n c.loop-number-test.true in
    let turn = turn_of c.loop-number.trees c.loop-number.invariant.partial c.loop-number.invariant.going c.loop-number.invariant.counted c.loop-number-test.true c.place_first-pair.result c.place_first-pair.new.pairs c.place_first-pair.ensures.taken in
    let said = c.walk.new.fault in
    let none = subst (λ b. MatchBool b (said ≡ None) (said ≢ None)) c.if-not-branch.false c.in_ok-walk.ensures.holds in
    let restored = c.in_ok-walk.ensures.restored none in
    let holds = subst (Tells s child c.place_first-pair.new.partial.placed) none c.in_ok-walk.ensures.tells in
    let gone = c.in_ok-walk.ensures.past none in
    record {
      partial = turn_lifted turn c.place_first-pair.new.partial c.place_first-pair.ensures.placed c.walk.new.partial restored c.lift.new.self c.lift.ensures;
      going = subst (λ trees. Going s c.args.item w.placed all (i + 1) (front (n - (i + 1)) trees) c.place_first-pair.new.pairs) (sym gone) (turn_more turn c.place_first-pair.new.partial c.place_first-pair.ensures.placed c.walk.new.partial restored holds);
      no_fault = none;
      past = ap (past (n - (i + 1))) gone ∙ sym (past_first (n - i) (n - (i + 1)) l.trees fewer l.invariant.counted) ∙ l.invariant.past;
      counted = subst (λ trees. n - (i + 1) ≤ count trees) (sym gone) (count_first (n - i) (n - (i + 1)) l.trees fewer l.invariant.counted);
    }

pub walk-returns-in-Cell : goal.walk-returns-in-Cell
walk-returns-in-Cell t c =
    let walked = c.walk_branch in
    let put = c.in-Cell.ensures.first in
    record {
      holds = walked.ensures.holds;
      tells = subst (λ tree. IfOk walked.result (λ _. Tells c.args.setting.now tree c.args.partial.now.placed walked.new.fault)) (ap first put) walked.ensures.tells;
      restored = walked.ensures.restored;
      past = subst (λ rest. IfOk walked.result (λ _. walked.new.fault ≡ None → walked.new.trees ≡ rest)) (ap (past 1) put) walked.ensures.past;
    }

pub walk-returns-in-Tile : goal.walk-returns-in-Tile
walk-returns-in-Tile t c =
    let walked = c.walk_branch-in-Tile in
    let put = c.in-Tile.ensures.first in
    record {
      holds = walked.ensures.holds;
      tells = subst (λ tree. IfOk walked.result (λ _. Tells c.args.setting.now tree c.args.partial.now.placed walked.new.fault)) (ap first put) walked.ensures.tells;
      restored = walked.ensures.restored;
      past = subst (λ rest. IfOk walked.result (λ _. walked.new.fault ≡ None → walked.new.trees ≡ rest)) (ap (past 1) put) walked.ensures.past;
    }

pub walk_branch-returns-in_err-walk : goal.walk_branch-returns-in_err-walk
walk_branch-returns-in_err-walk t c = let failed = c.from_residual.ensures.0 in record {
  holds = IfOk-from_err _ _ failed;
  tells = IfOk-from_err _ _ failed;
  restored = IfOk-from_err _ _ failed;
  past = IfOk-from_err _ _ failed;
}

pub walk_branch-returns-in_err-put_below : goal.walk_branch-returns-in_err-put_below
walk_branch-returns-in_err-put_below t c = let failed = c.from_residual-in_err-put_below.ensures.0 in record {
  holds = IfOk-from_err _ _ failed;
  tells = IfOk-from_err _ _ failed;
  restored = IfOk-from_err _ _ failed;
  past = IfOk-from_err _ _ failed;
}

pub walk_branch-returns-clause-restored : goal.walk_branch-returns-clause-restored
walk_branch-returns-clause-restored t c = λ _. c.loop-number.invariant.partial
