use Rattle.std.proofs.Common.{IfSome, subst, ap, ◌∙◌}
use Rattle.xcc_form.specs.Correspondence.{IsPairOf}
use Rattle.xcc_form.specs.Options.{Compiled}
use Rattle.count_search.specs.Balance.{IsBalance}
use Rattle.count_search.proofs.BalanceLemmas.{counted_too, may_count}
use Rattle.count_search.proofs.balanced_sets.BalancedSetsOpenOptions.choose.Goals as goal
use Rattle.count_search.proofs.balanced_sets.BalancedSetsOpenOptions.choose.Goals.{in-Some, in_default}

pub add-requires : goal.add-requires
add-requires c =
    let s = c.self.inside.sets in
    let balance = subst (λ o. IfSome o (IsBalance s.compiled s.chosen)) c.in-Some.is c.self.invariant in
    may_count s c.choose.new.self c.args.option c.in_ok-choose.ensures.chosen c.chosen-right.ensures.right c.puzzle.result.now c.pair.result
    (record { puzzle = c.puzzle.ensures.value ∙ ap (λ (x : Compiled). x.puzzle) c.xcc.ensures; pair = subst (λ x. IsPairOf x c.args.option c.pair.result) c.xcc-in-Some.ensures c.pair.ensures })
    c.in-Some.balance balance

pub invariant_of-self-2 : goal.invariant_of-self-2
invariant_of-self-2 c = elim c.match-self.branch [
  | in-Some w ↦
      let s = c.self.inside.sets in
      let balance = subst (λ o. IfSome o (IsBalance s.compiled s.chosen)) w.in-Some.is c.self.invariant in
      rw w.self-inside-is
      (counted_too s c.choose.new.self c.args.option c.in_ok-choose.ensures.chosen w.chosen-right.ensures.right w.puzzle.result.now w.pair.result
      (record { puzzle = w.puzzle.ensures.value ∙ ap (λ (x : Compiled). x.puzzle) w.xcc.ensures; pair = subst (λ x. IsPairOf x c.args.option w.pair.result) w.xcc-in-Some.ensures w.pair.ensures })
      w.in-Some.balance w.add.new.self balance w.add.ensures)
  | in_default w ↦ rw w.self-inside-is (rw w.in_default.is tt)
]
