use Rattle.std.proofs.Common.{◌≡◌, ◌<◌, ◌-◌, Some, IfSome, length, get_or, slice_get, arith, subst, sym, ap, ◌∙◌}
use Rattle.std.specs.Option.{option_copied}
use Rattle.std.proofs.lemmas.Option.{none-some, slice_get-get_or}
use Rattle.xcc_form.specs.Chosen.{Selection}
use Rattle.xcc_form.specs.Correspondence.{IsPairOf}
use Rattle.xcc_form.specs.Options.{Compiled}
use Rattle.count_search.specs.Balance.{IsBalance}
use Rattle.count_search.proofs.BalanceLemmas.{last_real, last_taken, may_take_last}
use Rattle.count_search.proofs.balanced_sets.BalancedSetsOpenOptions.undo.Goals as goal
use Rattle.count_search.proofs.balanced_sets.BalancedSetsOpenOptions.undo.Goals.{in-Some+in-Some-last, in-Some+in_default-last, in_default}

pub pair-requires : goal.pair-requires
pair-requires c =
    let s = c.self.inside.sets in
    let option = c.in-Some-last.option.now in
    let last = subst (λ xs. slice_get xs (length xs - 1) ≡ Some option) c.chosen.ensures.value (sym c.in-Some-last.ensures.value) in
    subst (λ (x : Compiled). option < length x.options) (sym c.xcc-in-Some-last.ensures) (last_real s option last c.chosen.ensures.right)

pub take_back-requires : goal.take_back-requires
take_back-requires c =
    let s = c.self.inside.sets in
    let option = c.in-Some-last.option.now in
    let last = subst (λ xs. slice_get xs (length xs - 1) ≡ Some option) c.chosen.ensures.value (sym c.in-Some-last.ensures.value) in
    let some = subst (λ (v : Selection). 0 < length v.chosen) (sym c.self.view_is) c.requires in
    let balance = subst (λ o. IfSome o (IsBalance s.compiled s.chosen)) c.in-Some.is c.self.invariant in
    may_take_last s option some last c.chosen.ensures.right c.puzzle.result.now c.pair.result
    (record { puzzle = c.puzzle.ensures.value ∙ ap (λ (x : Compiled). x.puzzle) c.xcc.ensures; pair = subst (λ x. IsPairOf x option c.pair.result) c.xcc-in-Some-last.ensures c.pair.ensures })
    c.in-Some.balance balance

pub invariant_of-self : goal.invariant_of-self
invariant_of-self c = elim c.match-self.branch [
  | in-Some+in-Some-last w ↦
      let s = c.self.inside.sets in
      let option = w.in-Some-last.option.now in
      let last = subst (λ xs. slice_get xs (length xs - 1) ≡ Some option) w.chosen.ensures.value (sym w.in-Some-last.ensures.value) in
      let some = subst (λ (v : Selection). 0 < length v.chosen) (sym c.self.view_is) c.requires in
      let balance = subst (λ o. IfSome o (IsBalance s.compiled s.chosen)) w.in-Some.is c.self.invariant in
      let taken = last_taken s option some last w.chosen.ensures.right w.puzzle.result.now w.pair.result
      (record { puzzle = w.puzzle.ensures.value ∙ ap (λ (x : Compiled). x.puzzle) w.xcc.ensures; pair = subst (λ x. IsPairOf x option w.pair.result) w.xcc-in-Some-last.ensures w.pair.ensures })
      w.in-Some.balance w.take_back.new.self balance w.take_back.ensures in
      let back = c.undo.ensures in
      rw w.self-inside-is (rw back (rw w.self-inside-is taken))
  | in-Some+in_default-last w ↦
      let xs = w.chosen.result.now in
      let some = subst (λ (v : Selection). 0 < length v.chosen) (sym c.self.view_is) c.requires in
      let long : 0 < length xs = subst (λ ys. 0 < length ys) (sym w.chosen.ensures.value) some in
      let none = ap option_copied (sym w.in_default-last.is) ∙ w.last.ensures.value in
      absurd (none-some (get_or xs (length xs - 1) 0) (none ∙ slice_get-get_or xs (length xs - 1) 0 (omega (arith, long))))
  | in_default w ↦ rw w.self-inside-is (rw w.in_default.is tt)
]
