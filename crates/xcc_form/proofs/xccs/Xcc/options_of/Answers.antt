use Rattle.std.proofs.Common.{◌≡◌, ◌<◌, ◌++◌, ◌∷◌, [], ◌∙◌, ◌+◌, ℕ, Some, Vec, Global, slice_get, get_or, ap, arith, subst, sym}
use Rattle.std.proofs.lemmas.Option.{slice_get-get_or}
use Rattle.match_limits.specs.Listing.{IsListing}
use Rattle.match_puzzle.specs.Puzzle.{Task}
use Rattle.match_puzzle.specs.declared.placements.Placement.{Placement}
use Rattle.match_puzzle.specs.Arrangement.{IsArrangement, Stands}
use Rattle.xcc_form.proofs.OptionLemmas.{option_pair}
use Rattle.xcc_form.proofs.SolutionLemmas.{stands_one}
use Rattle.xcc_form.proofs.ConversionLemmas.{IsTaken, is_that, is_other, one_taken, none_more_taken, all_taken}
use Rattle.xcc_form.proofs.WholeLemmas.{one_arrangement}
use Rattle.xcc_form.proofs.FaultLemmas.{is_refused, is_whole}
use Rattle.xcc_form.proofs.xccs.Xcc.options_of.Goals as goal
use Rattle.xcc_form.proofs.xccs.Xcc.options_of.Goals.{then-eq+in_ok-push, else-eq}

pub returns-then-is_some-clause-refused : goal.returns-then-is_some-clause-refused
returns-then-is_some-clause-refused c = λ _ whole.
    is_refused c.puzzle.result.now c.args.placements.now c.arrangement_fault.result c.arrangement_fault.ensures (sym c.is_some.ensures ∙ c.if-is_some.true)
    (subst (λ (p : Task). IsArrangement p c.args.placements.now) (sym c.puzzle.ensures.value) whole)

pub bounds-placements-from : goal.bounds-placements-from
bounds-placements-from c =
    let a = c.args.placements.now in
    let whole = is_whole c.puzzle.result.now a c.arrangement_fault.result c.arrangement_fault.ensures (sym c.is_some.ensures ∙ c.if-is_some.false) in
    let whole_here = subst (λ (p : Task). IsArrangement p a) c.puzzle.ensures.value whole in
    let within = (option_pair c.args.self.now c.puzzle.ensures.compiled c.loop-option.option c.pair-pair.result c.pair-pair.ensures).cell in
    omega (arith, within, whole_here.cells, c.from.ensures)

pub returns-in_err-push-clause-memory : goal.returns-in_err-push-clause-memory
returns-in_err-push-clause-memory c = λ _.
    let a = c.args.placements.now in
    subst (λ (p : Task). IsArrangement p a) c.puzzle.ensures.value (is_whole c.puzzle.result.now a c.arrangement_fault.result c.arrangement_fault.ensures (sym c.is_some.ensures ∙ c.if-is_some.false))

pub loop-option-preserved : goal.loop-option-preserved
loop-option-preserved c =
    let x = c.args.self.now in
    let is = c.puzzle.ensures.compiled in
    let a = c.args.placements.now in
    let k = c.loop-option.option in
    let y = c.pair-pair.result in
    let old = c.loop-option.options.items in
    let new = c.if-eq.options.items in
    let whole = subst (λ (p : Task). IsArrangement p a) c.puzzle.ensures.value (is_whole c.puzzle.result.now a c.arrangement_fault.result c.arrangement_fault.ensures (sym c.is_some.ensures ∙ c.if-is_some.false)) in
    let within = (option_pair x is k y c.pair-pair.ensures).cell in
    let z : Placement = get_or a c.from.result (record { tile = 0; turn = 0 }) in
    let here : Stands a y.cell z = ap (slice_get a) (sym c.from.ensures) ∙ slice_get-get_or a c.from.result (record { tile = 0; turn = 0 }) (omega (arith, within, whole.cells, c.from.ensures)) in
    elim c.if-eq.branch [
      | then-eq+in_ok-push w ↦
          let pushed : new ≡ old ++ k ∷ [] = ap (λ (v : Vec ℕ Global). v.items) w.options-is ∙ w.in_ok-push.ensures.items in
          let same = is_that z y.placement (sym c.eq.ensures ∙ w.if-eq.true) in
          one_taken x is a k y old new c.pair-pair.ensures (here ∙ ap Some same) pushed c.loop-option.invariant
      | else-eq w ↦
          let same : new ≡ old = ap (λ (v : Vec ℕ Global). v.items) w.options-is in
          let other = is_other z y.placement (sym c.eq.ensures ∙ w.if-eq.false) in
          subst (IsListing ◌<◌ (IsTaken x a (k + 1))) (sym same) (none_more_taken x is a k y old c.pair-pair.ensures (λ s. other (stands_one a y.cell z y.placement here s)) c.loop-option.invariant)
    ]

pub returns-clause-solution : goal.returns-clause-solution
returns-clause-solution c =
    let x = c.args.self.now in
    let a = c.args.placements.now in
    let whole = subst (λ (p : Task). IsArrangement p a) c.puzzle.ensures.value (is_whole c.puzzle.result.now a c.arrangement_fault.result c.arrangement_fault.ensures (sym c.is_some.ensures ∙ c.if-is_some.false)) in
    let are = all_taken x c.puzzle.ensures.compiled a c.loop-option.option c.loop-option.options.items whole (omega (arith, c.loop-option-test.false, c.options-option-end.ensures)) c.loop-option.invariant in
    record { solution = are.solution; arrangement = whole; filled = are.same }

pub returns-clause-by_cell : goal.returns-clause-by_cell
returns-clause-by_cell c =
    let x = c.args.self.now in
    let a = c.args.placements.now in
    let whole = subst (λ (p : Task). IsArrangement p a) c.puzzle.ensures.value (is_whole c.puzzle.result.now a c.arrangement_fault.result c.arrangement_fault.ensures (sym c.is_some.ensures ∙ c.if-is_some.false)) in
    (all_taken x c.puzzle.ensures.compiled a c.loop-option.option c.loop-option.options.items whole (omega (arith, c.loop-option-test.false, c.options-option-end.ensures)) c.loop-option.invariant).by_cell

pub returns-clause-undone : goal.returns-clause-undone
returns-clause-undone c = λ b of.
    let x = c.args.self.now in
    let a = c.args.placements.now in
    let options = c.loop-option.options.items in
    let whole = subst (λ (p : Task). IsArrangement p a) c.puzzle.ensures.value (is_whole c.puzzle.result.now a c.arrangement_fault.result c.arrangement_fault.ensures (sym c.is_some.ensures ∙ c.if-is_some.false)) in
    let are = all_taken x c.puzzle.ensures.compiled a c.loop-option.option options whole (omega (arith, c.loop-option-test.false, c.options-option-end.ensures)) c.loop-option.invariant in
    one_arrangement x c.puzzle.ensures.compiled options b a of.filled are.same
