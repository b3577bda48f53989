use Rattle.std.proofs.Common.{◌≡◌, ◌∙◌, List, MatchOption, Some, map, subst, sym}
use Rattle.match_puzzle.specs.ArrangementFaults.{IsArrangementFault}
use Rattle.match_puzzle.specs.Puzzle.{Task}
use Rattle.match_puzzle.specs.declared.placements.Placement.{Placement}
use Rattle.show_refusals.proofs.FindingLemmas.{one_full}
use Rattle.show_refusals.proofs.findings.arrangement_on.Goals as goal

pub returns-in-Some-arrangement_fault : goal.returns-in-Some-arrangement_fault
returns-in-Some-arrangement_fault c = λ a stands.
    let placed = c.args.partial.now.placed in
    let there = subst (λ o. MatchOption o ((b : List Placement) → placed ≡ map Some b → ⊥) (λ v. placed ≡ map Some v.items)) c.in-Some.is c.in_ok-placements.ensures in
    let same = one_full c.in-Some.placements.items a (sym there ∙ stands) in
    let fault = c.in-Some-arrangement_fault.field-0 in (
      fault,
      subst (λ (p : Task). IsArrangementFault p a fault) c.puzzle.ensures.same
          (subst (λ (b : List Placement). IsArrangementFault c.puzzle.result.now b fault) (c.deref.ensures.value ∙ same) c.in-Some-arrangement_fault.ensures),
    )
