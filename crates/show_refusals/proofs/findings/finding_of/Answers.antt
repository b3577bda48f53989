use Rattle.std.proofs.Common.{◌≡◌, ◌∙◌, Contains, IfOk, List, MatchOption, Some, inl, map, refl, subst, sym}
use Rattle.match_puzzle.specs.Arrangement.{IsArrangement}
use Rattle.match_puzzle.specs.ArrangementFaults.{IsArrangementFault}
use Rattle.match_puzzle.specs.Prefix.{Prefix}
use Rattle.match_puzzle.specs.Puzzle.{Task}
use Rattle.match_puzzle.specs.declared.faults.ArrangementFault.{ArrangementFault}
use Rattle.match_puzzle.specs.declared.placements.Placement.{Placement}
use Rattle.show_refusals.specs.Findings.{IsFinding}
use Rattle.show_refusals.proofs.FindingLemmas.{one_full}
use Rattle.show_refusals.proofs.findings.finding_of.Goals as goal

pub returns-then-is_listed : goal.returns-then-is_listed
returns-then-is_listed g c = λ a stands.
    let (b, among, there) = c.if-is_listed.ensures in
    let same = one_full b a (sym there ∙ stands) in
    inl (subst (Contains c.args.question.now.listed) same (subst (λ (xs : List (List Placement)). Contains xs b) c.listed.ensures.listed among))

pub unlisted_finding-requires-clause-unlisted : goal.unlisted_finding-requires-clause-unlisted
unlisted_finding-requires-clause-unlisted g c =
    let placed = c.args.partial.now.placed in
    let p = c.args.partial.now.puzzle in
    let a = c.in-Some.arrangement in
    let full = subst (λ o. MatchOption o ((b : List Placement) → placed ≡ map Some b → (fault : ArrangementFault) × IsArrangementFault p b fault) (λ b. (placed ≡ map Some b) × IsArrangement p b)) c.in-Some.is c.in_ok-arrangement.ensures in
    record {
      stands = refl;
      arrangement = subst (λ (q : Task). IsArrangement q a) c.requires.board full.1;
      unlisted = λ among. c.if-is_listed.ensures a (subst (λ (xs : List (List Placement)). Contains xs a) (sym c.listed.ensures.listed) among) full.0;
    }

pub returns : goal.returns
returns g c =
    let placed = c.args.partial.now.placed in
    let p = c.args.partial.now.puzzle in
    let full = subst (λ o. MatchOption o ((b : List Placement) → placed ≡ map Some b → (fault : ArrangementFault) × IsArrangementFault p b fault) (λ b. (placed ≡ map Some b) × IsArrangement p b)) c.in-Some.is c.in_ok-arrangement.ensures in
    subst (λ (q : Prefix). IfOk c.unlisted_finding.result (IsFinding c.args.question.now q)) (sym full.0) c.unlisted_finding.ensures
