use Rattle.std.proofs.Common.{◌≡◌, ◌∙◌, List, [], ap, sym, subst}
use Rattle.std.proofs.lemmas.Result.{err_from_is_err_and}
use Rattle.match_limits.specs.declared.TheConstants.{MOST_ARRANGEMENTS}
use Rattle.match_puzzle.specs.declared.placements.Placement.{Placement}
use Rattle.puzzle_symmetry.specs.Motion.{Motion}
use Rattle.puzzle_symmetry.specs.Complete.{IsCompleteList}
use Rattle.cert_check.specs.Setting.{Question, motions_of}
use Rattle.symmetry_orbits.specs.Closure.{AddsEach}
use Rattle.symmetry_orbits.specs.Expansion.{AreMoreReached, IsExpansion, Takes}
use Rattle.match_report.specs.CompleteLists.{AreAllInOrder}
use Rattle.symmetry_orbits.proofs.RepetitionLemmas.{closure_all}
use Rattle.symmetry_orbits.proofs.MemberLemmas.{same_error}
use Rattle.match_report.proofs.CompleteLemmas.{all_in_order, all_within, kept_are, kept_reach}
use Rattle.match_report.proofs.complete_lists.expand_complete.Goals.{After-deref}
use Rattle.match_report.proofs.complete_lists.expand_complete.Goals as goal

-- ---- what is expanded: the list, by the symmetries that are kept of the lines

listed_is : (g : _) (c : After-deref g) → c.listed-listed.result.now ≡ c.args.prepared.listed
listed_is g c = c.listed-listed.ensures.listed ∙ ap (λ (q : Question). q.listed) c.question-question.ensures.question

complete : (g : _) (c : After-deref g) → IsCompleteList c.args.prepared.puzzle c.args.prepared.symmetries c.listed-listed.result.now
complete g c = subst (IsCompleteList c.args.prepared.puzzle c.args.prepared.symmetries) (sym (listed_is g c)) c.requires

kept : (g : _) (c : After-deref g) → AddsEach [] (motions_of c.args.prepared) c.deref.result.now
kept g c = subst (AddsEach [] (motions_of c.args.prepared)) (sym c.deref.ensures.value)
    (subst (λ (ms : List Motion). AddsEach [] ms c.distinct_symmetries-symmetries.result.items) c.into_symmetries.ensures c.distinct_symmetries-symmetries.ensures)

expansion : (g : _) (c : After-deref g) (all : List (List Placement)) → IsExpansion c.deref.result.now c.listed-listed.result.now all → IsExpansion (motions_of c.args.prepared) c.listed-listed.result.now all
expansion g c all is = closure_all Takes (motions_of c.args.prepared) c.deref.result.now (kept g c) c.listed-listed.result.now all is

-- ---- the goals

pub expand-requires : goal.expand-requires
expand-requires g c =
    let at = (goal.at.expand-requires g c).After-deref in
    let p = c.args.prepared.puzzle in
    (p, kept_are p c.listed-listed.result.now c.args.prepared.symmetries c.question-question.ensures.puzzle (complete g at) c.deref.result.now (kept g at))

pub returns-in_err-all-clause-too_many : goal.returns-in_err-all-clause-too_many
returns-in_err-all-clause-too_many g c =
    let at = (goal.at.returns-in_err-all-clause-too_many g c).After-deref in
    let p = c.args.prepared.puzzle in
    let lines = c.args.prepared.symmetries in
    let listed = c.listed-listed.result.now in
    let puzzle = c.question-question.ensures.puzzle in
    let are = kept_are p listed lines puzzle (complete g at) c.deref.result.now (kept g at) in
    let w = err_from_is_err_and c.from_residual.result c.from_residual.ensures.1 in
    rw (w.1, w.2) (λ e.
    subst (AreMoreReached MOST_ARRANGEMENTS p lines) (listed_is g at) (kept_reach p listed lines puzzle (complete g at) MOST_ARRANGEMENTS c.deref.result.now (kept g at) (c.in_err-all.ensures.too_many (same_error e) p are)))

pub returns-clause-within : goal.returns-clause-within
returns-clause-within g c =
    let at = (goal.at.returns-clause-within g c).After-deref in
    let all = c.in_ok-all.all.keys in
    all_within c.args.prepared.puzzle c.listed-listed.result.now c.args.prepared.symmetries c.question-question.ensures.puzzle (complete g at) all (expansion g at all c.in_ok-all.ensures.expansion) c.in_ok-all.ensures.few

pub returns-clause-all : goal.returns-clause-all
returns-clause-all g c =
    let at = (goal.at.returns-clause-all g c).After-deref in
    let prepared = c.args.prepared in
    let all = c.in_ok-all.all.keys in
    let ordered = all_in_order prepared.puzzle c.listed-listed.result.now prepared.symmetries c.question-question.ensures.puzzle (complete g at) all (expansion g at all c.in_ok-all.ensures.expansion) c.in_ok-all.ensures.few prepared.lemmas in
    subst (λ (l : List (List Placement)). AreAllInOrder (record { puzzle = prepared.puzzle; listed = l; symmetries = prepared.symmetries; lemmas = prepared.lemmas }) all) (listed_is g at) ordered
