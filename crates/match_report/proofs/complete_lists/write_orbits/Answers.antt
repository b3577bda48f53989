use Rattle.std.proofs.Common.{◌≡◌, ◌∙◌, List, ap, map, refl, sym, subst}
use Rattle.std.proofs.lemmas.Result.{err_from_is_err_and}
use Rattle.match_limits.specs.declared.TheConstants.{MOST_ARRANGEMENTS}
use Rattle.match_puzzle.specs.Puzzle.{Task}
use Rattle.match_puzzle.specs.declared.placements.Placement.{Placement}
use Rattle.match_text.specs.ListSpelling.{IsListText, IsListWithin}
use Rattle.match_limits.specs.declared.ranges.TheConstants.{SECOND}
use Rattle.puzzle_symmetry.specs.Motion.{line_of}
use Rattle.match_board.specs.declared.symmetry_lines.SymmetryLine.{SymmetryLine}
use Rattle.cert_check.specs.Setting.{Question}
use Rattle.symmetry_orbits.specs.Expansion.{AreOf}
use Rattle.symmetry_orbits.specs.Firsts.{AreFirstOfEachOrbit}
use Rattle.symmetry_orbits.specs.Orbits.{AreMoreListedOrInOrbit, AreOneOfEachOrbit}
use Rattle.symmetry_orbits.proofs.MemberLemmas.{same_error}
use Rattle.match_report.proofs.CompleteLemmas.{firsts_within, read_are, said_of_question}
use Rattle.match_report.proofs.complete_lists.write_orbits.Goals.{After-symmetries-symmetries}
use Rattle.match_report.proofs.complete_lists.write_orbits.Goals as goal

-- ---- what is read: the list and the lines' symmetries

listed_is : (g : _) (c : After-symmetries-symmetries g) → c.listed-listed.result.now ≡ c.args.prepared.now.listed
listed_is g c = c.listed-listed.ensures.listed ∙ ap (λ (q : Question). q.listed) c.question-question.ensures.question

are : (g : _) (c : After-symmetries-symmetries g) → AreOf c.args.prepared.now.puzzle c.listed-listed.result.now c.symmetries-symmetries.result.now
are g c = read_are c.args.prepared.now c.question-question.ensures.puzzle c.requires c.args.prepared.now.puzzle c.listed-listed.result.now c.symmetries-symmetries.result.now refl (listed_is g c) c.symmetries-symmetries.ensures

said : (g : _) (c : After-symmetries-symmetries g) (P : Task → List SymmetryLine → List (List Placement) → Type 0) → P c.args.prepared.now.puzzle (map line_of c.symmetries-symmetries.result.now) c.listed-listed.result.now
    → P c.args.prepared.now.puzzle c.args.prepared.now.symmetries c.args.prepared.now.listed
said g c = said_of_question c.args.prepared.now c.question-question.ensures.puzzle c.requires c.args.prepared.now.puzzle c.listed-listed.result.now c.symmetries-symmetries.result.now refl (listed_is g c) c.symmetries-symmetries.ensures

-- ---- the goals

pub first_of_each_orbit-requires : goal.first_of_each_orbit-requires
first_of_each_orbit-requires g c =
    let at = (goal.at.first_of_each_orbit-requires g c).After-symmetries-symmetries in
    (c.args.prepared.now.puzzle, are g at)

pub returns-in_err-firsts-clause-too_many : goal.returns-in_err-firsts-clause-too_many
returns-in_err-firsts-clause-too_many g c =
    let at = (goal.at.returns-in_err-firsts-clause-too_many g c).After-symmetries-symmetries in
    let p = c.args.prepared.now.puzzle in
    let w = err_from_is_err_and c.from_residual.result c.from_residual.ensures.1 in
    rw (w.1, w.2) (λ e. said g at (AreMoreListedOrInOrbit MOST_ARRANGEMENTS) (c.in_err-firsts.ensures.too_many (same_error e) p (are g at)))

pub write_list-requires : goal.write_list-requires
write_list-requires g c =
    let at = (goal.at.write_list-requires g c).After-symmetries-symmetries in
    let p = c.args.prepared.now.puzzle in
    let firsts = c.in_ok-firsts.firsts.items in
    subst (IsListWithin SECOND) (sym c.deref.ensures.value)
    (firsts_within c.args.prepared.now c.question-question.ensures.puzzle c.requires p c.listed-listed.result.now c.symmetries-symmetries.result.now refl (listed_is g at) c.symmetries-symmetries.ensures firsts (c.in_ok-firsts.ensures.one_of_each p (are g at)) c.in_ok-firsts.ensures.few)

pub returns-clause-firsts : goal.returns-clause-firsts
returns-clause-firsts g c =
    let at = (goal.at.returns-clause-firsts g c).After-symmetries-symmetries in
    let p = c.args.prepared.now.puzzle in
    let firsts = c.in_ok-firsts.firsts.items in (
      firsts,
      record {
        first_listed = said g at (λ q lines l. AreFirstOfEachOrbit q lines l firsts) (c.in_ok-firsts.ensures.firsts p (are g at));
        one_of_each = said g at (λ q lines l. AreOneOfEachOrbit q lines l firsts) (c.in_ok-firsts.ensures.one_of_each p (are g at));
      },
      subst (λ (l : List (List Placement)). IsListText l c.in_ok-text.text.items) c.deref.ensures.value
          (record { first = c.in_ok-text.ensures.first; second = c.in_ok-text.ensures.second }),
    )
